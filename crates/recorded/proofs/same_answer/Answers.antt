-- An image whose head is seen can be walked.
use Rattle.paths.proofs.Whole.{seen_accepted}
use Rattle.recorded.proofs.same_answer.Goals as goal

pub same_accepted-requires : goal.same_accepted-requires
same_accepted-requires c = seen_accepted _ _ c.in-Ok.ensures
