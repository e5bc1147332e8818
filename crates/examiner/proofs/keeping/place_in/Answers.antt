-- The place fields, one by one (Checkpoints.antt).
use Rattle.examiner.proofs.Checkpoints.{place_is}
use Rattle.examiner.proofs.keeping.place_in.Goals as goal

pub returns : goal.returns
returns c = place_is _ _ _ _ c.two.ensures.0 c.four.ensures.0 c.four-2.ensures.0
