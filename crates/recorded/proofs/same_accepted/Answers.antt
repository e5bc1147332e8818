-- Every path below what was counted can be asked for.
use Rattle.paths.proofs.Whole.{counted_asked}
use Rattle.recorded.proofs.same_accepted.Goals as goal

pub same_counted-requires : goal.same_counted-requires
same_counted-requires c = counted_asked _ _ _ c.requires c.count_paths-count.ensures
