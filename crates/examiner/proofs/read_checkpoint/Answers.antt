-- The bounds are fair (Judging.antt).
use mathlib.Core.Path.{refl}
use Rattle.examiner.proofs.Judging.{fair}
use Rattle.examiner.proofs.read_checkpoint.Goals as goal

pub restore-requires : goal.restore-requires
restore-requires c = fair _ refl
