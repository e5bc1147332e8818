-- The bounds are fair (Judging.antt).
use mathlib.Core.Path.{refl}
use Rattle.examiner.proofs.Judging.{fair}
use Rattle.examiner.proofs.satisfiable_at_all.Goals as goal

pub satisfiable-requires : goal.satisfiable-requires
satisfiable-requires c = fair _ refl
