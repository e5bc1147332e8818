-- The bounds are fair (Judging.antt).
use mathlib.Core.Path.{refl}
use Rattle.examiner.proofs.Judging.{fair}
use Rattle.examiner.proofs.satisfiable_without_signatures.Goals as goal

pub satisfiable-requires : goal.satisfiable-requires
satisfiable-requires c = fair _ refl
