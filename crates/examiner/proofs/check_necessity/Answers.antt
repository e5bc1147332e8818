-- The first place fits, and the slice from there on is the unstopped run (Slices.antt).
use Rattle.examiner.proofs.Leaving.{leaves}
use mathlib.Core.Path.{refl, ◌∙◌}
use native.Mathlib.Omega.{arith}
use Rattle.examiner.proofs.Judging.{fair}
use Rattle.examiner.proofs.Slices.{check_refused, check_judged, check_done}
use Rattle.examiner.proofs.check_necessity.Goals as goal

pub returns-in_err-sight : goal.returns-in_err-sight
returns-in_err-sight c = leaves _ _ _ c.from_residual.ensures.1 (check_refused _ _ c.in_err-sight.ensures)

pub run-stood-requires : goal.run-stood-requires
run-stood-requires c =
    (fair _ refl, check_judged _ _ c.in_ok-sight.ensures _ c.first_place.ensures _)

pub returns : goal.returns
returns c =
    let d = check_done _ _ c.in_ok-sight.ensures _ c.first_place.ensures _ (omega arith) _ c.run-stood.ensures in (rw d.0 at c.ok_or.ensures.value) ∙ d.1 _ d.0
