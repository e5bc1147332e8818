-- The image and the place are judged, then the slice is the loop's (Slices.antt).
use mathlib.Core.Path.{refl}
use Rattle.definition.specs.Verdict.{the_bounds}
use Rattle.examiner.proofs.Judging.{fair, judged}
use Rattle.examiner.proofs.Slices.{slice_refused, slice_stood}
use Rattle.examiner.proofs.Examination.slice.Goals as goal

pub judge-requires : goal.judge-requires
judge-requires c = fair _ refl

pub run-end-requires : goal.run-end-requires
run-end-requires c = (fair _ refl, judged _ _ _ _ c.in-Ok.ensures)

pub returns-in-Err : goal.returns-in-Err
returns-in-Err c = rw c.from.ensures (slice_refused the_bounds _ _ _ _ c.in-Err.ensures)

pub returns-in-Ok : goal.returns-in-Ok
returns-in-Ok c = slice_stood the_bounds _ _ _ _ c.in-Ok.ensures _ c.run-end.ensures
