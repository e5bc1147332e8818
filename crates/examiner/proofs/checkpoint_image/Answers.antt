-- Nothing, or the bytes behind the head (Checkpoints.antt).
use mathlib.Core.Path.{refl}
use native.Mathlib.Omega.{arith}
use Rattle.examiner.proofs.Judging.{fair}
use Rattle.examiner.proofs.Checkpoints.{image_refused, image_is, image_headed}
use Rattle.examiner.proofs.checkpoint_image.Goals as goal

pub restore-requires : goal.restore-requires
restore-requires c = fair _ refl

pub slice_bounds-result-count : goal.slice_bounds-result-count
slice_bounds-result-count c = omega (arith, image_headed _ _ _ c.in-Ok.ensures)

pub slice_bounds-result-start : goal.slice_bounds-result-start
slice_bounds-result-start c = omega (arith, image_headed _ _ _ c.in-Ok.ensures)

pub returns-in-Err : goal.returns-in-Err
returns-in-Err c = image_refused _ _ _ c.in-Err.ensures

pub returns-in-Ok : goal.returns-in-Ok
returns-in-Ok c = image_is _ _ _ c.in-Ok.ensures
