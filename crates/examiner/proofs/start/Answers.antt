-- The first place of an image that is accepted, or its refusal (Slices.antt).
use Rattle.examiner.proofs.Leaving.{leaves}
use Rattle.examiner.proofs.Slices.{start_refused, start_opened}
use Rattle.examiner.proofs.start.Goals as goal

pub returns-in_err-sight : goal.returns-in_err-sight
returns-in_err-sight c = leaves _ _ _ c.from_residual.ensures.1 (start_refused _ _ c.in_err-sight.ensures)

pub returns : goal.returns
returns c = start_opened _ _ c.in_ok-sight.ensures _ c.first_place.ensures
