-- The image's fault, or how many paths it has (Queries.antt).
use Rattle.examiner.proofs.Leaving.{leaves}
use Rattle.examiner.proofs.Queries.{count_refused, count_told}
use Rattle.examiner.proofs.count_paths.Goals as goal

pub returns-in_err-sight : goal.returns-in_err-sight
returns-in_err-sight c = leaves _ _ _ c.from_residual.ensures.1 (count_refused _ _ c.in_err-sight.ensures)

pub returns : goal.returns
returns c = count_told _ _ c.in_ok-sight.ensures
