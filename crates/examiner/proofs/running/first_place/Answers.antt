-- By whether there is a path (Slices.antt).
use Rattle.examiner.proofs.Slices.{first_none, first_some}
use Rattle.examiner.proofs.running.first_place.Goals as goal

pub returns-then-n-eq0 : goal.returns-then-n-eq0
returns-then-n-eq0 c = first_none _ c.if-n-eq0.true

pub returns-else-n-eq0 : goal.returns-else-n-eq0
returns-else-n-eq0 c = first_some _ c.if-n-eq0.false
