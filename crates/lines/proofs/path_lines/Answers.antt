-- Before the first line, and after the last (Laws.antt).
use native.Mathlib.Omega.{arith}
use Rattle.lines.proofs.Laws.{none_reached, all_reached}
use Rattle.lines.proofs.path_lines.Goals as goal

pub loop-path-init : goal.loop-path-init
loop-path-init c = none_reached _ _

pub returns-clause-wrote : goal.returns-clause-wrote
returns-clause-wrote c = all_reached _ _ c.requires.image_value _ _ _ c.loop-path.invariant (omega arith)
