-- `evaluate`: what is left of the path has the value of the whole.
use Prim.Native.Nat.{◌-◌}
use mathlib.Core.Path.{◌≡◌}
use lib.ListN.{length}
use Rattle.definition.specs.Formula.{satisfies}
use Rattle.evaluation.specs.Words.{formula_of}
use Rattle.evaluation.specs.Values.{value_at}
use Rattle.evaluation.proofs.evaluate.Given as goal

abbrev pub invariant-loop-w : goal.invariant-loop-w
invariant-loop-w l = value_at l.code l.s l.f l.i ≡ satisfies (formula_of l.code) l.phase l.sigs l.mask

abbrev pub decreases-loop-w : goal.decreases-loop-w
decreases-loop-w l = length l.code - l.i
