-- `value`: the value at each word from the foot back to the first; the call is at a word further on.
use Prim.Native.Nat.{◌-◌, ◌≤◌}
use mathlib.Core.Path.{◌≡◌}
use lib.ListN.{length}
use Rattle.evaluation.specs.Values.{value_at}
use Rattle.evaluation.proofs.+value.Given as goal

abbrev pub decreases-value : goal.decreases-value
decreases-value l = length l.code.now - l.i

abbrev pub invariant-loop-j : goal.invariant-loop-j
invariant-loop-j l = (l.i ≤ l.j) × (l.v ≡ value_at l.code l.sigs l.frees l.j)
