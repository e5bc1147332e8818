-- `foot`: the words behind it have operands, so no more turns follow than there are words.
use Prim.Native.Nat.{ℕ, ◌-◌, ◌≤◌, ◌<◌}
use mathlib.Core.Path.{◌≡◌}
use mathlib.Core.Bool.{false}
use lib.ListN.{length}
use Rattle.evaluation.specs.Values.{is_leaf}
use Rattle.evaluation.proofs.foot.Given as goal

abbrev pub invariant-loop-j : goal.invariant-loop-j
invariant-loop-j l = (l.i ≤ l.j) × ((k : ℕ) → l.i ≤ k → k < l.j → is_leaf l.code k ≡ false)

abbrev pub decreases-loop-j : goal.decreases-loop-j
decreases-loop-j l = length l.code - l.j
