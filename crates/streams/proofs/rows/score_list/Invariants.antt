-- Every row so far is counted.
use Rattle.std.proofs.Common.{◌≡◌, ◌+◌}
use Rattle.streams.proofs.rows.score_list.Given as goal

abbrev pub invariant-loop-row : goal.invariant-loop-row
invariant-loop-row g l = goal.F-IsAlwaysCallable g l.compare × (l.score.same + l.score.different ≡ l.row)
