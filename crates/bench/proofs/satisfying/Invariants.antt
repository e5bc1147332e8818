-- No more than one of each mask.
use Rattle.std.proofs.Common.{◌≤◌}
use Rattle.bench.proofs.satisfying.Given as goal

abbrev pub invariant-loop-mask : goal.invariant-loop-mask
invariant-loop-mask l = l.sum ≤ l.mask
