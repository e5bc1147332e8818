-- `count_if` and `count_list`, which call each other with the level falling (laws in Counting.antt).
use Prim.Native.Nat.{◌+◌, ◌-◌}
use Rattle.definition.specs.Tree.{Block}
use Rattle.definition.specs.Begins.{BeginsB}
use Rattle.paths.proofs.Counting.{Walk}
use Rattle.paths.proofs.+count_if_count_list.Given as goal

abbrev pub decreases-count_list : goal.decreases-count_list
decreases-count_list l = l.level + l.level

abbrev pub decreases-count_if : goal.decreases-count_if
decreases-count_if l = l.level + l.level + 1

abbrev pub invariant-count_list-loop : goal.invariant-count_list-loop
invariant-count_list-loop l = (b : Block) → BeginsB b l.count l.level l.part → Walk l.part l.level b l.off (l.count - l.counter) l.paths
