-- `gather_if` and `gather_list`, which call each other with the level falling (laws in Gathering.antt).
use Prim.Native.Nat.{◌+◌, ◌-◌}
use Rattle.paths.proofs.Gathering.{OnEach}
use Rattle.paths.proofs.+gather_if_gather_list.Given as goal

abbrev pub decreases-gather_list : goal.decreases-gather_list
decreases-gather_list l = l.level + l.level

abbrev pub decreases-gather_if : goal.decreases-gather_if
decreases-gather_if l = l.level + l.level + 1

abbrev pub invariant-gather_list-loop-i : goal.invariant-gather_list-loop-i
invariant-gather_list-loop-i l = OnEach l.part l.at l.count l.level l.wanted l.initial.trail l.off (l.count - l.i) l.trail
