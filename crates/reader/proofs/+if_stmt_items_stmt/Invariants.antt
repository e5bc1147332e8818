-- `stmt`, `if_stmt` and `items` call each other: the levels left fall. The loop keeps what is left to be read equal to the whole.
use Rattle.std.specs.Prelude.{◌≡◌, ◌+◌, ◌-◌, ◌*◌, ◌≤◌, length}
use Rattle.definition.specs.Reading.{items as items_of, stmt as stmt_of}
use Rattle.exprs.specs.Answers.{part_of, sequence}
use Rattle.reader.proofs.+if_stmt_items_stmt.Given as goal

abbrev pub decreases-stmt : goal.decreases-stmt
decreases-stmt l = 3 * l.level

abbrev pub decreases-items : goal.decreases-items
decreases-items l = 3 * l.level + 1

abbrev pub decreases-if_stmt : goal.decreases-if_stmt
decreases-if_stmt l = 3 * l.level + 2

abbrev pub invariant-items-loop : goal.invariant-items-loop
invariant-items-loop l = record {
  within : l.read.size ≤ length l.tail.bytes.now;
  left : part_of (items_of (stmt_of l.level) l.many l.fn.read.tally l.fn.read.size l.tail.at l.tail.bytes.now) ≡ sequence (stmt_of l.level) (l.many - l.counter) l.read l.tail.at l.tail.bytes.now;
}
