-- `expr` and `operands` call each other: the levels left fall. The loop keeps what is left to be read equal to the whole.
use Rattle.std.specs.Prelude.{◌≡◌, ◌+◌, ◌-◌, ◌*◌, ◌≤◌, length}
use Rattle.definition.specs.Reading.{expr as expr_at}
use Rattle.exprs.specs.Answers.{sequence}
use Rattle.exprs.proofs.+expr_operands.Given as goal

abbrev pub decreases-expr : goal.decreases-expr
decreases-expr l = 2 * l.level

abbrev pub decreases-operands : goal.decreases-operands
decreases-operands l = 2 * l.level + 1

abbrev pub invariant-operands-loop : goal.invariant-operands-loop
invariant-operands-loop l = record {
  within : l.read.size ≤ length l.tail.bytes.now;
  left : sequence (expr_at l.level) l.many l.fn.read l.tail.at l.tail.bytes.now ≡ sequence (expr_at l.level) (l.many - l.counter) l.read l.tail.at l.tail.bytes.now;
}
