-- `contains`: the first operand, then the second (laws in Containing.antt); the parts get shorter.
use mathlib.Core.Path.{sym}
use Rattle.folding.proofs.Containing.{leaf_tells, one_tells, first_tells, second_tells}
use Rattle.folding.proofs.Expression.+contains.Goals as goal

pub returns-in-Leaf : goal.returns-in-Leaf
returns-in-Leaf t c = leaf_tells _ _ (sym c.in-Leaf.ensures)

pub returns-in-One : goal.returns-in-One
returns-in-One t c = one_tells _ _ c.in-One.ensures c.only.ensures.0 c.contains.ensures

pub returns-then-contains : goal.returns-then-contains
returns-then-contains t c = first_tells _ _ c.in-Two.ensures c.left-left.ensures.0 c.contains-in-Two.ensures c.if-contains.true

pub returns-else-contains : goal.returns-else-contains
returns-else-contains t c = second_tells _ _ c.in-Two.ensures c.left-left.ensures.0 c.contains-in-Two.ensures c.if-contains.false c.size.ensures c.right.ensures.0 c.contains-in-Two-2.ensures
