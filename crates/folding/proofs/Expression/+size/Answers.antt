-- `size`: the sizes of the operands, added up (laws in View.antt); the parts get shorter.
use native.Mathlib.Omega.{arith}
use Rattle.folding.proofs.View.{size_room, one_size, two_size}
use Rattle.folding.proofs.Expression.+size.Goals as goal

pub overflow_add-result : goal.overflow_add-result
overflow_add-result t c = omega (arith, size_room _ c.args.self.holds (one_size _ c.in-One.ensures c.only.ensures.0 c.size.ensures))

pub overflow_add-result-in-Two : goal.overflow_add-result-in-Two
overflow_add-result-in-Two t c = omega (arith, size_room _ c.left-left.result.holds c.size-n.ensures, c.left-left.ensures.1)

pub overflow_add-result-in-Two-2 : goal.overflow_add-result-in-Two-2
overflow_add-result-in-Two-2 t c = omega (arith, size_room _ c.right.result.holds c.size-in-Two.ensures, c.right.ensures.1)

pub returns-in-One : goal.returns-in-One
returns-in-One t c = one_size _ c.in-One.ensures c.only.ensures.0 c.size.ensures

pub returns-in-Two : goal.returns-in-Two
returns-in-Two t c = two_size _ c.in-Two.ensures c.left-left.ensures.0 c.size-n.ensures c.right.ensures.0 c.size-in-Two.ensures
