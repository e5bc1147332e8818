-- `eval_int`: each operand taken apart, left before right (laws in Values.antt); the parts get shorter.
use mathlib.Core.Path.{◌≡◌, ◌∙◌}
use native.Mathlib.Omega.{arith}
use borrow.Author.Rules.{rules}
use mir.Syntax.{w64}
use mir.Val.{to_z, of_z}
use Rattle.folding.proofs.View.{tagged_known}
use Rattle.folding.proofs.Values.{overflow_known, no_value, one_stops, one_ends, first_stops, second_stops, two_ends}
use Rattle.folding.proofs.Expression.+eval_int.Goals as goal

pub returns-then-self-ne22 : goal.returns-then-self-ne22
returns-then-self-ne22 t c = no_value _ c.in-One.ensures c.if-self-ne22.true

pub further-requires : goal.further-requires
further-requires t c d g = omega (arith, overflow_known _ _ c.only.result.holds c.eval_int-x.ensures d g, c.only.ensures.1)

pub returns-in_default : goal.returns-in_default
returns-in_default t c e h = c.further.ensures ∙ one_stops _ c.in-One.ensures c.if-self-ne22.false c.only.ensures.0 c.eval_int-x.ensures c.in_default.not-Value e h

pub bounds-self-17 : goal.bounds-self-17
bounds-self-17 t c = omega (arith, tagged_known _ c.only.result.holds, c.only.ensures.2)

pub further-requires-in_default-x : goal.further-requires-in_default-x
further-requires-in_default-x t c d g = omega (arith, overflow_known _ _ c.left-left.result.holds c.eval_int-x-in-Two.ensures d g, c.left-left.ensures.1)

pub returns-in_default-x : goal.returns-in_default-x
returns-in_default-x t c e h = c.further-in_default-x.ensures ∙ first_stops _ c.in-Two.ensures c.left-left.ensures.0 c.eval_int-x-in-Two.ensures c.in_default-x.not-Value e h

pub further-requires-in_default-y : goal.further-requires-in_default-y
further-requires-in_default-y t c d g = omega (arith, overflow_known _ _ c.right.result.holds c.eval_int-y.ensures d g, c.right.ensures.1)

pub returns-in_default-y : goal.returns-in_default-y
returns-in_default-y t c e h = c.further-in_default-y.ensures ∙ second_stops _ c.in-Two.ensures c.left-left.ensures.0 c.eval_int-x-in-Two.ensures c.in-Value-x.is c.size-n.ensures c.right.ensures.0 c.eval_int-y.ensures c.in_default-y.not-Value e h

pub returns-in-Value : goal.returns-in-Value
returns-in-Value t c e h = let f : to_z w64 (of_z w64 c.in-Value.v) ≡ c.in-Value.v = search rules in c.unary.ensures ∙ one_ends _ c.in-One.ensures c.if-self-ne22.false c.only.ensures.0 c.eval_int-x.ensures c.in-Value.is f e h

pub returns-in-Value-y : goal.returns-in-Value-y
returns-in-Value-y t c e h =
    let f : to_z w64 (of_z w64 c.in-Value-x.v) ≡ c.in-Value-x.v = search rules in
    let g : to_z w64 (of_z w64 c.in-Value-y.w) ≡ c.in-Value-y.w = search rules in
    c.of_two.ensures ∙ two_ends _ c.in-Two.ensures c.left-left.ensures.0 c.eval_int-x-in-Two.ensures c.in-Value-x.is c.size-n.ensures c.right.ensures.0 c.eval_int-y.ensures c.in-Value-y.is f g e h
