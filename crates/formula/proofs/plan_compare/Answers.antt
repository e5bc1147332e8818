-- `plan_compare`: the right side before the left (laws in Plans.antt).
use lib.ListN.{length-drop}
use native.Mathlib.Omega.{arith}
use Rattle.folding.proofs.View.{part_size}
use Rattle.formula.proofs.Plans.{compare_left, compare_right, plan_over, plan_right, plan_left, plan_neither}
use Rattle.formula.proofs.plan_compare.Goals as goal

pub returns-then-op-gt1 : goal.returns-then-op-gt1
returns-then-op-gt1 c e h = plan_over e _ h c.requires.1 c.if-op-gt1.true

pub rest-left-requires : goal.rest-left-requires
rest-left-requires c = (compare_left _ c.requires.0 c.requires.1).room

pub size-n-requires : goal.size-n-requires
size-n-requires c = rw c.rest-left.ensures (compare_left _ c.requires.0 c.requires.1).holds

pub rest-requires : goal.rest-requires
rest-requires c =
    rw c.rest-left.ensures (compare_right _ c.requires.0 c.requires.1 _ (part_size c.args.part.now 18 c.rest-left.ensures c.size-n.ensures)).room

pub literal_at-requires : goal.literal_at-requires
literal_at-requires c =
    rw (c.rest.ensures, c.rest-left.ensures) (compare_right _ c.requires.0 c.requires.1 _ (part_size c.args.part.now 18 c.rest-left.ensures c.size-n.ensures)).holds

pub returns-in-Some : goal.returns-in-Some
returns-in-Some c e h =
    plan_right e _ h c.requires.1 (omega (arith, c.if-op-gt1.false)) _ (part_size c.args.part.now 18 c.rest-left.ensures c.size-n.ensures) _ (λ d g. c.literal_at.ensures d (rw (c.rest.ensures, c.rest-left.ensures) g)) _ c.in-Some.is

pub literal_at-requires-2 : goal.literal_at-requires-2
literal_at-requires-2 c =
    rw c.rest-left.ensures (compare_left _ c.requires.0 c.requires.1).holds

pub overflow_add-result : goal.overflow_add-result
overflow_add-result c =
    omega (arith, length-drop 18 c.args.part.now, (compare_left _ c.requires.0 c.requires.1).room, (compare_right _ c.requires.0 c.requires.1 _ (part_size c.args.part.now 18 c.rest-left.ensures c.size-n.ensures)).room)

pub returns-in-Some-literal_at : goal.returns-in-Some-literal_at
returns-in-Some-literal_at c e h =
    plan_left e _ h c.requires.1 (omega (arith, c.if-op-gt1.false)) _ (part_size c.args.part.now 18 c.rest-left.ensures c.size-n.ensures) _ (λ d g. c.literal_at.ensures d (rw (c.rest.ensures, c.rest-left.ensures) g)) c.in_default.is _ (λ d g. c.literal_at-2.ensures d (rw c.rest-left.ensures g)) _ c.in-Some-literal_at.is

pub returns : goal.returns
returns c e h =
    plan_neither e _ h c.requires.1 (omega (arith, c.if-op-gt1.false)) _ (part_size c.args.part.now 18 c.rest-left.ensures c.size-n.ensures) _ (λ d g. c.literal_at.ensures d (rw (c.rest.ensures, c.rest-left.ensures) g)) c.in_default.is _ (λ d g. c.literal_at-2.ensures d (rw c.rest-left.ensures g)) c.in_default-literal_at.is
