-- `sided` and `translate`, which call each other: the part gets shorter, or its negation is left behind (laws in Operands.antt).
use mathlib.Core.Path.{refl, ap, ◌∙◌}
use native.Mathlib.Omega.{arith}
use lib.ListN.{drop, length-drop}
use Rattle.std.proofs.lemmas.Result.{err_from_is_err_and}
use Rattle.formula.specs.Areas.{on_side}
use Rattle.formula.proofs.Results.{sided_ready, kept_result, turned_result}
use Rattle.formula.proofs.Operands.{itself, told_as, as_planned, left_at, written_at, right_at}
use Rattle.formula.proofs.+sided_translate.Goals as goal

pub sided-translate-requires : goal.sided-translate-requires
sided-translate-requires t c = (omega (arith), c.requires.ready)

pub sided-returns-then-side : goal.sided-returns-then-side
sided-returns-then-side t c e h a u = rw c.if-side.true (kept_result _ _ _ _ _ (c.translate.ensures e h a u))

pub sided-translate-requires-2 : goal.sided-translate-requires-2
sided-translate-requires-2 t c = (omega (arith), rw c.one_more.ensures (sided_ready _ _ _ c.requires))

pub sided-returns : goal.sided-returns
sided-returns t c e h a u = rw c.if-side.false (turned_result _ _ _ _ _ (told_as itself _ _ _ _ refl c.one_more.ensures c.translate-2.ensures e h a (record { sigs = u.sigs; frees = u.frees })))

pub translate-rest-requires : goal.translate-rest-requires
translate-rest-requires t c = ((as_planned _ _ c.args.area.now (omega arith) c.requires _ c.plan_of.ensures).one _ _ c.in-One.is).room

pub translate-sided-requires : goal.translate-sided-requires
translate-sided-requires t c =
    let o = (as_planned _ _ c.args.area.now (omega arith) c.requires _ c.plan_of.ensures).one _ _ c.in-One.is in (rw c.rest.ensures (omega (arith, o.shorter)), rw c.rest.ensures o.ready)

pub translate-further-requires : goal.translate-further-requires
translate-further-requires t c d o =
    omega (arith, ((as_planned _ _ c.args.area.now (omega arith) c.requires _ c.plan_of.ensures).one _ _ c.in-One.is).far _ _ _ (told_as (on_side _) _ _ _ _ c.rest.ensures refl c.sided.ensures) d o)

pub translate-returns-in-One : goal.translate-returns-in-One
translate-returns-in-One t c =
    ((as_planned _ _ c.args.area.now (omega arith) c.requires _ c.plan_of.ensures).one _ _ c.in-One.is).returns _ _ _ (told_as (on_side _) _ _ _ _ c.rest.ensures refl c.sided.ensures) _ c.further.ensures

pub translate-rest-left-requires : goal.translate-rest-left-requires
translate-rest-left-requires t c = ((as_planned _ _ c.args.area.now (omega arith) c.requires _ c.plan_of.ensures).two _ c.in-Two.is).operand.room

pub translate-one_more-requires : goal.translate-one_more-requires
translate-one_more-requires t c =
    omega (arith, ((as_planned _ _ c.args.area.now (omega arith) c.requires _ c.plan_of.ensures).two _ c.in-Two.is).ready.words)

pub translate-translate-requires : goal.translate-translate-requires
translate-translate-requires t c =
    let o = (as_planned _ _ c.args.area.now (omega arith) c.requires _ c.plan_of.ensures).two _ c.in-Two.is in (rw c.rest-left.ensures (omega (arith, o.operand.shorter)), rw (c.rest-left.ensures, c.one_more.ensures) o.ready)

pub translate-bounds-area-w : goal.translate-bounds-area-w
translate-bounds-area-w t c = omega (arith, ((as_planned _ _ c.args.area.now (omega arith) c.requires _ c.plan_of.ensures).two _ c.in-Two.is).ready.words)

pub translate-size-n-requires : goal.translate-size-n-requires
translate-size-n-requires t c =
    rw c.rest-left.ensures ((as_planned _ _ c.args.area.now (omega arith) c.requires _ c.plan_of.ensures).two _ c.in-Two.is).operand.holds

pub translate-further-requires-in-Two : goal.translate-further-requires-in-Two
translate-further-requires-in-Two t c d o =
    omega (arith, (left_at _ _ c.args.area.now (omega arith) c.requires _ c.plan_of.ensures _ c.in-Two.is _ _ _ _ _ c.rest-left.ensures c.one_more.ensures c.translate.ensures).far d o)

pub translate-returns-in_err-mid-in-Two : goal.translate-returns-in_err-mid-in-Two
translate-returns-in_err-mid-in-Two t c =
    let p = err_from_is_err_and c.from_residual.result c.from_residual.ensures.1 in
    rw (p.1, p.2) ((left_at _ _ c.args.area.now (omega arith) c.requires _ c.plan_of.ensures _ c.in-Two.is _ _ _ _ _ c.rest-left.ensures c.one_more.ensures c.translate.ensures).stops _ c.further-in-Two.ensures _ c.in_err-mid-in-Two.was)

pub translate-overflow_sub-mid : goal.translate-overflow_sub-mid
translate-overflow_sub-mid t c =
    (written_at _ _ c.args.area.now (omega arith) c.requires _ c.plan_of.ensures _ c.in-Two.is _ _ _ _ _ c.rest-left.ensures c.one_more.ensures c.translate.ensures _ c.further-in-Two.ensures _ c.in_ok-mid-in-Two.was).least

pub translate-join_word-requires : goal.translate-join_word-requires
translate-join_word-requires t c =
    omega (arith, (written_at _ _ c.args.area.now (omega arith) c.requires _ c.plan_of.ensures _ c.in-Two.is _ _ _ _ _ c.rest-left.ensures c.one_more.ensures c.translate.ensures _ c.further-in-Two.ensures _ c.in_ok-mid-in-Two.was).most)

pub translate-rest-requires-in-Two : goal.translate-rest-requires-in-Two
translate-rest-requires-in-Two t c =
    rw c.rest-left.ensures (right_at _ _ c.args.area.now (omega arith) c.requires _ c.plan_of.ensures _ c.in-Two.is _ _ _ _ _ c.rest-left.ensures c.one_more.ensures c.translate.ensures _ c.further-in-Two.ensures _ c.in_ok-mid-in-Two.was _ c.size-n.ensures).operand.room

pub translate-translate-requires-in-Two : goal.translate-translate-requires-in-Two
translate-translate-requires-in-Two t c =
    let o = right_at _ _ c.args.area.now (omega arith) c.requires _ c.plan_of.ensures _ c.in-Two.is _ _ _ _ _ c.rest-left.ensures c.one_more.ensures c.translate.ensures _ c.further-in-Two.ensures _ c.in_ok-mid-in-Two.was _ c.size-n.ensures in (rw (c.rest-in-Two.ensures, c.rest-left.ensures) (omega (arith, ((as_planned _ _ c.args.area.now (omega arith) c.requires _ c.plan_of.ensures).two _ c.in-Two.is).operand.shorter, o.operand.shorter)), rw (c.rest-in-Two.ensures, c.rest-left.ensures) o.ready)

pub translate-overflow_add-n : goal.translate-overflow_add-n
translate-overflow_add-n t c =
    omega (arith, length-drop 18 c.args.part.now, ((as_planned _ _ c.args.area.now (omega arith) c.requires _ c.plan_of.ensures).two _ c.in-Two.is).operand.room, (right_at _ _ c.args.area.now (omega arith) c.requires _ c.plan_of.ensures _ c.in-Two.is _ _ _ _ _ c.rest-left.ensures c.one_more.ensures c.translate.ensures _ c.further-in-Two.ensures _ c.in_ok-mid-in-Two.was _ c.size-n.ensures).operand.room)

pub translate-further-requires-in-Two-2 : goal.translate-further-requires-in-Two-2
translate-further-requires-in-Two-2 t c d o =
    omega (arith, (right_at _ _ c.args.area.now (omega arith) c.requires _ c.plan_of.ensures _ c.in-Two.is _ _ _ _ _ c.rest-left.ensures c.one_more.ensures c.translate.ensures _ c.further-in-Two.ensures _ c.in_ok-mid-in-Two.was _ c.size-n.ensures).far _ _ _ (told_as itself _ _ _ _ (c.rest-in-Two.ensures ∙ ap (drop c.size-n.result) c.rest-left.ensures) refl c.translate-in-Two.ensures) d o)

pub translate-returns-in_ok-mid-in-Two : goal.translate-returns-in_ok-mid-in-Two
translate-returns-in_ok-mid-in-Two t c =
    (right_at _ _ c.args.area.now (omega arith) c.requires _ c.plan_of.ensures _ c.in-Two.is _ _ _ _ _ c.rest-left.ensures c.one_more.ensures c.translate.ensures _ c.further-in-Two.ensures _ c.in_ok-mid-in-Two.was _ c.size-n.ensures).returns _ _ _ (told_as itself _ _ _ _ (c.rest-in-Two.ensures ∙ ap (drop c.size-n.result) c.rest-left.ensures) refl c.translate-in-Two.ensures) c.join_word.ensures _ c.further-in-Two-2.ensures
