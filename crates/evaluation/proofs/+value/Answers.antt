-- `value`: the value at each word from the foot back to the first; the call is at a word further on.
use Prim.Native.Nat.{◌-◌}
use native.Mathlib.Omega.{arith}
use mathlib.Core.Path.{◌≡◌, refl}
use mathlib.Core.Bool.{false}
use Rattle.evaluation.specs.Values.{is_leaf}
use Rattle.evaluation.proofs.Assignments.{inside, value_turned, value_right, value_left, value_met}
use Rattle.evaluation.proofs.+value.Goals as goal

pub loop-j-preserved-then-w-eq2 : goal.loop-j-preserved-then-w-eq2
loop-j-preserved-then-w-eq2 t c =
    let e : is_leaf c.args.code.now (c.loop-j.j - 1) ≡ false = c.foot-end.ensures.2 _ (omega arith) (omega arith) in
    (omega arith, value_turned _ _ _ _ (inside c.args.code.now (c.loop-j.j - 1) e) _ refl c.if-w-eq2.true _ _ (omega arith) c.loop-j.invariant.1)

pub loop-j-preserved-then-v-w : goal.loop-j-preserved-then-v-w
loop-j-preserved-then-v-w t c =
    let e : is_leaf c.args.code.now (c.loop-j.j - 1) ≡ false = c.foot-end.ensures.2 _ (omega arith) (omega arith) in
    (omega arith, value_right _ _ _ _ (inside c.args.code.now (c.loop-j.j - 1) e) _ refl e c.if-w-eq2.false _ _ (omega arith) c.loop-j.invariant.1 c.if-v-w.true _ _ c.number.ensures.0 c.value-v.ensures)

pub loop-j-preserved : goal.loop-j-preserved
loop-j-preserved t c =
    let e : is_leaf c.args.code.now (c.loop-j.j - 1) ≡ false = c.foot-end.ensures.2 _ (omega arith) (omega arith) in
    (omega arith, value_left _ _ _ _ (inside c.args.code.now (c.loop-j.j - 1) e) _ refl e c.if-w-eq2.false _ _ (omega arith) c.loop-j.invariant.1 c.if-v-w.false)

pub returns : goal.returns
returns t c = value_met _ _ _ _ _ _ (omega (arith, c.loop-j.invariant.0)) c.loop-j.invariant.1
