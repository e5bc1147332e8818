-- `foot`: the words behind it have operands, so no more turns follow than there are words.
use mathlib.Core.Path.{sym, ◌∙◌}
use native.Mathlib.Omega.{arith}
use borrow.Author.Tests.{not-true, not-false}
use Rattle.evaluation.proofs.Assignments.{inside, one_more}
use Rattle.evaluation.proofs.foot.Goals as goal

pub loop-j-init : goal.loop-j-init
loop-j-init c = (omega arith, λ k h g. absurd (omega arith))

pub overflow_add-j : goal.overflow_add-j
overflow_add-j c = omega (arith, inside c.args.code.now c.loop-j.j (sym c.is_leaf.ensures ∙ not-true _ c.loop-j-test.true-raw))

pub loop-j-smaller : goal.loop-j-smaller
loop-j-smaller c = omega (arith, inside c.args.code.now c.loop-j.j (sym c.is_leaf.ensures ∙ not-true _ c.loop-j-test.true-raw))

pub loop-j-preserved : goal.loop-j-preserved
loop-j-preserved c = let o = c.loop-j.invariant in (omega (arith, o.0), one_more c.args.code.now c.args.i c.loop-j.j o.1 (sym c.is_leaf.ensures ∙ not-true _ c.loop-j-test.true-raw))

pub returns : goal.returns
returns c = let o = c.loop-j.invariant in (o.0, sym c.is_leaf.ensures ∙ not-false _ c.loop-j-test.false-raw, o.1)
