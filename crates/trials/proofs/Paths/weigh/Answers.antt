-- `weigh`: a law of Weighing.antt for each way out of a turn.
use Rattle.std.proofs.Common.{arith, ◌∙◌}
use Rattle.trials.proofs.Weighing.{weighed_over, weighed_on, weighed_all}
use Rattle.trials.proofs.Paths.weigh.Goals as goal

pub returns-in_err-sum-clause-value : goal.returns-in_err-sum-clause-value
returns-in_err-sum-clause-value c ps f =
    c.from_residual.ensures ∙ weighed_over _ _ ps _ f _ _ (c.loop-path.invariant.value ps f) _ _ c.loop-path-test.true c.assignments.ensures.value c.in_err-sum.was

pub returns-clause-value : goal.returns-clause-value
returns-clause-value c ps f = weighed_all _ _ ps _ f _ _ (c.loop-path.invariant.value ps f) c.loop-path-test.false

pub loop-path-preserved : goal.loop-path-preserved
loop-path-preserved c = record {
  value = λ ps f. weighed_on _ _ ps _ f _ _ (c.loop-path.invariant.value ps f) _ _ c.loop-path-test.true c.assignments.ensures.value _ c.in_ok-sum.was;
  few = omega (arith, c.in_ok-sum.ensures.few);
}
