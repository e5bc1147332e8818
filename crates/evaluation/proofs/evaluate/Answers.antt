-- `evaluate`: what is left of the path has the value of the whole.
use mathlib.Core.Path.{◌∙◌}
use Rattle.evaluation.proofs.Assignments.{satisfied, value_past, part_false, part_true}
use Rattle.evaluation.proofs.evaluate.Goals as goal

pub loop-w-init : goal.loop-w-init
loop-w-init c = satisfied _ _ _ _ _ _ c.sig_bits-s.ensures c.free_bits-f.ensures

pub returns-then-not-value : goal.returns-then-not-value
returns-then-not-value c = let h = c.in-Some.ensures.lookup.3 in part_false _ _ _ _ h.0 _ (h.1 0) c.if-w-ne3.false _ c.value-in-Some.ensures c.if-not-value.true ∙ c.loop-w.invariant

pub loop-w-preserved : goal.loop-w-preserved
loop-w-preserved c = let h = c.in-Some.ensures.lookup.3 in part_true _ _ _ _ h.0 _ (h.1 0) c.if-w-ne3.false _ c.value-in-Some.ensures c.if-not-value.false _ c.number.ensures.0 ∙ c.loop-w.invariant

pub returns : goal.returns
returns c = value_past _ _ _ _ c.in_default.ensures.lookup.3 ∙ c.loop-w.invariant
