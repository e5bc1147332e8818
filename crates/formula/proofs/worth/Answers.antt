-- `worth`: a string by its bytes, the others by what they hold and fold to (laws in Plans.antt).
use Rattle.formula.proofs.Plans.{truth_worth, holds_checksig, holds_variable, folds}
use mathlib.Core.Path.{ap, sym, ◌∙◌}
use Rattle.definition.specs.declared.Folded.{Folded}
use Rattle.definition.specs.Formula.{by_fold}
use Rattle.formula.proofs.worth.Goals as goal

pub returns-then-part-eq19 : goal.returns-then-part-eq19
returns-then-part-eq19 c e h q a = truth_worth _ _ a _ c.truth.ensures (c.string_truth.ensures e h a)

pub returns-then-contains_checksig : goal.returns-then-contains_checksig
returns-then-contains_checksig c e h q a = holds_checksig e _ h _ a q c.if-part-eq19.false c.requires.1 (sym (c.contains_checksig.ensures e h) ∙ c.if-contains_checksig.true)

pub returns-then-not-contains_variable : goal.returns-then-not-contains_variable
returns-then-not-contains_variable c e h q a =
    ap (λ (x : Folded). by_fold x a) (c.eval_int.ensures e h) ∙ folds e _ h _ a q c.if-part-eq19.false c.requires.1 (sym (c.contains_checksig.ensures e h) ∙ c.if-contains_checksig.false) (sym (c.contains_variable.ensures e h) ∙ c.if-not-contains_variable.true)

pub returns : goal.returns
returns c e h q a =
    holds_variable e _ h _ a q c.if-part-eq19.false c.requires.1 (sym (c.contains_checksig.ensures e h) ∙ c.if-contains_checksig.false) (sym (c.contains_variable.ensures e h) ∙ c.if-not-contains_variable.false)
