-- `single`: a Sig atom, or what it is worth (laws in Results.antt).
use mathlib.Core.Path.{◌≡◌, ap, sym, ◌∙◌}
use Rattle.definition.specs.declared.Folded.{Folded}
use Rattle.definition.specs.declared.Location.{Location}
use Rattle.definition.specs.Folding.{is_zero}
use Rattle.definition.specs.Formula.{by_fold, sig_atom}
use native.Mathlib.Omega.{arith}
use mir.Syntax.{w64}
use mir.Val.{to_z, of_z}
use Rattle.formula.proofs.Plans.{sig_is}
use Rattle.formula.proofs.Results.{ready_tagged, result_as, sig_result, truth_result, free_result, overflow_result}
use borrow.Author.Rules.{rules}
use Rattle.formula.proofs.single.Goals as goal

pub bounds-part-0 : goal.bounds-part-0
bounds-part-0 c = omega (arith, ready_tagged _ _ _ c.requires)

pub location_of-requires : goal.location_of-requires
location_of-requires c = ready_tagged _ _ _ c.requires

pub returns-then-part-eq25 : goal.returns-then-part-eq25
returns-then-part-eq25 c e h q a t = result_as _ _ _ _ _ _ (ap (λ (p : Location). sig_atom p a) c.location_of.ensures ∙ sig_is e _ h _ a c.if-part-eq25.true) (sig_result a _ _ _ _ t _ _ _ _ (c.sig_for-i.ensures.number a.locations t.sigs) c.max.ensures)

pub returns-in-Value : goal.returns-in-Value
returns-in-Value c e h q a t =
    let f : to_z w64 (of_z w64 c.in-Value.v) ≡ c.in-Value.v = search rules in
    rw c.one_more.ensures (result_as _ _ _ _ _ _ (ap (λ (x : Folded). by_fold x a) (sym c.in-Value.is) ∙ c.worth.ensures e h q a) (truth_result a _ _ _ _ t _ _ _ (c.is_zero.ensures ∙ ap is_zero f) c.from.ensures))

pub returns-in-Nothing : goal.returns-in-Nothing
returns-in-Nothing c e h q a t = result_as _ _ _ _ _ _ (ap (λ (x : Folded). by_fold x a) (sym c.in-Nothing.is) ∙ c.worth.ensures e h q a) (free_result a _ _ _ _ t)

pub returns-in-Overflow : goal.returns-in-Overflow
returns-in-Overflow c e h q a t = result_as _ _ _ _ _ _ (ap (λ (x : Folded). by_fold x a) (sym c.in-Overflow.is) ∙ c.worth.ensures e h q a) (overflow_result a _ _ _ _ t _)
