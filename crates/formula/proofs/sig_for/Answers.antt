-- `sig_for`: the location is there, or is stored behind the others (laws in Rows.antt).
use lib.ListN.{take}
use borrow.Author.Rules.{rules}
use borrow.Author.Tests.{tests}
use Rattle.definition.specs.Formula.{same_location}
use Rattle.std.proofs.lemmas.Iterator.{YieldsList-from_slice}
use Rattle.std.proofs.lemmas.Iterator.Search.{position_from_yields_List}
use Rattle.formula.proofs.Rows.{column_second, found_sig, added_sig}
use Rattle.formula.proofs.sig_for.Goals as goal

pub returns-in-Some-clause-number : goal.returns-in-Some-clause-number
unfolding same_location
returns-in-Some-clause-number c l s =
    found_sig _ l _ _ s c.position.result
    (position_from_yields_List (λ q. same_location q c.args.p) _ _ _ c.position.ensures.ran (YieldsList-from_slice (take c.args.n c.args.sigs.now) (search rules)) (λ x b q k. let e = column_second x.now c.args.p in search (rules, tests)))
    _ c.in-Some.is

pub returns-in-None-clause-number : goal.returns-in-None-clause-number
unfolding same_location
returns-in-None-clause-number c l s =
    added_sig _ l _ _ s c.position.result
    (position_from_yields_List (λ q. same_location q c.args.p) _ _ _ c.position.ensures.ran (YieldsList-from_slice (take c.args.n c.args.sigs.now) (search rules)) (λ x b q k. let e = column_second x.now c.args.p in search (rules, tests)))
    c.in-None.is
