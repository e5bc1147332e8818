-- `leaf`: a law for each return.
use borrow.Author.Rules.{rules}
use Rattle.evaluation.proofs.Assignments.{value_past, value_true, value_sig, value_free, value_other}
use Rattle.evaluation.proofs.leaf.Goals as goal

pub returns-in_default : goal.returns-in_default
returns-in_default c = value_past _ _ _ _ c.in_default.ensures.lookup.3

pub returns-in-1 : goal.returns-in-1
returns-in-1 c = let h = c.in-Some.ensures.lookup.3 in value_true _ _ _ _ h.0 _ (h.1 0) c.in-1.is

pub returns-in-5 : goal.returns-in-5
returns-in-5 c = let h = c.in-Some.ensures.lookup.3 in value_sig _ _ _ _ h.0 _ (h.1 0) c.in-5.is _ _ c.number.ensures.0 c.bit.ensures

pub returns-in-6 : goal.returns-in-6
returns-in-6 c = let h = c.in-Some.ensures.lookup.3 in value_free _ _ _ _ h.0 _ (h.1 0) c.in-6.is _ _ c.number-in-6.ensures.0 c.bit-in-6.ensures

pub returns-in_default-2 : goal.returns-in_default-2
returns-in_default-2 c = let h = c.in-Some.ensures.lookup.3 in value_other _ _ _ _ h.0 _ (h.1 0) c.requires (search rules) (search rules) (search rules)
