-- `plan_of`: by the tag (laws in Plans.antt).
use Rattle.formula.proofs.Plans.{plan_whole}
use borrow.Author.Rules.{rules}
use Rattle.formula.proofs.plan_of.Goals as goal

pub returns-in_default : goal.returns-in_default
returns-in_default c e h = plan_whole e _ h (search rules) (search rules) (search rules)
