-- `contains_checksig`: what `contains` says of tag 25. It is written out, so that another tag is refused by that very fact.
use Rattle.folding.proofs.Expression.contains_checksig.Goals as goal

pub returns : goal.returns
returns c = c.contains.ensures
