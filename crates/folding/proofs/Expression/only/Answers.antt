-- `only`: the part is the operand that the shape tells of (laws in View.antt).
use Rattle.folding.proofs.View.{only_room, only_part}
use Rattle.folding.proofs.Expression.only.Goals as goal

pub rest-requires : goal.rest-requires
rest-requires c = only_room _ c.args.self.holds c.requires

pub invariant_of-result : goal.invariant_of-result
invariant_of-result c = record { holds = (only_part _ c.args.self.holds c.requires c.rest.ensures).holds }

pub returns : goal.returns
returns c = let p = only_part _ c.args.self.holds c.requires c.rest.ensures in (c.rest.ensures, p.long, p.shorter)
