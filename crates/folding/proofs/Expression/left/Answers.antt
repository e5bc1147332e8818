-- `left`: the part is the first operand (laws in View.antt).
use Rattle.folding.proofs.View.{left_room, left_part}
use Rattle.folding.proofs.Expression.left.Goals as goal

pub rest-requires : goal.rest-requires
rest-requires c = left_room _ c.args.self.holds c.requires

pub invariant_of-result : goal.invariant_of-result
invariant_of-result c = record { holds = (left_part _ c.args.self.holds c.requires c.rest.ensures).holds }

pub returns : goal.returns
returns c = let p = left_part _ c.args.self.holds c.requires c.rest.ensures in (c.rest.ensures, p.long, p.shorter)
