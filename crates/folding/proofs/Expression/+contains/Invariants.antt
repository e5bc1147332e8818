-- `contains`: the first operand, then the second (laws in Containing.antt); the parts get shorter.
use lib.ListN.{length}
use Rattle.folding.proofs.Expression.+contains.Given as goal

abbrev pub decreases-contains : goal.decreases-contains
decreases-contains l = length l.self.bytes.now
