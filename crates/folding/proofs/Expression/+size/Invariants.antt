-- `size`: the sizes of the operands, added up (laws in View.antt); the parts get shorter.
use lib.ListN.{length}
use Rattle.folding.proofs.Expression.+size.Given as goal

abbrev pub decreases-size : goal.decreases-size
decreases-size l = length l.self.bytes.now
