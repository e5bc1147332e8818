-- `eval_int`: each operand taken apart, left before right (laws in Values.antt); the parts get shorter.
use lib.ListN.{length}
use Rattle.folding.proofs.Expression.+eval_int.Given as goal

abbrev pub decreases-eval_int : goal.decreases-eval_int
decreases-eval_int l = length l.self.bytes.now
