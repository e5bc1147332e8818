-- `sided` and `translate`, which call each other: the part gets shorter, or its negation is left behind (laws in Operands.antt).
use Prim.Native.Nat.{◌+◌}
use lib.ListN.{length}
use Rattle.formula.proofs.+sided_translate.Given as goal

abbrev pub decreases-translate : goal.decreases-translate
decreases-translate l = length l.part.now + length l.part.now

abbrev pub decreases-sided : goal.decreases-sided
decreases-sided l = length l.part.now + length l.part.now + 1
