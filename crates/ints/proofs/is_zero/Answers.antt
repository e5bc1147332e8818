-- `is_zero`: equal bits are equal numbers (law in Halves.antt).
use mir.Facts.{sfits_lit}
use Rattle.definition.specs.Folding.{is_zero}
use Rattle.ints.proofs.Halves.{same_bits}
use Rattle.ints.proofs.is_zero.Goals as goal

pub returns : goal.returns
unfolding is_zero
returns c = same_bits c.ranges.v (sfits_lit tt)
