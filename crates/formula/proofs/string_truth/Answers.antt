-- `string_truth`: the bytes behind their 16-bit length (laws in Strings.antt).
use native.Mathlib.Omega.{arith}
use Rattle.formula.proofs.Strings.{string_fits, string_is}
use Rattle.formula.proofs.string_truth.Goals as goal

pub two-n-requires : goal.two-n-requires
two-n-requires c = omega (arith, string_fits _ c.requires.0 c.requires.1)

pub returns : goal.returns
returns c e h a = string_is _ _ _ a e _ h c.requires.1 c.two-n.ensures.0 c.pushed_truth.ensures
