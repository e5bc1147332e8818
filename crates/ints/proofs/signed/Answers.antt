-- `signed`: std's two's complement is the definition's (law in Halves.antt).
use mathlib.Core.Path.{◌≡◌, ◌∙◌}
use borrow.Author.Rules.{rules}
use mir.Syntax.{w64}
use mir.Val.{to_z, of_z}
use Rattle.ints.proofs.Halves.{signed_is}
use Rattle.ints.proofs.signed.Goals as goal

pub returns : goal.returns
returns c = let f : to_z w64 (of_z w64 c.cast_signed.result) ≡ c.cast_signed.result = search rules in f ∙ c.cast_signed.ensures ∙ signed_is c.args.n c.ranges.n.fits
