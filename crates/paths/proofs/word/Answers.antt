-- `word`: twice the offset, and the side.
use Prim.Native.Nat.{ℕ, ◌+◌, ◌*◌}
use mathlib.Core.Path.{◌≡◌, refl}
use mathlib.Core.Bool.{Bool, true, false}
use mir.Val.{bool_byte}
use Rattle.definition.specs.Bytes.{when◌then◌else◌}
use Rattle.paths.specs.Gathering.{word_of}
use Rattle.paths.proofs.word.Goals as goal

word_is : (at : ℕ) (side : Bool) → at * 2 + bool_byte side ≡ word_of at side
unfolding word_of when◌then◌else◌
word_is at true = refl
word_is at false = refl

pub returns : goal.returns
returns c = rw c.from.ensures (word_is c.args.at c.args.side)
