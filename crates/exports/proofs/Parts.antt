-- The part of a checkpoint that is told by offset and length.
use Rattle.std.specs.Prelude.{Ok, Err}
use Prim.Native.Nat.{ℕ}
use native.Mathlib.Omega.{arith}
use mathlib.Core.Path.{◌≡◌, refl, sym}
use mathlib.Core.Bool.{true, false, false≢true}
use lib.Dec.{eqb}
use mathlib.Core.List.{List, [], ◌∷◌}
use lib.ListN.{length, drop}
use lib.Seq.{take_all}
use borrow.Author.Tests.{eqb-true}
use Rattle.definition.specs.declared.Place.{Place}
use Rattle.definition.specs.Fault.{Read}
use Rattle.definition.specs.Verdict.{the_bounds}
use Rattle.definition.specs.Checkpoint.{head_length, read_checkpoint, image_part, checkpoint_image}
use Rattle.exports.specs.Flat.{part_flat, shown_part}

-- an empty part is told by zeros
pub none : (xs : List ℕ) → eqb (length xs) 0 ≡ true → record { offset = 0; length = 0 } ≡ part_flat xs
none [] e = refl
none (x ∷ xs) e = absurd (omega (arith, eqb-true (length (x ∷ xs)) 0 e))

-- any other by its offset and its length
pub some : (xs : List ℕ) → eqb (length xs) 0 ≡ false → record { offset = 16; length = length xs } ≡ part_flat xs
some [] e = absurd (false≢true (sym e))
some (x ∷ xs) e = refl

-- it shows those bytes
shows : (xs s : List ℕ) → xs ≡ drop head_length s → shown_part (part_flat xs) s ≡ xs
shows [] s e = refl
shows (x ∷ xs) s e = rw (← e) (take_all (length (x ∷ xs)) (x ∷ xs) (omega arith))

imaged : (r : Read Place) (s : List ℕ) → shown_part (part_flat (image_part r s)) s ≡ image_part r s
unfolding image_part
imaged (Ok p) s = shows (drop head_length s) s refl
imaged (Err f) s = refl

-- The bytes at the offset and of the length that are told are the image of the checkpoint.
pub part_is_image : (s : List ℕ) → shown_part (part_flat (checkpoint_image the_bounds s)) s ≡ checkpoint_image the_bounds s
unfolding checkpoint_image
part_is_image s = imaged (read_checkpoint the_bounds s) s
