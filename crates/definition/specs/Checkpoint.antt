-- Checkpoints: their bytes, what reading one gives, and what writing one leaves in a lent buffer. Document 01, "Slices and
-- checkpoints": "Checkpoint: BVC, 16-bit version 1, phase (1 byte), path (2), mask (4), count (4), then the whole image".
use Rattle.std.specs.Prelude.{ℕ, ◌+◌, not, List, [], ◌∷◌, ◌++◌, length, get_or, drop, ltb, eqb, Ok, Err}
use Rattle.definition.specs.declared.Kind.TheVariants.{CheckpointHead, CheckpointVersion, BufferShort}
use Rattle.definition.specs.declared.Bounds.{Bounds}
use Rattle.definition.specs.declared.Place.{Place}
use Rattle.definition.specs.Bytes.{be16, be32, put16, put32}
use Rattle.definition.specs.Fault.{Read, fault, ◌>>=◌, ◌>>◌, refuse}
use Rattle.definition.specs.Reading.{marked}
use Rattle.definition.specs.Verdict.{place}
use Rattle.definition.specs.Place.{fitting}

-- "16 bytes and the image"
abbrev pub head_length : ℕ
head_length = 16

-- "BVC, 16-bit version 1, phase (1 byte), path (2), mask (4), count (4), then the whole image"
unfoldable pub checkpoint : Place → List ℕ → List ℕ
checkpoint p image = 66 ∷ 86 ∷ 67 ∷ 0 ∷ 1 ∷ p.phase ∷ put16 p.path (put32 p.mask (put32 p.count image))

-- the "place fields" of a checkpoint
unfoldable pub place_in : List ℕ → Place
place_in s = place (get_or s 5 0) (be16 s 6) (be32 s 8) (be32 s 12)

-- "Reading checks, in order: 16 bytes and mark (11), version (11), the image (its own numbers, places counted in the image), place
-- fields (11)."
unfoldable pub read_checkpoint : Bounds → List ℕ → Read Place
read_checkpoint b s = do
  refuse (ltb (length s) head_length) (fault CheckpointHead 0 0)
  refuse (not (marked 67 s)) (fault CheckpointHead 0 0)
  refuse (not (eqb (be16 s 3) 1)) (fault CheckpointVersion 3 3)
  _ ← fitting b (drop head_length s) (place_in s)
  Ok (place_in s)

-- the image in a checkpoint; where reading refuses it, "a returned part is empty"
unfoldable pub image_part : Read Place → List ℕ → List ℕ
image_part (Ok p) s = drop head_length s
image_part (Err f) s = []

-- "Reading a checkpoint returns the slice from byte 16 onward as the contract image."
unfoldable pub checkpoint_image : Bounds → List ℕ → List ℕ
checkpoint_image b s = image_part (read_checkpoint b s) s

-- how many bytes the image's checkpoint has, or "lent buffer too short for a checkpoint" (12), the buffer having `long` bytes
abbrev pub checkpoint_length : List ℕ → ℕ → Read ℕ
checkpoint_length image long = do
  refuse (ltb long (head_length + length image)) (fault BufferShort 0 0)
  Ok (head_length + length image)

-- writing into a buffer of `long` bytes: how many bytes are written. The image comes first, then the place, last the buffer
unfoldable pub write_checkpoint : Bounds → List ℕ → Place → ℕ → Read ℕ
write_checkpoint b image p long = do
  _ ← fitting b image p
  checkpoint_length image long

-- "Writing leaves the rest of the buffer unchanged", and a refusal all of it
unfoldable pub overlaid : Read ℕ → List ℕ → List ℕ → List ℕ
overlaid (Ok n) new buffer = new ++ drop n buffer
overlaid (Err f) new buffer = buffer

-- "which bytes stand afterwards, on refusal too"
unfoldable pub buffer_after : Bounds → List ℕ → Place → List ℕ → List ℕ
buffer_after b image p buffer = overlaid (write_checkpoint b image p (length buffer)) (checkpoint p image) buffer
