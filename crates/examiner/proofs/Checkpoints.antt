-- Checkpoints: the bytes that two copies leave in a buffer, and what reading them gives. A law for each return.
use Rattle.std.specs.Prelude.{Ok, Err, ℕ}
use Prim.Native.Nat.{ℕ, ◌+◌, ◌-◌, ◌/◌, ◌%◌, ◌^◌, ◌≤◌, ◌<◌}
use mathlib.Core.Path.{◌≡◌, refl, sym, ap, ◌∙◌}
use mathlib.Core.Bool.{Bool, true, false, not}
use mathlib.Core.List.{List, [], ◌∷◌, ◌++◌, append_assoc}
use native.Mathlib.Omega.{arith}
use lib.Dec.{eqb}
use lib.ListN.{length, get_or, take, drop}
use lib.Seq.{take_at, drop_at, drop-drop}
use borrow.Author.Tests.{lt-ltb, le-ltb, ltb-false, eq-eqb, ne_eqb}
use borrow.Author.Rules.{part_to_end}
use borrow.Rule.Slice.PartMut.{put_mid}
use Rattle.definition.specs.declared.Bounds.{Bounds}
use Rattle.definition.specs.declared.Fault.{Fault}
use Rattle.definition.specs.declared.Kind.TheVariants.{CheckpointHead, CheckpointVersion, BufferShort}
use Rattle.definition.specs.declared.Place.{Place}
use Rattle.definition.specs.Bytes.{be16, be32, put32}
use Rattle.definition.specs.Fault.{fault, refuse}
use Rattle.definition.specs.Reading.{marked}
use Rattle.definition.specs.Verdict.{the_bounds, place}
use Rattle.definition.specs.Place.{fitting}
use Rattle.definition.specs.Checkpoint.{head_length, checkpoint, place_in, read_checkpoint, image_part, checkpoint_image, checkpoint_length, write_checkpoint, overlaid, buffer_after}
use Rattle.definition.proofs.Steps.{past, on_got, on_bad, tests_bad, let_pass}
use Rattle.definition.proofs.Acceptance.{accepted_count}
use Rattle.definition.proofs.Keeping.{checkpoint_length_lem, checkpoint_is, fitting_is}
use Rattle.survey.specs.declared.Sight.{Sight}
use Rattle.examiner.specs.Answers.{judge_of}
use Rattle.examiner.proofs.Judging.{judged, unjudged}

-- ---- writing

-- a number of 32 bits, byte by byte
four_bytes : (n : ℕ) (r : List ℕ) → n < 2 ^ 32 → n / 16777216 % 256 ∷ n / 65536 % 256 ∷ n / 256 % 256 ∷ n % 256 ∷ r ≡ put32 n r
four_bytes n r h =
    let a : n / 65536 / 256 ≡ n / 16777216 % 256 = omega arith in
    let b : n % 65536 / 256 ≡ n / 256 % 256 = omega arith in
    let c : n % 65536 % 256 ≡ n % 256 = omega arith in
    rw (a, b, c)

-- the 16 bytes before the image: path, mask and count byte by byte
pub head_is : (p : Place) → p.path < 2 ^ 16 → p.mask < 2 ^ 32 → p.count < 2 ^ 32
    → 66 ∷ 86 ∷ 67 ∷ 0 ∷ 1 ∷ p.phase ∷ p.path / 256 % 256 ∷ p.path % 256
    ∷ p.mask / 16777216 % 256 ∷ p.mask / 65536 % 256 ∷ p.mask / 256 % 256 ∷ p.mask % 256
    ∷ p.count / 16777216 % 256 ∷ p.count / 65536 % 256 ∷ p.count / 256 % 256 ∷ p.count % 256 ∷ []
    ≡ checkpoint p []
unfolding checkpoint
head_is p i m c =
    let a : p.path / 256 % 256 ≡ p.path / 256 = omega arith in
    rw (a, four_bytes p.count [] c, four_bytes p.mask (put32 p.count []) m)

-- the image stands behind them
head_image : (p : Place) (image : List ℕ) → checkpoint p image ≡ checkpoint p [] ++ image
unfolding checkpoint
head_image p image = refl

-- a checkpoint is written to the buffer
module _ (image : List ℕ) (p : Place) (buffer : List ℕ) where
  -- what a fault leaves
  left_as_it_was : (f : Fault) → write_checkpoint the_bounds image p (length buffer) ≡ Err f → (Err f ≡ write_checkpoint the_bounds image p (length buffer)) × (buffer ≡ buffer_after the_bounds image p buffer)
  unfolding buffer_after overlaid
  left_as_it_was f e = (sym e, rw e)

  -- the image is refused, or the place
  pub keep_refused : (f : Fault) → Err f ≡ judge_of the_bounds image p → (Err f ≡ write_checkpoint the_bounds image p (length buffer)) × (buffer ≡ buffer_after the_bounds image p buffer)
  unfolding write_checkpoint
  keep_refused f e = left_as_it_was f (on_bad _ _ f (unjudged the_bounds image f p e))

  -- neither is
  module _ (x : Sight) (e : Ok x ≡ judge_of the_bounds image p) where
    -- the place's count has 32 bits
    pub keep_count : p.count < 2 ^ 32
    keep_count = let j = judged the_bounds image x p e in omega (arith, accepted_count image j.sight.paths j.sight.is p j.fitting)

    -- whether there is room decides
    room_decides : write_checkpoint the_bounds image p (length buffer) ≡ checkpoint_length image (length buffer)
    unfolding write_checkpoint
    room_decides = let j = judged the_bounds image x p e in on_got _ _ j.sight.paths (fitting_is the_bounds image p j.sight.paths j.sight.is j.fitting)

    -- "lent buffer too short for a checkpoint"
    pub keep_short : length buffer < 16 + length image → (Err (fault BufferShort 0 0) ≡ write_checkpoint the_bounds image p (length buffer)) × (buffer ≡ buffer_after the_bounds image p buffer)
    unfolding refuse
    keep_short h = left_as_it_was _ (room_decides ∙ tests_bad _ _ _ (rw (lt-ltb (length buffer) (head_length + length image) h) refl))

    -- there is room: the head in the first 16 bytes and the image in those behind them are the checkpoint in front of the rest
    module _ (l : 16 + length image ≤ length buffer) where
      room : write_checkpoint the_bounds image p (length buffer) ≡ Ok (16 + length image)
      room = room_decides ∙ let_pass _ _ _ (le-ltb (length buffer) (head_length + length image) l)

      two_parts : (h tail : List ℕ) → h ≡ checkpoint p [] → tail ≡ image → put_mid 16 (16 + length image - 16) (h ++ drop 16 buffer) tail ≡ checkpoint p image ++ drop (16 + length image) buffer
      two_parts h tail e et =
          let h16 : length h ≡ 16 = ap length e ∙ checkpoint_length_lem p [] in
          let front : take 16 (h ++ drop 16 buffer) ≡ h = take_at h (drop 16 buffer) 16 h16 in
          let n : 16 + length image - 16 ≡ length image = omega arith in
          let rest : drop (length image) (drop 16 (h ++ drop 16 buffer)) ≡ drop (16 + length image) buffer = ap (drop (length image)) (drop_at h (drop 16 buffer) 16 h16) ∙ drop-drop (length image) 16 buffer in
          rw (n, front, rest, et, e, head_image p image, append_assoc)

      -- so it is written, part by part
      pub keep_filled : (h tail : List ℕ) → h ≡ checkpoint p [] → tail ≡ image
          → (Ok (16 + length image) ≡ write_checkpoint the_bounds image p (length buffer)) × (put_mid 16 (16 + length image - 16) (h ++ drop 16 buffer) tail ≡ buffer_after the_bounds image p buffer)
      unfolding buffer_after overlaid
      keep_filled h tail e et = (sym room, two_parts h tail e et ∙ rw room)

-- ---- reading

-- the place fields
pub place_is : (s : List ℕ) (i m c : ℕ) → i ≡ be16 s 6 → m ≡ be32 s 8 → c ≡ be32 s 12 → place (get_or s 5 0) i m c ≡ place_in s
unfolding place_in
place_is s i m c ei em ec = rw (ei, em, ec)

module _ (b : Bounds) (s : List ℕ) where
  -- "16 bytes"
  pub restore_short : length s < 16 → Err (fault CheckpointHead 0 0) ≡ read_checkpoint b s
  unfolding read_checkpoint refuse
  restore_short h = sym (tests_bad _ _ _ (rw (lt-ltb (length s) head_length h) refl))

  module _ (h : 16 ≤ length s) (x : Bool) (m : x ≡ marked 67 s) where
    -- "and mark"
    pub restore_unmarked : x ≡ false → Err (fault CheckpointHead 0 0) ≡ read_checkpoint b s
    unfolding read_checkpoint refuse
    restore_unmarked z = sym (let_pass _ _ _ (le-ltb (length s) head_length h) ∙ tests_bad _ _ _ (rw (← m, z) refl))

    module _ (t : x ≡ true) (v : ℕ) (n : v ≡ be16 s 3) where
      -- the mark is there
      marked_passes : not (marked 67 s) ≡ false
      marked_passes = rw (← m, t)

      -- and the version
      version_passes : v ≡ 1 → not (eqb (be16 s 3) 1) ≡ false
      version_passes o = rw (eq-eqb (be16 s 3) 1 (sym n ∙ o)) refl

      -- "version"
      pub restore_version : (v ≡ 1 → ⊥) → Err (fault CheckpointVersion 3 3) ≡ read_checkpoint b s
      unfolding read_checkpoint refuse
      restore_version z =
          sym (let_pass _ _ _ (le-ltb (length s) head_length h) ∙ let_pass _ _ _ marked_passes ∙ tests_bad _ _ _ (rw (ne_eqb (be16 s 3) 1 (λ k. z (n ∙ k))) refl))

      module _ (o : v ≡ 1) where
        -- "the image .., place fields"
        pub restore_refused : (f : Fault) → Err f ≡ judge_of b (take (length s - 16) (drop 16 s)) (place_in s) → Err f ≡ read_checkpoint b s
        unfolding read_checkpoint
        restore_refused f e =
            sym (let_pass _ _ _ (le-ltb (length s) head_length h) ∙ let_pass _ _ _ marked_passes ∙ let_pass _ _ _ (version_passes o) ∙ on_bad _ _ f (unjudged b (drop 16 s) f (place_in s) (rw (part_to_end s 16) at e)))

        -- none of these
        pub restore_is : (y : Sight) → Ok y ≡ judge_of b (take (length s - 16) (drop 16 s)) (place_in s) → Ok (place_in s) ≡ read_checkpoint b s
        restore_is y e =
            let j = judged b (drop 16 s) y (place_in s) (rw (part_to_end s 16) at e) in
            sym (checkpoint_is b s j.sight.paths h (sym m ∙ t) (sym n ∙ o) (fitting_is b _ _ j.sight.paths j.sight.is j.fitting))

  -- ---- for callers: the part behind the head; where it is refused, "a returned part is empty"
  pub image_refused : (f : Fault) → Err f ≡ read_checkpoint b s → [] ≡ checkpoint_image b s
  unfolding checkpoint_image image_part
  image_refused f e = rw (← e)

  pub image_is : (p : Place) → Ok p ≡ read_checkpoint b s → take (length s - 16) (drop 16 s) ≡ checkpoint_image b s
  unfolding checkpoint_image image_part
  image_is p e = rw (← e) (part_to_end s 16)

  -- its head is there
  pub image_headed : (p : Place) → Ok p ≡ read_checkpoint b s → 16 ≤ length s
  unfolding read_checkpoint
  image_headed p e = ltb-false (length s) head_length (past _ _ _ _ (sym e)).0
