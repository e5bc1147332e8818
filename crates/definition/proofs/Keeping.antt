-- Checkpoints there and back: what is written at a fitting place is read as that place and that image, and what is read was so
-- written.
use Rattle.std.specs.Prelude.{Ok, Err}
use mathlib.Core.Path.{◌≡◌, refl, ap, ◌∙◌}
use mathlib.Core.Bool.{true, false}
use mathlib.Core.List.{List, ◌∷◌}
use Prim.Native.Nat.{ℕ, ◌+◌, ◌≤◌}
use native.Mathlib.Nat.{div-add-mod'}
use native.Mathlib.Omega.{arith}
use lib.ListN.{length, get_or, drop}
use borrow.Author.Tests.{ltb-false, le-ltb, eqb-true, eq-eqb, not-false}
use Rattle.definition.specs.declared.Bounds.{Bounds}
use Rattle.definition.specs.declared.Fault.{Fault}
use Rattle.definition.specs.declared.Kind.TheVariants.{CheckpointPlace}
use Rattle.definition.specs.declared.Place.{Place}
use Rattle.definition.specs.Bytes.{Bytes, be16, be32, put16, put32}
use Rattle.definition.specs.Fault.{fault, ◌>>=◌, ◌>>◌, refuse}
use Rattle.definition.specs.Reading.{marked}
use Rattle.definition.specs.Accepted.{Compiled, accepted}
use Rattle.definition.specs.Place.{Standing, slice, fits, fitting, sliced}
use Rattle.definition.specs.Checkpoint.{head_length, checkpoint, place_in, read_checkpoint, image_part, checkpoint_image}
use Rattle.definition.proofs.Steps.{same_got, carried, step_got, past, on_bad}
use Rattle.definition.proofs.Numbers.{join32}
use Rattle.definition.proofs.Apart.{at8, at16, at32}
use Rattle.definition.proofs.Sound.{marked_inv, versioned}
use Rattle.definition.proofs.Slices.{slice_fits}

-- the place recorded is the place restored (demand 3)
pub place_back : (p : Place) (image : List ℕ) → place_in (checkpoint p image) ≡ p
unfolding place_in checkpoint be16 be32
place_back p image = rw (div-add-mod' p.path 256, join32 p.mask, join32 p.count)

pub checkpoint_length_lem : (p : Place) (image : List ℕ) → length (checkpoint p image) ≡ head_length + length image
unfolding checkpoint
checkpoint_length_lem p image = omega arith

-- a head of 16 bytes, mark, version 1, and a place that fits the image
pub checkpoint_is : (b : Bounds) (s : List ℕ) (ps : List Compiled) → head_length ≤ length s → marked 67 s ≡ true → be16 s 3 ≡ 1 → fitting b (drop head_length s) (place_in s) ≡ Ok ps → read_checkpoint b s ≡ Ok (place_in s)
unfolding read_checkpoint refuse ◌>>◌ ◌>>=◌
checkpoint_is b s ps n m v f = simp (le-ltb (length s) head_length n, m, eq-eqb (be16 s 3) 1 v, f)

module _ (b : Bounds) (p : Place) (image : List ℕ) (ps : List Compiled) (fit : fitting b image p ≡ Ok ps) where
  -- a checkpoint of an accepted image at a fitting place is read as that place
  pub checkpoint_back : read_checkpoint b (checkpoint p image) ≡ Ok p
  unfolding checkpoint marked be16
  checkpoint_back =
      checkpoint_is b (checkpoint p image) ps (omega (arith, checkpoint_length_lem p image)) refl refl (ap (fitting b image) (place_back p image) ∙ fit)
      ∙ ap Ok (place_back p image)

  -- and as that image
  pub image_back : checkpoint_image b (checkpoint p image) ≡ image
  unfolding checkpoint_image image_part checkpoint
  image_back = rw checkpoint_back

-- an accepted image's paths and a place that fits them pass the test of a lent examination
pub fitting_is : (b : Bounds) (image : List ℕ) (p : Place) (ps : List Compiled) → accepted image ≡ Ok ps → fits b ps p ≡ true → fitting b image p ≡ Ok ps
unfolding fitting refuse ◌>>◌ ◌>>=◌
fitting_is b image p ps e f = rw (e, f)

-- an image that is not accepted is refused first
pub fitting_refused : (b : Bounds) (image : List ℕ) (p : Place) (f : Fault) → accepted image ≡ Err f → fitting b image p ≡ Err f
unfolding fitting
fitting_refused b image p f e = on_bad _ _ f e

-- then a place that does not fit, as "11 at 5"
pub fitting_unfit : (b : Bounds) (image : List ℕ) (p : Place) (ps : List Compiled) → accepted image ≡ Ok ps → fits b ps p ≡ false → fitting b image p ≡ Err (fault CheckpointPlace 5 5)
unfolding fitting refuse ◌>>◌ ◌>>=◌
fitting_unfit b image p ps e f = rw (e, f)

-- and what passes is so
pub fitting_inv : (b : Bounds) (image : List ℕ) (p : Place) (ps : List Compiled) → fitting b image p ≡ Ok ps → (accepted image ≡ Ok ps) × (fits b ps p ≡ true)
unfolding fitting
fitting_inv b image p ps e =
    let i = step_got _ _ _ e in
    let j = past _ _ _ _ i.2 in
    let z : i.0 ≡ ps = same_got i.0 ps j.1 in
    (i.1 ∙ ap Ok z, rw z at (not-false (fits b i.0 p) j.0))

-- after a slice that was not refused, a checkpoint of the place it leaves is read back as that place
pub slice_kept : (b : Bounds) (image : List ℕ) (n : ℕ) (p : Place) (a : Standing) → sliced b image n p ≡ Ok a → read_checkpoint b (checkpoint a.place image) ≡ Ok a.place
unfolding sliced
slice_kept b image n p a e =
    let i = step_got _ _ _ e in
    let f = fitting_inv b image p i.0 i.1 in
    let z : slice b i.0 n p ≡ a = same_got _ a i.2 in
    checkpoint_back b a.place image i.0 (fitting_is b image a.place i.0 f.0 (rw z at (slice_fits b i.0 n p f.1)))

-- what is read as a checkpoint was so written, its image is accepted and its place fits
pub record Restored (b : Bounds) (s : List ℕ) (p : Place) : Type 0 where
  pub bytes : s ≡ checkpoint p (drop head_length s)
  pub paths : List Compiled
  pub fits : fitting b (drop head_length s) p ≡ Ok paths

fields : (s : List ℕ) → Bytes s → head_length ≤ length s → drop 5 s ≡ (place_in s).phase ∷ put16 (place_in s).path (put32 (place_in s).mask (put32 (place_in s).count (drop head_length s)))
unfolding place_in
fields s w n =
    at8 s w 5 (omega arith) ∙ ap (λ r. get_or s 5 0 ∷ r)
    (at16 s w 6 (omega arith) ∙ ap (put16 (be16 s 6))
    (at32 s w 8 (omega arith) ∙ ap (put32 (be32 s 8)) (at32 s w 12 (omega arith))))

pub checkpoint_sound : (b : Bounds) (s : List ℕ) (p : Place) → Bytes s → read_checkpoint b s ≡ Ok p → Restored b s p
unfolding read_checkpoint checkpoint
checkpoint_sound b s p w q =
    let i = past _ _ _ _ q in
    let j = past _ _ _ _ i.1 in
    let k = past _ _ _ _ j.1 in
    let f = step_got _ _ _ k.1 in
    let n = ltb-false (length s) head_length i.0 in
    carried (λ (x : Place). Restored b s x) (place_in s) p f.2 (record {
      bytes = versioned 67 s w (omega arith) (marked_inv 67 s j.0) (eqb-true (be16 s 3) 1 (not-false _ k.0)) ∙ ap (λ r. 66 ∷ 86 ∷ 67 ∷ 0 ∷ 1 ∷ r) (fields s w n);
      paths = f.0;
      fits = f.1;
    })
