-- Bytes taken apart: what stands at an offset is the number read there, put in front of the rest.
use mathlib.Core.Path.{◌≡◌, refl, sym, ap, subst, ◌∙◌}
use mathlib.Core.Bool.{Bool, true, false}
use mathlib.Core.List.{List, [], ◌∷◌}
use Prim.Native.Nat.{ℕ, zero, suc, ◌+◌, ◌-◌, ◌*◌, ◌/◌, ◌%◌, ◌^◌, ◌<◌, ◌≤◌}
use native.Mathlib.Omega.{arith}
use lib.ListN.{length, get_or, take, drop}
use lib.Seq.{drop-cons, get_or-drop}
use lib.Dec.{ltb}
use lib.IntN.{pos, negsuc}
use borrow.Author.Tests.{ltb-true, ltb-false}
use Rattle.definition.specs.Bytes.{when◌then◌else◌, Bytes, be16, be32, be64, put16, put32, put64, signed, bits}
use Rattle.definition.specs.Writing.{item, FitLocation, Fit64}
use Rattle.definition.specs.Reading.{location_of}

-- the bytes of a part
pub bytes_drop : (k : ℕ) (s : List ℕ) → Bytes s → Bytes (drop k s)
unfolding Bytes
bytes_drop k s w i = subst (λ x. x < 256) (sym (get_or-drop k s i 0)) (w (k + i))

pub bytes_take : (n : ℕ) (s : List ℕ) → Bytes s → Bytes (take n s)
unfolding Bytes
bytes_take zero s w i = omega arith
bytes_take (suc n) [] w i = omega arith
bytes_take (suc n) (x ∷ s) w zero = w 0
bytes_take (suc n) (x ∷ s) w (suc i) = bytes_take n s (λ j. w (suc j)) i

split16 : (a b : ℕ) (r : List ℕ) → b < 256 → a ∷ b ∷ r ≡ put16 (a * 256 + b) r
split16 a b r h =
    let x : a ≡ (a * 256 + b) / 256 = omega arith in
    let y : b ≡ (a * 256 + b) % 256 = omega arith in
    ap (λ i. i ∷ b ∷ r) x ∙ ap (λ i. (a * 256 + b) / 256 ∷ i ∷ r) y

split32 : (a b : ℕ) (r : List ℕ) → b < 65536 → put16 a (put16 b r) ≡ put32 (a * 65536 + b) r
split32 a b r h =
    let x : a ≡ (a * 65536 + b) / 65536 = omega arith in
    let y : b ≡ (a * 65536 + b) % 65536 = omega arith in
    ap (λ i. put16 i (put16 b r)) x ∙ ap (λ i. put16 ((a * 65536 + b) / 65536) (put16 i r)) y

split64 : (a b : ℕ) (r : List ℕ) → b < 4294967296 → put32 a (put32 b r) ≡ put64 (a * 4294967296 + b) r
split64 a b r h =
    let x : a ≡ (a * 4294967296 + b) / 4294967296 = omega arith in
    let y : b ≡ (a * 4294967296 + b) % 4294967296 = omega arith in
    ap (λ i. put32 i (put32 b r)) x ∙ ap (λ i. put32 ((a * 4294967296 + b) / 4294967296) (put32 i r)) y

module _ (s : List ℕ) (w : Bytes s) where
  -- numbers of bytes fit their width
  pub less16 : (i : ℕ) → be16 s i < 65536
  unfolding be16 Bytes
  less16 i = omega (arith, w i, w (i + 1))

  pub less32 : (i : ℕ) → be32 s i < 4294967296
  unfolding be32
  less32 i = omega (arith, less16 i, less16 (i + 2))

  pub less64 : (i : ℕ) → be64 s i < 18446744073709551616
  unfolding be64
  less64 i = omega (arith, less32 i, less32 (i + 4))

  -- one byte, and numbers, at offset i
  pub at8 : (i : ℕ) → i < length s → drop i s ≡ get_or s i 0 ∷ drop (i + 1) s
  at8 i h = let e : suc i ≡ i + 1 = omega arith in drop-cons s i 0 h ∙ ap (λ k. get_or s i 0 ∷ drop k s) e

  pub at16 : (i : ℕ) → i + 1 < length s → drop i s ≡ put16 (be16 s i) (drop (i + 2) s)
  unfolding be16 Bytes
  at16 i h =
      let e : i + 1 + 1 ≡ i + 2 = omega arith in
      at8 i (omega arith) ∙ ap (λ r. get_or s i 0 ∷ r) (at8 (i + 1) h ∙ ap (λ k. get_or s (i + 1) 0 ∷ drop k s) e) ∙ split16 (get_or s i 0) (get_or s (i + 1) 0) (drop (i + 2) s) (w (i + 1))

  pub at32 : (i : ℕ) → i + 3 < length s → drop i s ≡ put32 (be32 s i) (drop (i + 4) s)
  unfolding be32
  at32 i h =
      let e : i + 2 + 2 ≡ i + 4 = omega arith in
      at16 i (omega arith) ∙ ap (put16 (be16 s i)) (at16 (i + 2) (omega arith) ∙ ap (λ k. put16 (be16 s (i + 2)) (drop k s)) e) ∙ split32 (be16 s i) (be16 s (i + 2)) (drop (i + 4) s) (less16 (i + 2))

  pub at64 : (i : ℕ) → i + 7 < length s → drop i s ≡ put64 (be64 s i) (drop (i + 8) s)
  unfolding be64
  at64 i h =
      let e : i + 4 + 4 ≡ i + 8 = omega arith in
      at32 i (omega arith) ∙ ap (put32 (be32 s i)) (at32 (i + 4) (omega arith) ∙ ap (λ k. put32 (be32 s (i + 4)) (drop k s)) e) ∙ split64 (be32 s i) (be32 s (i + 4)) (drop (i + 8) s) (less32 (i + 4))

  -- the tag and the location
  pub at_item : (k : ℕ) → get_or s 0 0 ≡ k → 17 ≤ length s → s ≡ item k (location_of s) (drop 17 s)
  unfolding location_of
  at_item k e h =
      at8 0 (omega arith) ∙ ap (λ i. i ∷ drop 1 s) e
      ∙ ap (λ r. k ∷ r) (at32 1 (omega arith) ∙ ap (put32 (be32 s 1)) (at32 5 (omega arith) ∙ ap (put32 (be32 s 5)) (at32 9 (omega arith) ∙ ap (put32 (be32 s 9)) (at32 13 (omega arith)))))

  pub fit_location : FitLocation (location_of s)
  unfolding location_of
  fit_location = record { start = less32 1; end = less32 5; line = less32 9; column = less32 13 }

bits_back : (n : ℕ) → n < 18446744073709551616 → (b : Bool) → ltb n (2 ^ 63) ≡ b → (bits (when b then pos n else negsuc (2 ^ 64 - 1 - n)) ≡ n) × Fit64 (when b then pos n else negsuc (2 ^ 64 - 1 - n))
unfolding bits Fit64 when◌then◌else◌
bits_back n h true e = (refl, ltb-true n (2 ^ 63) e)
bits_back n h false e = let g = ltb-false n (2 ^ 63) e in (omega arith, omega arith)

-- two's complement, read and written
pub signed_bits : (n : ℕ) → n < 18446744073709551616 → (bits (signed n) ≡ n) × Fit64 (signed n)
unfolding signed
signed_bits n h = bits_back n h (ltb n (2 ^ 63)) refl
