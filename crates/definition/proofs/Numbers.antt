-- Numbers and locations that were put in front of bytes, read back out of them.
use mathlib.Core.Path.{◌≡◌, sym, ap, ◌∙◌}
use mathlib.Core.List.{List, ◌∷◌}
use Prim.Native.Nat.{ℕ, ◌+◌, ◌-◌, ◌*◌, ◌/◌, ◌%◌, ◌^◌}
use native.Mathlib.Nat.{div-add-mod'}
use native.Mathlib.Omega.{arith}
use lib.ListN.{drop}
use lib.Seq.{drop-drop}
use lib.IntN.{ℤ, pos, negsuc}
use borrow.Author.Tests.{lt-ltb, le-ltb}
use Rattle.definition.specs.declared.Location.{Location}
use Rattle.definition.specs.Bytes.{when◌then◌else◌, be16, be32, be64, put16, put64, signed, bits}
use Rattle.definition.specs.Writing.{item, Fit64}
use Rattle.definition.specs.Reading.{location_of}

-- a number of 32 bits out of its four bytes
pub join32 : (n : ℕ) → (n / 65536 / 256 * 256 + n / 65536 % 256) * 65536 + (n % 65536 / 256 * 256 + n % 65536 % 256) ≡ n
join32 n = rw (div-add-mod' (n / 65536) 256, div-add-mod' (n % 65536) 256) (div-add-mod' n 65536)

-- past k bytes, then m more
pub skip : (s : List ℕ) (k m : ℕ) {q r : List ℕ} → drop k s ≡ q → drop m q ≡ r → drop (k + m) s ≡ r
skip s k m d e = sym (drop-drop m k s) ∙ ap (drop m) d ∙ e

-- two's complement, there and back
pub sign_back : (z : ℤ) → Fit64 z → signed (bits z) ≡ z
unfolding signed bits Fit64 when◌then◌else◌
sign_back (pos n) h = simp (lt-ltb n (2 ^ 63) h)
sign_back (negsuc n) h =
    let e : 2 ^ 64 - 1 - (2 ^ 64 - 1 - n) ≡ n = omega arith in
    simp (le-ltb (2 ^ 64 - 1 - n) (2 ^ 63) (omega arith), e)

-- an item's location, and the numbers after it
module _ (t : ℕ) (p : Location) where
  -- the location is the one written
  pub loc_back : (r : List ℕ) → location_of (item t p r) ≡ p
  unfolding location_of be32 be16
  loc_back r = rw (join32 p.start, join32 p.end, join32 p.line, join32 p.column)

  -- 16 bits right after the location
  pub be16_17 : (n : ℕ) (r : List ℕ) → be16 (item t p (put16 n r)) 17 ≡ n
  unfolding be16
  be16_17 n r = div-add-mod' n 256

  -- 16 bits after the location and one byte
  pub be16_18 : (o n : ℕ) (r : List ℕ) → be16 (item t p (o ∷ put16 n r)) 18 ≡ n
  unfolding be16
  be16_18 o n r = div-add-mod' n 256

  -- 16 bits after the location, one byte and 16 bits
  pub be16_20 : (o m n : ℕ) (r : List ℕ) → be16 (item t p (o ∷ put16 m (put16 n r))) 20 ≡ n
  unfolding be16
  be16_20 o m n r = div-add-mod' n 256

  -- 64 bits right after the location
  pub word_17 : (n : ℕ) (r : List ℕ) → be64 (item t p (put64 n r)) 17 ≡ n
  unfolding be64 be32 be16
  word_17 n r = rw (join32 (n / 4294967296), join32 (n % 4294967296)) (div-add-mod' n 4294967296)

  -- 64 bits after the location and one byte
  pub word_18 : (o n : ℕ) (r : List ℕ) → be64 (item t p (o ∷ put64 n r)) 18 ≡ n
  unfolding be64 be32 be16
  word_18 o n r = rw (join32 (n / 4294967296), join32 (n % 4294967296)) (div-add-mod' n 4294967296)
