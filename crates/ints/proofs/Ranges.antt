-- Signed 64-bit numbers as std's checked methods give them, and as the definition keeps them.
use mathlib.Core.Path.{◌≡◌, refl, sym, ap}
use mathlib.Core.Bool.{Bool, true, false, cond}
use Prim.Native.Nat.{ℕ, zero, suc, ◌^◌, ◌<◌}
use native.Mathlib.Omega.{arith}
use lib.Dec.{ltb}
use lib.IntN.{ℤ, pos, negsuc, nat_abs, neg_ℤ}
use lib.Signed.{mag, lt_z}
use borrow.Author.Tests.{lt-ltb, le-ltb, ltb-true, ltb-false}
use borrow.Author.Rules.{sfits_of}
use mir.Syntax.{w64}
use mir.Val.{SFits, to_z, of_z}
use mir.Facts.{to_z-of_z}
use Rattle.std.specs.Option.{SomeIff}
use Rattle.std.specs.Prelude.{Option, Some, None}
use Rattle.std.specs.Int.{int_max, int_min}
use Rattle.definition.specs.declared.Folded.TheVariants.{Value, Overflow}
use Rattle.definition.specs.Bytes.{when◌then◌else◌}
use Rattle.definition.specs.Folding.{kept}

-- a number within the range is kept, and one outside it is an overflow
kept_value : (v z : ℤ) → SFits w64 z → v ≡ z → Value (to_z w64 (of_z w64 v)) ≡ kept z
unfolding kept when◌then◌else◌
kept_value v z f e = let g : to_z w64 (of_z w64 v) ≡ z = rw e (to_z-of_z f) in rw (g, lt-ltb (mag z) (2 ^ 63) f.sfits)

kept_over : (z : ℤ) → (SFits w64 z → ⊥) → Overflow 0 ≡ kept z
unfolding kept when◌then◌else◌
kept_over z n = let m : mag z < 2 ^ 63 → ⊥ = λ h. n (sfits_of h) in rw (le-ltb (mag z) (2 ^ 63) (omega (arith, m)))

-- what a checked operation came to
pub kept_some : {o : Option ℤ} {v : ℤ} (z : ℤ) → o ≡ Some v → SomeIff o (SFits w64 z) z → Value (to_z w64 (of_z w64 v)) ≡ kept z
kept_some {o} {v} z e h = let m = rw e at h in kept_value v z m.0 m.1

pub kept_none : {o : Option ℤ} (z : ℤ) → o ≡ None → SomeIff o (SFits w64 z) z → Overflow 0 ≡ kept z
kept_none z e h = kept_over z (rw e at h)

-- a number without its sign is within the range where the number with the other sign is
pub absolute_is : (o : Option ℤ) (v : ℤ) → SFits w64 v → SomeIff o (SFits w64 (neg_ℤ v)) (pos (nat_abs v)) → SomeIff o (SFits w64 (pos (nat_abs v))) (pos (nat_abs v))
absolute_is (Some x) (pos n) f h = (f, h.1)
absolute_is None (pos n) f h = absurd (h (sfits_of (minus n (omega (arith, f.sfits)))))
  where
    minus : (n : ℕ) → n < 2 ^ 63 → mag (neg_ℤ (pos n)) < 2 ^ 63
    minus zero h = omega arith
    minus (suc n) h = omega arith
absolute_is o (negsuc n) f h = h

-- the greater and the lesser of two, as std and as the definition choose
chosen : (a b : ℕ) {A : Type 0} (f : ℕ → A) → (cond (ltb b a) (f a) (f b) ≡ (when ltb a b then f b else f a)) × (cond (ltb b a) (f b) (f a) ≡ (when ltb a b then f a else f b))
unfolding when◌then◌else◌
chosen a b {A} f = by (ltb a b) (ltb b a) refl refl where
  by : (s t : Bool) → ltb a b ≡ s → ltb b a ≡ t → (cond t (f a) (f b) ≡ (when s then f b else f a)) × (cond t (f b) (f a) ≡ (when s then f a else f b))
  by true true e g = absurd (omega (arith, ltb-true a b e, ltb-true b a g))
  by true false e g = (refl, refl)
  by false true e g = (refl, refl)
  by false false e g = let m : a ≡ b = omega (arith, ltb-false a b e, ltb-false b a g) in (ap f (sym m), ap f m)

pub max_is : (a b : ℤ) → int_max a b ≡ (when lt_z a b then b else a)
unfolding when◌then◌else◌
max_is (pos a) (pos b) = (chosen a b pos).0
max_is (pos a) (negsuc b) = refl
max_is (negsuc a) (pos b) = refl
max_is (negsuc a) (negsuc b) = (chosen b a negsuc).1

pub min_is : (a b : ℤ) → int_min a b ≡ (when lt_z a b then a else b)
unfolding when◌then◌else◌
min_is (pos a) (pos b) = (chosen a b pos).1
min_is (pos a) (negsuc b) = refl
min_is (negsuc a) (pos b) = refl
min_is (negsuc a) (negsuc b) = (chosen b a negsuc).0
