-- The bits of signed 64-bit numbers: the lower half stands for itself, the upper half for the numbers below 0.
use mathlib.Core.Path.{◌≡◌, refl, ap}
use mathlib.Core.Bool.{Bool, true, false}
use Prim.Native.Nat.{ℕ, suc, ◌-◌, ◌^◌, ◌<◌}
use native.Mathlib.Omega.{arith}
use lib.Dec.{ltb, eqb}
use lib.IntN.{ℤ, pos, negsuc}
use borrow.Author.Tests.{eqb-true, eqb-false, eq-eqb, ne_eqb}
use mir.Syntax.{w64}
use mir.Val.{SFits, to_z, of_z, sel}
use Rattle.definition.specs.Bytes.{when◌then◌else◌, signed}
use Rattle.definition.specs.Folding.{same_z}

-- ---- the signed number that bits stand for

pub signed_is : (n : ℕ) → n < 2 ^ 64 → to_z w64 n ≡ signed n
unfolding signed when◌then◌else◌
signed_is n h = by (ltb n (2 ^ 63)) refl where
  by : (t : Bool) → ltb n (2 ^ 63) ≡ t → sel t (pos n) (negsuc (2 ^ 64 - suc n)) ≡ (when t then pos n else negsuc (2 ^ 64 - 1 - n))
  by true e = refl
  by false e = ap negsuc (omega (arith, h))

-- ---- equal bits, equal numbers

eqb_both : (a b c d : ℕ) → (a ≡ b → c ≡ d) → (c ≡ d → a ≡ b) → eqb a b ≡ eqb c d
eqb_both a b c d f g = by (eqb c d) refl where
  by : (t : Bool) → eqb c d ≡ t → eqb a b ≡ t
  by true e = eq-eqb a b (g (eqb-true c d e))
  by false e = ne_eqb a b (λ p. eqb-false c d e (f p))

pub same_bits : {a b : ℤ} → SFits w64 a → SFits w64 b → eqb (of_z w64 a) (of_z w64 b) ≡ same_z a b
unfolding same_z
same_bits {a = pos a} {b = pos b} f g = refl
same_bits {a = pos a} {b = negsuc b} f g = ne_eqb a (2 ^ 64 - suc b) (λ p. omega (arith, p))
same_bits {a = negsuc a} {b = pos b} f g = ne_eqb (2 ^ 64 - suc a) b (λ p. omega (arith, p))
same_bits {a = negsuc a} {b = negsuc b} f g = eqb_both (2 ^ 64 - suc a) (2 ^ 64 - suc b) a b (λ p. omega (arith, p)) (λ p. omega (arith, p))
