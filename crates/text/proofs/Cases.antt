-- Numbers in decimal, computed.
use mathlib.Core.Path.{◌≡◌, refl}
use mathlib.Core.List.{[], ◌∷◌, map}
use Rattle.text.specs.Text.{digits_by, decimal_of}

-- 0, 9, 10, 407, and the greatest number of 64 bits: "18446744073709551615"
pub holds : map decimal_of (0 ∷ 9 ∷ 10 ∷ 407 ∷ 18446744073709551615 ∷ []) ≡ (48 ∷ []) ∷ (57 ∷ []) ∷ (49 ∷ 48 ∷ []) ∷ (52 ∷ 48 ∷ 55 ∷ []) ∷ (49 ∷ 56 ∷ 52 ∷ 52 ∷ 54 ∷ 55 ∷ 52 ∷ 52 ∷ 48 ∷ 55 ∷ 51 ∷ 55 ∷ 48 ∷ 57 ∷ 53 ∷ 53 ∷ 49 ∷ 54 ∷ 49 ∷ 53 ∷ []) ∷ []
unfolding decimal_of digits_by
holds = refl
