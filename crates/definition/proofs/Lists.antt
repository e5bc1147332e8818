-- Lists: what stands at a number.
use Prim.Native.Nat.{ℕ, zero, suc, ◌<◌}
use mathlib.Core.Path.{◌≡◌, refl}
use mathlib.Core.List.{List, [], ◌∷◌}
use native.Mathlib.Omega.{arith}
use lib.ListN.{length, drop}

-- a list has an element at each number below its length
pub element_at : {A : Type 0} (l : List A) (n : ℕ) → n < length l → (x : A) × (rest : List A) × (drop n l ≡ x ∷ rest)
element_at [] n h = absurd (omega arith)
element_at (x ∷ l) zero h = (x, l, refl)
element_at (x ∷ l) (suc n) h = element_at l n (omega arith)
