-- Lists: runs of stores one behind the other, and the n-th of a list that was mapped.
use Prim.Native.Nat.{ℕ, zero, suc, ◌+◌, ◌≤◌, ◌<◌}
use mathlib.Core.Path.{◌≡◌, refl, sym, ap, ◌∙◌}
use mathlib.Core.List.{List, [], ◌∷◌, ◌++◌, map}
use native.Mathlib.Nat.{add-zero, add-suc, suc-add}
use native.Mathlib.Numerals.{add-one}
use native.Mathlib.Omega.{arith}
use lib.ListN.{length, get_or, take, drop, set}
use lib.Seq.{sets, take-suc, length-take-le, sets-eq, take_at}

module _ {A : Type 0} where
  pub sets_append : (l : List A) (i : ℕ) (xs ys : List A) → sets (sets l i xs) (i + length xs) ys ≡ sets l i (xs ++ ys)
  sets_append l i [] ys = rw add-zero
  sets_append l i (a ∷ xs) ys = rw (add-suc, ← suc-add) (sets_append (set l i a) (suc i) xs ys)

  -- one more of the words, behind those that are written
  pub sets_more : (l : List A) (i j : ℕ) (ws : List A) (d : A) → j < length ws → set (sets l i (take j ws)) (i + j) (get_or ws j d) ≡ sets l i (take (j + 1) ws)
  sets_more l i j ws d h =
      let e : length (take j ws) ≡ j = length-take-le j ws (omega arith) in
      ap (λ (k : ℕ). set (sets l i (take j ws)) (i + k) (get_or ws j d)) (sym e) ∙ sets_append l i (take j ws) (get_or ws j d ∷ []) ∙ ap (sets l i) (sym (take-suc ws j d h)) ∙ ap (λ (k : ℕ). sets l i (take k ws)) (sym (add-one j))

  -- what was written to the front
  pub front : (l xs : List A) → length xs ≤ length l → take (length xs) (sets l 0 xs) ≡ xs
  front l xs h = let e = sets-eq xs l 0 (omega arith) in rw e (take_at xs (drop (0 + length xs) l) (length xs) refl)

module _ {A B : Type 0} (f : A → B) where
  pub get_d_map : (l : List A) (n : ℕ) (d : B) (e : A) → n < length l → get_or (map f l) n d ≡ f (get_or l n e)
  get_d_map [] n d e h = absurd (omega arith)
  get_d_map (x ∷ l) zero d e h = refl
  get_d_map (x ∷ l) (suc n) d e h = get_d_map l n d e (omega arith)
