-- The locations of the Sig atoms: runs of stores one over the other, the search for a location, and the area after it.
use Prim.Native.Nat.{ℕ, suc, max, ◌+◌, ◌≤◌, ◌<◌}
use mathlib.Core.Path.{◌≡◌, refl, sym, ap, ◌∙◌}
use mathlib.Core.Bool.{Bool, true, false, cond, ◌&&◌}
use mathlib.Core.List.{List, [], ◌∷◌, ◌++◌}
use native.Mathlib.Nat.{zero-add}
use native.Mathlib.Omega.{arith}
use lib.Dec.{eqb, ltb}
use lib.ListN.{length, take, drop, set, length-take, length-append, take-append-drop}
use lib.Seq.{sets, sets-eq, set-set, set_comm}
use borrow.Author.Tests.{lt-ltb, le-ltb, ltb-true, ltb-false}
use Rattle.std.specs.List.{position, position_or_len}
use Rattle.std.specs.Prelude.{Option, Some, None}
use Rattle.std.proofs.lemmas.List.Recursion.{is_position_or_len}
use Rattle.definition.specs.declared.Location.{Location}
use Rattle.definition.specs.Bytes.{when◌then◌else◌}
use Rattle.definition.specs.Formula.{same_location, index_of, with_location}
use Rattle.paths.proofs.Lists.{sets_append, front}
use Rattle.formula.specs.Areas.{Rows, SigFor}

-- ---- runs of stores
module _ {A : Type 0} where
  -- a store before a run, after it or first
  pub set_before : (l : List A) (w j : ℕ) (xs : List A) (v : A) → w < j → set (sets l j xs) w v ≡ sets (set l w v) j xs
  set_before l w j [] v h = refl
  set_before l w j (x ∷ xs) v h = set_before (set l j x) w (suc j) xs v (omega arith) ∙ ap (λ (m : List A). sets m (suc j) xs) (set_comm l j w x v (λ e. omega (arith, e)))

  -- a run over a shorter one
  pub sets_over : (l : List A) (i : ℕ) (xs ys : List A) → length xs ≤ length ys → sets (sets l i xs) i ys ≡ sets l i ys
  sets_over l i [] ys h = refl
  sets_over l i (x ∷ xs) [] h = absurd (omega arith)
  sets_over l i (x ∷ xs) (y ∷ ys) h =
      ap (λ (m : List A). sets m (suc i) ys) (set_before (set l i x) i (suc i) xs y (omega arith) ∙ ap (λ (m : List A). sets m (suc i) xs) (set-set l i x y))
      ∙ sets_over (set l i y) (suc i) xs ys (omega arith)

  -- a run of what is there
  sets_same : (l xs : List A) → take (length xs) l ≡ xs → sets l 0 xs ≡ l
  sets_same l xs e =
      let h : length xs ≤ length l = omega (arith, ap length e, length-take (length xs) l) in
      sets-eq xs l 0 (omega (arith, h))
      ∙ ap (λ (k : ℕ). xs ++ drop k l) (zero-add (length xs))
      ∙ ap (λ (z : List A). z ++ drop (length xs) l) (sym e)
      ∙ take-append-drop (length xs) l

-- ---- the locations
module _ (p : Location) where
  -- an atom's number is that of one there, or the next
  pub index_le : (l : List Location) → index_of p l ≤ length l
  unfolding index_of when◌then◌else◌
  index_le [] = omega arith
  index_le (q ∷ l) = by (same_location q p) (index_le l)
    where
      by : (b : Bool) → index_of p l ≤ length l → (when b then 0 else 1 + index_of p l) ≤ suc (length l)
      by true h = omega arith
      by false h = omega arith

  pub length_with : (l : List Location) → length (with_location p l) ≡ max (length l) (index_of p l + 1)
  unfolding with_location when◌then◌else◌
  length_with l = by (ltb (index_of p l) (length l)) refl
    where
      by : (b : Bool) → ltb (index_of p l) (length l) ≡ b → length (when b then l else l ++ (p ∷ [])) ≡ max (length l) (index_of p l + 1)
      by true h = omega (arith, ltb-true _ _ h)
      by false h = omega (arith, length-append l (p ∷ []), ltb-false _ _ h, index_le l)

  pub length_with_within : (l : List Location) → (length l ≤ length (with_location p l)) × (length (with_location p l) ≤ length l + 1)
  length_with_within l = (omega (arith, length_with l), omega (arith, length_with l, index_le l))

  -- the old one, or one more
  with_old : (l : List Location) → index_of p l < length l → with_location p l ≡ l
  unfolding with_location when◌then◌else◌
  with_old l h = rw (lt-ltb _ _ h)

  with_new : (l : List Location) → length l ≤ index_of p l → with_location p l ≡ l ++ (p ∷ [])
  unfolding with_location when◌then◌else◌
  with_new l h = rw (le-ltb _ _ h)

-- ---- the area
-- written anew they are what is there
pub rows_same : (l : List Location) (n : ℕ) (area : List Location) → Rows l n area → sets area 0 l ≡ area
rows_same l n area s = sets_same area l (ap (λ (z : ℕ). take z area) (sym s.count) ∙ s.are)

-- those of other locations, written over them
pub rows_after : (area m : List Location) → length m ≤ length area → Rows m (length m) (sets area 0 m)
rows_after area m h = record { count = refl; are = front area m h }

-- ---- the search
-- of a location the column is compared before its end and its line
pub column_second : (q p : Location) → (eqb q.start p.start && (eqb q.column p.column && (eqb q.end p.end && eqb q.line p.line))) ≡ same_location q p
unfolding same_location
column_second q p = go (eqb q.start p.start) (eqb q.end p.end) (eqb q.line p.line) (eqb q.column p.column)
  where
    go : (a b c d : Bool) → (a && (d && (b && c))) ≡ (a && (b && (c && d)))
    go false b c d = refl
    go true false c false = refl
    go true false c true = refl
    go true true false false = refl
    go true true false true = refl
    go true true true false = refl
    go true true true true = refl

-- the first of the locations that is p
index_position : (p : Location) (l : List Location) → index_of p l ≡ position_or_len (λ (q : Location). same_location q p) l
unfolding index_of when◌then◌else◌
index_position p l = is_position_or_len (index_of p) (λ (q : Location). same_location q p) refl (λ q m. refl) l

module _ (p : Location) (l : List Location) (n : ℕ) (area : List Location) (s : Rows l n area) where
  -- the area afterwards, the location being there or new
  old_sig : (r : ℕ) → r ≡ index_of p l → r < n → SigFor p l r area area
  old_sig r e h = record { number = e; are = rw (with_old p l (omega (arith, e, s.count))) (sym (rows_same l n area s)) }

  new_sig : n ≤ index_of p l → SigFor p l n area (set area n p)
  new_sig h =
      let k : length l ≤ index_of p l = omega (arith, h, s.count) in
      let m : 0 + length l ≡ n = zero-add _ ∙ sym s.count in
      let run : set area n p ≡ sets area 0 (l ++ (p ∷ [])) = rw (rows_same l n area s, m) at (sets_append area 0 l (p ∷ [])) in
      record { number = omega (arith, k, index_le p l, s.count); are = rw (with_new p l k) run }

  -- by what `position` found
  module _ (r : Option ℕ) (e : r ≡ position (λ q. same_location q p) (take n area)) where
    found : r ≡ cond (ltb (index_of p l) n) (Some (index_of p l)) None
    found = e ∙ rw (s.are, ← index_position p l, ← s.count)

    pub found_sig : (i : ℕ) → r ≡ Some i → SigFor p l i area area
    found_sig i o = by (ltb (index_of p l) n) refl (sym found ∙ o)
      where
        by : (t : Bool) → ltb (index_of p l) n ≡ t → cond t (Some (index_of p l)) None ≡ Some i → SigFor p l i area area
        by true h q = let k : index_of p l ≡ i = cc in old_sig i (sym k) (omega (arith, ltb-true _ _ h, k))
        by false h q = cc

    pub added_sig : r ≡ None → SigFor p l n area (set area n p)
    added_sig o = by (ltb (index_of p l) n) refl (sym found ∙ o)
      where
        by : (t : Bool) → ltb (index_of p l) n ≡ t → cond t (Some (index_of p l)) None ≡ None → SigFor p l n area (set area n p)
        by true h q = cc
        by false h q = new_sig (ltb-false _ _ h)
