-- Laws of one assignment: bits and shifts, words without operands, and the value at a word by those at its operands.
use Prim.Native.Nat.{ℕ, zero, suc, ◌+◌, ◌-◌, ◌/◌, ◌%◌, ◌^◌, ◌≤◌, ◌<◌}
use mathlib.Core.Path.{◌≡◌, refl, sym, ap, ◌∙◌, fun_ext}
use mathlib.Core.Bool.{Bool, true, false, not, ◌&&◌, ◌||◌, false≢true, beq}
use mathlib.Core.List.{List}
use native.Mathlib.Nat.{lt_of_lt_of_le, div-eq_of_lt, zero-div}
use native.Mathlib.Omega.{arith}
use lib.ListN.{length, drop, get_or, drop_of_length-le, get_or-eq_default}
use lib.Seq.{drop-cons, drop-drop}
use native.Mathlib.Decide.{dec_lt, ℕ_discrete}
use borrow.Author.Tests.{lt-ltb, le-ltb, ltb-false, eq-eqb, ne_eqb}
use lib.Dec.{ltb, eqb}
use lib.Pow.{pow_mono, shr-shr}
use Rattle.definition.specs.Formula.{bit, sig_value, free_value, eval_formula, satisfies}
use Rattle.evaluation.specs.Words.{node, formula_of}
use Rattle.evaluation.specs.Values.{is_leaf, value_at}
use Rattle.evaluation.proofs.Decoding.{say, say_nothing}

-- ---- bits

-- a bit past the width
pub bit_past : (m i : ℕ) → m < 2 ^ 32 → 32 ≤ i → false ≡ bit m i
unfolding bit
bit_past m i h le = rw (div-eq_of_lt (lt_of_lt_of_le h (pow_mono le)))

-- a bit of zero
bit_zero : (i : ℕ) → bit 0 i ≡ false
unfolding bit
bit_zero i = rw (zero-div (2 ^ i))

-- a bit of what is shifted
bit_shifted : (m n j : ℕ) → bit (m / 2 ^ n) j ≡ bit m (n + j)
unfolding bit
bit_shifted m n j = ap (λ (x : ℕ). eqb (x % 2) 1) (shr-shr m n j)

-- the values of the Sig atoms: none in phase 0, else the mask
pub sigs_none : (phase mask i : ℕ) → phase ≡ 0 → bit 0 i ≡ sig_value phase mask i
unfolding sig_value
sigs_none phase mask i e = rw e (bit_zero i)

pub sigs_mask : (phase mask i : ℕ) → (phase ≡ 0 → ⊥) → bit mask i ≡ sig_value phase mask i
unfolding sig_value
sigs_mask zero mask i h = absurd (h refl)
sigs_mask (suc phase) mask i h = refl

-- the values of the Free atoms: the mask in phase 0, else what stands above the Sig atoms
pub frees_mask : (phase sigs mask j : ℕ) → phase ≡ 0 → bit mask j ≡ free_value phase sigs mask j
unfolding free_value
frees_mask phase sigs mask j e = rw e

pub frees_above : (phase sigs mask j : ℕ) → (phase ≡ 0 → ⊥) → bit (mask / 2 ^ sigs) j ≡ free_value phase sigs mask j
unfolding free_value
frees_above zero sigs mask j h = absurd (h refl)
frees_above (suc phase) sigs mask j h = bit_shifted mask sigs j

pub frees_none : (phase sigs mask j : ℕ) → (phase ≡ 0 → ⊥) → mask < 2 ^ 32 → 32 ≤ sigs → bit 0 j ≡ free_value phase sigs mask j
unfolding free_value
frees_none zero sigs mask j h g le = absurd (h refl)
frees_none (suc phase) sigs mask j h g le = bit_zero j ∙ bit_past mask (sigs + j) g (omega arith)

-- what a phase tells of those
pub ruleset by_phase = (sigs_none, sigs_mask, frees_mask, frees_above, frees_none)

-- a formula's value by the two numbers is that by the mask
pub satisfied : (ws : List ℕ) (phase sigs mask s f : ℕ)
    → ((i : ℕ) → bit s i ≡ sig_value phase mask i)
    → ((j : ℕ) → bit f j ≡ free_value phase sigs mask j)
    → value_at ws s f 0 ≡ satisfies (formula_of ws) phase sigs mask
unfolding value_at satisfies
satisfied ws phase sigs mask s f p q = rw (fun_ext p, fun_ext q)

-- ---- words without operands

-- past the end every word reads as 0
pub leaf_past : (ws : List ℕ) (i : ℕ) → length ws ≤ i → true ≡ is_leaf ws i
leaf_past ws i h = rw (get_or-eq_default ws 0 h)

pub leaf_low : (ws : List ℕ) (i : ℕ) → get_or ws i 0 % 8 < 2 → true ≡ is_leaf ws i
leaf_low ws i h = rw (lt-ltb _ _ h)

pub leaf_high : (ws : List ℕ) (i : ℕ) → 2 ≤ get_or ws i 0 % 8 → ltb 4 (get_or ws i 0 % 8) ≡ is_leaf ws i
leaf_high ws i h = rw (le-ltb _ _ h)

-- a word with operands is there
pub inside : (ws : List ℕ) (i : ℕ) → is_leaf ws i ≡ false → i < length ws
inside ws i e = go (dec_lt i (length ws))
  where
    go : Dec (i < length ws) → i < length ws
    go (yes h) = h
    go (no h) = absurd (false≢true (sym e ∙ sym (leaf_past ws i (omega arith))))

-- words with operands, and one more
pub one_more : (ws : List ℕ) (i j : ℕ)
    → ((k : ℕ) → i ≤ k → k < j → is_leaf ws k ≡ false)
    → is_leaf ws j ≡ false
    → (k : ℕ) → i ≤ k → k < j + 1 → is_leaf ws k ≡ false
one_more ws i j h e k a b = go (ℕ_discrete k j)
  where
    go : Dec (k ≡ j) → is_leaf ws k ≡ false
    go (yes d) = rw d e
    go (no d) = h k a (omega arith)

-- so from there to the foot no word is past the end
pub foot_inside : (ws : List ℕ) (i r : ℕ) → ((k : ℕ) → i ≤ k → k < r → is_leaf ws k ≡ false) → r - i ≤ length ws - i
foot_inside ws i r h = go (dec_lt i r)
  where
    go : Dec (i < r) → r - i ≤ length ws - i
    go (yes g) = omega (arith, inside ws (r - 1) (h (r - 1) (omega arith) (omega arith)))
    go (no g) = omega arith

-- ---- the value at a word

-- two truth values that are found equal, or not
same : (a b : Bool) → beq a b ≡ true → a ≡ b
same true true e = refl
same true false e = absurd (false≢true e)
same false true e = absurd (false≢true e)
same false false e = refl

other : (a b : Bool) → beq a b ≡ false → a ≡ not b
other true true e = absurd (false≢true (sym e))
other true false e = refl
other false true e = refl
other false false e = absurd (false≢true (sym e))

-- the tags of words with operands
between : (t : ℕ) → (ltb t 2 || ltb 4 t) ≡ false → (2 ≤ t) × (t ≤ 4)
between t e = go (ltb t 2) (ltb 4 t) refl refl e
  where
    go : (a b : Bool) → ltb t 2 ≡ a → ltb 4 t ≡ b → (a || b) ≡ false → (2 ≤ t) × (t ≤ 4)
    go true b p q r = absurd (false≢true (sym r))
    go false true p q r = absurd (false≢true (sym r))
    go false false p q r = (ltb-false t 2 p, ltb-false 4 t q)

-- a word that is not there is false
pub value_past : (ws : List ℕ) (s f i : ℕ) → length ws ≤ i → false ≡ value_at ws s f i
unfolding value_at eval_formula
value_past ws s f i h = rw (drop_of_length-le ws h, say_nothing)

-- back at the first word
pub value_met : (ws : List ℕ) (s f i j : ℕ) (v : Bool) → i ≡ j → v ≡ value_at ws s f j → v ≡ value_at ws s f i
value_met ws s f i j v e q = rw e q

-- word k, which is w
module _ (ws : List ℕ) (s f k : ℕ) (h : k < length ws) (w : ℕ) (is : w ≡ get_or ws k 0) where
  abbrev tag : ℕ
  tag = w % 8

  abbrev number : ℕ
  number = w / 8

  -- what a node has for a value
  abbrev said : ℕ → Bool
  said t = eval_formula (node t number (drop (suc k) ws) formula_of) (bit s) (bit f)

  by_tag_lem : (t : ℕ) → tag ≡ t → value_at ws s f k ≡ said t
  unfolding value_at
  by_tag_lem t e = rw (drop-cons ws k 0 h, ← is, say w (drop (suc k) ws), e)

  pub value_true : tag ≡ 1 → true ≡ value_at ws s f k
  unfolding node eval_formula
  value_true e = sym (by_tag_lem 1 e)

  pub value_sig : tag ≡ 5 → (x : Bool) (n : ℕ) → n ≡ number → x ≡ bit s n → x ≡ value_at ws s f k
  unfolding node eval_formula
  value_sig e x n p q = q ∙ rw p (sym (by_tag_lem 5 e))

  pub value_free : tag ≡ 6 → (x : Bool) (n : ℕ) → n ≡ number → x ≡ bit f n → x ≡ value_at ws s f k
  unfolding node eval_formula
  value_free e x n p q = q ∙ rw p (sym (by_tag_lem 6 e))

  nothing : (t : ℕ) → (ltb t 2 || ltb 4 t) ≡ true → (t ≡ 1 → ⊥) → (t ≡ 5 → ⊥) → (t ≡ 6 → ⊥) → false ≡ said t
  unfolding node eval_formula
  nothing zero e a b c = refl
  nothing (suc zero) e a b c = absurd (a refl)
  nothing (suc (suc zero)) e a b c = absurd (false≢true e)
  nothing (suc (suc (suc zero))) e a b c = absurd (false≢true e)
  nothing (suc (suc (suc (suc zero)))) e a b c = absurd (false≢true e)
  nothing (suc (suc (suc (suc (suc zero))))) e a b c = absurd (b refl)
  nothing (suc (suc (suc (suc (suc (suc zero)))))) e a b c = absurd (c refl)
  nothing (suc (suc (suc (suc (suc (suc (suc t))))))) e a b c = refl

  pub value_other : is_leaf ws k ≡ true → (tag ≡ 1 → ⊥) → (tag ≡ 5 → ⊥) → (tag ≡ 6 → ⊥) → false ≡ value_at ws s f k
  value_other e a b c = nothing tag (rw is e) a b c ∙ sym (by_tag_lem tag refl)

  -- a negation, by the value at the next word
  pub value_turned : tag ≡ 2 → (j : ℕ) (v : Bool) → j ≡ k + 1 → v ≡ value_at ws s f j → not v ≡ value_at ws s f k
  unfolding node eval_formula value_at
  value_turned e j v p q =
      let d : j ≡ suc k = omega arith in
      ap not (rw d at q) ∙ sym (by_tag_lem 2 e)

  -- a join, by the values at its operands
  and_value : tag ≡ 3 → value_at ws s f k ≡ (value_at ws s f (suc k) && value_at ws s f (suc k + number))
  unfolding node eval_formula value_at
  and_value e = rw (drop-drop number (suc k) ws) at (by_tag_lem 3 e)

  or_value : tag ≡ 4 → value_at ws s f k ≡ (value_at ws s f (suc k) || value_at ws s f (suc k + number))
  unfolding node eval_formula value_at
  or_value e = rw (drop-drop number (suc k) ws) at (by_tag_lem 4 e)

  -- a word that has operands and is neither a negation nor an And is an Or
  join_tag : is_leaf ws k ≡ false → (tag ≡ 2 → ⊥) → (tag ≡ 3 → ⊥) → tag ≡ 4
  join_tag e a b =
      let p : (2 ≤ tag) × (tag ≤ 4) = between tag (rw is e) in
      omega (arith, p.0, p.1)

  -- a join whose left operand leaves it open: true for And, false for Or
  pub value_right : is_leaf ws k ≡ false → (tag ≡ 2 → ⊥) → (j : ℕ) (v : Bool) → j ≡ k + 1 → v ≡ value_at ws s f j → beq v (eqb tag 3) ≡ true
      → (n : ℕ) (x : Bool) → n ≡ number → x ≡ value_at ws s f (k + 1 + n) → x ≡ value_at ws s f k
  value_right l m j v p q b n x u y = go (ℕ_discrete tag 3)
    where
      d : j ≡ suc k
      d = omega arith

      left : value_at ws s f (suc k) ≡ v
      left = rw d at (sym q)

      at : k + 1 + n ≡ suc k + number
      at = omega arith

      right : x ≡ value_at ws s f (suc k + number)
      right = rw (← at) y

      go : Dec (tag ≡ 3) → x ≡ value_at ws s f k
      go (yes e) = right ∙ sym (rw (left, same v (eqb tag 3) b, eq-eqb tag 3 e) at (and_value e))
      go (no e) = right ∙ sym (rw (left, same v (eqb tag 3) b, ne_eqb tag 3 e) at (or_value (join_tag l m e)))

  -- a join that its left operand settles: false for And, true for Or
  pub value_left : is_leaf ws k ≡ false → (tag ≡ 2 → ⊥) → (j : ℕ) (v : Bool) → j ≡ k + 1 → v ≡ value_at ws s f j → beq v (eqb tag 3) ≡ false
      → v ≡ value_at ws s f k
  value_left l m j v p q b = go (ℕ_discrete tag 3)
    where
      d : j ≡ suc k
      d = omega arith

      left : value_at ws s f (suc k) ≡ v
      left = rw d at (sym q)

      go : Dec (tag ≡ 3) → v ≡ value_at ws s f k
      go (yes e) = let z : v ≡ false = rw (eq-eqb tag 3 e) at (other v (eqb tag 3) b) in z ∙ sym (rw (left, z) at (and_value e))
      go (no e) = let z : v ≡ true = rw (ne_eqb tag 3 e) at (other v (eqb tag 3) b) in z ∙ sym (rw (left, z) at (or_value (join_tag l m e)))

  -- a path's And, by its first part
  pub part_false : tag ≡ 3 → (x : Bool) → x ≡ value_at ws s f (k + 1) → x ≡ false → false ≡ value_at ws s f k
  part_false e x p q =
      let d : k + 1 ≡ suc k = omega arith in
      let l : value_at ws s f (suc k) ≡ false = rw (← d) (sym p ∙ q) in
      sym (rw l at (and_value e))

  pub part_true : tag ≡ 3 → (x : Bool) → x ≡ value_at ws s f (k + 1) → x ≡ true → (n : ℕ) → n ≡ number → value_at ws s f (k + (1 + n)) ≡ value_at ws s f k
  part_true e x p q n u =
      let d : k + 1 ≡ suc k = omega arith in
      let l : value_at ws s f (suc k) ≡ true = rw (← d) (sym p ∙ q) in
      let r : k + (1 + n) ≡ suc k + number = omega arith in
      rw r (sym (rw l at (and_value e)))
