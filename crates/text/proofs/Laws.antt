-- Laws of a number in decimal, and of text that is written in pieces.
use mathlib.Core.Path.{◌≡◌, refl, sym, ap, ◌∙◌}
use mathlib.Core.Bool.{Bool, true, false, cond}
use mathlib.Core.List.{List, [], ◌++◌, append_assoc, append-nil}
use Prim.Native.Nat.{ℕ, zero, suc, ◌+◌, ◌-◌, ◌/◌, ◌<◌, ◌≤◌}
use native.Mathlib.Omega.{arith}
use lib.Dec.{ltb}
use lib.ListN.{length, take, drop, length-append, length-take, drop_of_length-le, take-append-drop}
use lib.Seq.{length-take-le, take_all, take_at, drop_at, drop-drop}
use borrow.Author.Tests.{lt-ltb, le-ltb, ltb-true, ltb-false}
use borrow.Rule.Slice.PartMut.{put_mid, Post-is}
use Rattle.text.specs.Text.{Wrote, digit, digits_by, decimal_of}

-- ---- a number in decimal

-- a number with at most so many digits, and one more
abbrev Within : ℕ → ℕ → Type 0
Within zero n = n < 10
Within (suc k) n = Within k (n / 10)

-- a greater number of digits that are allowed changes nothing
enough : (k n : ℕ) → Within k n → digits_by k n ≡ digits_by (suc k) n
unfolding digits_by
enough zero n h = simp (lt-ltb n 10 h)
enough (suc k) n h = simp (enough k (n / 10) h)

-- a number below ten is its digit
pub decimal_one : (n : ℕ) → n < 10 → decimal_of n ≡ digit n
unfolding decimal_of digits_by
decimal_one n h = simp (lt-ltb n 10 h)

digits_step : (k n : ℕ) → 10 ≤ n → digits_by (suc k) n ≡ digits_by k (n / 10) ++ digit n
unfolding digits_by
digits_step k n h = simp (le-ltb n 10 h)

-- any other number of 64 bits is that of its tenth, and its last digit
pub decimal_more : (n : ℕ) → 10 ≤ n → n < 18446744073709551616 → decimal_of n ≡ decimal_of (n / 10) ++ digit n
unfolding decimal_of
decimal_more n h b =
    let few : Within 18 (n / 10) = omega arith in
    digits_step 18 n h ∙ ap (λ (l : List ℕ). l ++ digit n) (enough 18 (n / 10) few)

-- one of two lists is at most as long as both are
cond_most : (t : Bool) (x y : List ℕ) (m : ℕ) → length x ≤ m → length y ≤ m → length (cond t x y) ≤ m
cond_most true x y m h k = h
cond_most false x y m h k = k

digits_most : (k n : ℕ) → length (digits_by k n) ≤ k + 1
unfolding digits_by
digits_most zero n = omega arith
digits_most (suc k) n = cond_most (ltb n 10) _ _ _ (omega arith) (omega (arith, digits_most k (n / 10), length-append (digits_by k (n / 10)) (digit n)))

-- at most twenty digits
pub decimal_most : (n : ℕ) → length (decimal_of n) ≤ 20
unfolding decimal_of
decimal_most n = digits_most 19 n

-- one digit less for the tenth of a number of two digits or more
pub tenth_most : (n : ℕ) → 10 ≤ n → n < 18446744073709551616 → length (decimal_of (n / 10)) < 20
tenth_most n h b = omega (arith, ap length (decimal_more n h b), length-append (decimal_of (n / 10)) (digit n), decimal_most n)

-- ---- pieces

-- a part that holds a piece, in the place of as many from `at` on, is the piece written there
pub piece : (old : List ℕ) (at : ℕ) (s part : List ℕ) → part ≡ s
    → put_mid at (at + length s - at) old part ≡ take at old ++ (s ++ drop (at + length s) old)
piece old at s part e = rw (e, Post-is at (at + length s) old (omega arith))

-- what stands before the end of a piece, and after it, wherever it was written
module _ (old : List ℕ) (at : ℕ) (s : List ℕ) where
  abbrev front : List ℕ
  front = take at old ++ s

  abbrev rest : List ℕ
  rest = drop (at + length s) old

  seam_by : (t : Bool) → ltb (length old) at ≡ t → (take (at + length s) (front ++ rest) ≡ front) × (drop (at + length s) (front ++ rest) ≡ rest)
  seam_by false e =
      let h : at ≤ length old = ltb-false (length old) at e in
      let l : length front ≡ at + length s = omega (arith, length-append (take at old) s, length-take-le at old h) in
      (take_at front rest _ l, drop_at front rest _ l)
  seam_by true e =
      let h : length old < at = ltb-true (length old) at e in
      let past : length old ≤ at + length s = omega arith in
      let none : rest ≡ [] = drop_of_length-le old past in
      let l : length front ≤ at + length s = omega (arith, length-append (take at old) s, length-take at old) in
      (simp (none, append-nil) (take_all _ front l), simp (none, append-nil) (drop_of_length-le front l))

  seam : (take (at + length s) (front ++ rest) ≡ front) × (drop (at + length s) (front ++ rest) ≡ rest)
  seam = seam_by (ltb (length old) at) refl

-- no piece changes nothing
pub nothing : (old : List ℕ) (at : ℕ) → Wrote old at [] old at
nothing old at = let e : at + 0 ≡ at = omega arith in record { bytes = rw e (sym (take-append-drop at old)); next = sym e }

-- what is written from the front on is within the buffer
pub within : {old s new : List ℕ} {r : ℕ} → Wrote old 0 s new r → r ≤ length new
within {old} {s} w = omega (arith, ap length w.bytes, length-append s (drop (0 + length s) old), w.next)

-- two pieces, one after the other, are one
pub pieces : {old mid new s t : List ℕ} {at a b : ℕ} → Wrote old at s mid a → Wrote mid a t new b → Wrote old at (s ++ t) new b
pieces {old} {mid} {new} {s} {t} {at} {a} {b} p q =
    let e : mid ≡ front old at s ++ rest old at s = p.bytes ∙ sym (append_assoc (take at old) s (rest old at s)) in
    let before : take a mid ≡ front old at s = rw (p.next, e) (seam old at s).0 in
    let after : drop a mid ≡ rest old at s = rw (p.next, e) (seam old at s).1 in
    let sum : at + length s + length t ≡ at + length (s ++ t) = omega (arith, length-append s t) in
    let past : drop (a + length t) mid ≡ drop (at + length (s ++ t)) old = sym (drop-drop (length t) a mid) ∙ rw (after, drop-drop, sum) in
    record { bytes = q.bytes ∙ simp (before, past, append_assoc); next = omega (arith, length-append s t) }
