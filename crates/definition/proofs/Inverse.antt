-- Reading an item's head and fields, backwards: what the numbers are where nothing was refused.
use Rattle.std.specs.Prelude.{Ok}
use mathlib.Core.Path.{◌≡◌, refl, sym, ap, ◌∙◌}
use mathlib.Core.Bool.{Bool, true, false}
use mathlib.Core.Logic.{◌⊎◌, inl, inr}
use mathlib.Core.List.{List}
use Prim.Native.Nat.{ℕ, ◌+◌, ◌<◌, ◌≤◌}
use native.Mathlib.Omega.{arith}
use lib.ListN.{length, get_or}
use lib.Dec.{eqb}
use borrow.Author.Tests.{ltb-false, leb-false, eqb-true, eqb-false}
use Rattle.definition.specs.declared.Forks.{Forks}
use Rattle.definition.specs.declared.Kind.{Kind}
use Rattle.definition.specs.declared.Tag.{Tag}
use Rattle.definition.specs.declared.Tag.TheVariants.{Variable, Number, Boolean, Text, Logical, Compare, Unary, Binary, Hash, Checksig, Length}
use Rattle.definition.specs.declared.Sort.{Sort}
use Rattle.definition.specs.declared.Sort.TheVariants.{If, Locktime, Verify, Return}
use Rattle.definition.specs.Bytes.{when◌then◌else◌, be16}
use Rattle.definition.specs.Fault.{Read}
use Rattle.definition.specs.Reading.{located, entered, begin, expr_tag, code_field, number_field, string_field, stmt_tag, forks, else_field, if_fields}
use Rattle.definition.proofs.Steps.{bad_got, same_got, step_got, past, tests_got, last_test}

-- ---- the head of an item
located_long : (at : ℕ) (s : List ℕ) → located at s ≡ Ok tt → 17 ≤ length s
unfolding located
located_long at s e =
    let a = past _ _ _ _ e in
    let b = past _ _ _ _ a.1 in
    let c = past _ _ _ _ b.1 in
    ltb-false (length s) 17 (last_test _ _ c.1)

pub record Begun {T : Type 0} (tag_of : ℕ → ℕ → Read T) (most level counted at : ℕ) (s : List ℕ) (k : T) : Type 0 where
  pub known : tag_of (get_or s 0 0) at ≡ Ok k
  pub deep : 0 < level
  pub room : counted < most
  pub long : 17 ≤ length s

pub begun : {T : Type 0} (tag_of : ℕ → ℕ → Read T) (most level counted at : ℕ) (s : List ℕ) (k : T) → begin tag_of most level counted at s ≡ Ok k → Begun tag_of most level counted at s k
unfolding begin entered
begun tag_of most level counted at s k e =
    let a = past _ _ _ _ e in
    let b = step_got _ _ _ a.1 in
    let f = tests_got _ _ _ b.2 in
    let c = past _ _ _ _ f.0 in
    let d = past _ _ _ _ c.1 in
    let h = eqb-false level 0 c.0 in
    record { known = b.1 ∙ f.1; deep = omega arith; room = leb-false most counted d.0; long = located_long at s d.1 }

-- ---- tags
-- one line of a tag table: byte_of is the table read the other way
chain : {T : Type 0} (byte_of : T → ℕ) (c : Bool) (u t : T) (y : Read T) (b : ℕ) → (c ≡ true → b ≡ byte_of u) → (y ≡ Ok t → b ≡ byte_of t) → (when c then Ok u else y) ≡ Ok t → b ≡ byte_of t
unfolding when◌then◌else◌
chain byte_of true u t y b p q e = p refl ∙ ap byte_of (same_got u t e)
chain byte_of false u t y b p q e = q e

unfoldable pub expr_byte : Tag → ℕ
expr_byte Variable = 16
expr_byte Number = 17
expr_byte Boolean = 18
expr_byte Text = 19
expr_byte Logical = 20
expr_byte Compare = 21
expr_byte Unary = 22
expr_byte Binary = 23
expr_byte Hash = 24
expr_byte Checksig = 25
expr_byte Length = 26

pub expr_byte_lem : (b at : ℕ) (t : Tag) → expr_tag b at ≡ Ok t → b ≡ expr_byte t
unfolding expr_tag expr_byte
expr_byte_lem b at t e =
    chain expr_byte (eqb b 16) Variable t _ b (eqb-true b 16) (
    chain expr_byte (eqb b 17) Number t _ b (eqb-true b 17) (
    chain expr_byte (eqb b 18) Boolean t _ b (eqb-true b 18) (
    chain expr_byte (eqb b 19) Text t _ b (eqb-true b 19) (
    chain expr_byte (eqb b 20) Logical t _ b (eqb-true b 20) (
    chain expr_byte (eqb b 21) Compare t _ b (eqb-true b 21) (
    chain expr_byte (eqb b 22) Unary t _ b (eqb-true b 22) (
    chain expr_byte (eqb b 23) Binary t _ b (eqb-true b 23) (
    chain expr_byte (eqb b 24) Hash t _ b (eqb-true b 24) (
    chain expr_byte (eqb b 25) Checksig t _ b (eqb-true b 25) (
    chain expr_byte (eqb b 26) Length t _ b (eqb-true b 26) (bad_got _ t))))))))))) e

unfoldable pub stmt_byte : Sort → ℕ
stmt_byte If = 1
stmt_byte Locktime = 2
stmt_byte Verify = 3
stmt_byte Return = 4

pub stmt_byte_lem : (b at : ℕ) (t : Sort) → stmt_tag b at ≡ Ok t → b ≡ stmt_byte t
unfolding stmt_tag stmt_byte
stmt_byte_lem b at t e =
    chain stmt_byte (eqb b 1) If t _ b (eqb-true b 1) (
    chain stmt_byte (eqb b 2) Locktime t _ b (eqb-true b 2) (
    chain stmt_byte (eqb b 3) Verify t _ b (eqb-true b 3) (
    chain stmt_byte (eqb b 4) Return t _ b (eqb-true b 4) (bad_got _ t)))) e

-- ---- fields
pub code_inv : (k : Kind) (n at : ℕ) (s : List ℕ) (v : ℕ) → code_field k n at s ≡ Ok v → (18 ≤ length s) × (get_or s 17 0 < n) × (v ≡ 18)
unfolding code_field
code_inv k n at s v e =
    let a = past _ _ _ _ e in
    let b = past _ _ _ _ a.1 in
    (ltb-false (length s) 18 a.0, leb-false n (get_or s 17 0) b.0, sym (same_got 18 v b.1))

pub number_inv : (at : ℕ) (s : List ℕ) (v : ℕ) → number_field at s ≡ Ok v → (25 ≤ length s) × (v ≡ 25)
unfolding number_field
number_inv at s v e = let a = past _ _ _ _ e in (ltb-false (length s) 25 a.0, sym (same_got 25 v a.1))

pub string_inv : (at : ℕ) (s : List ℕ) (v : ℕ) → string_field at s ≡ Ok v → (19 + be16 s 17 ≤ length s) × (v ≡ 19 + be16 s 17)
unfolding string_field
string_inv at s v e =
    let a = past _ _ _ _ e in
    let b = past _ _ _ _ a.1 in
    (ltb-false (length s) (19 + be16 s 17) b.0, sym (same_got (19 + be16 s 17) v b.1))

-- an if without an else, and one with it
pub record Plain (s : List ℕ) (f : Forks) : Type 0 where
  pub flag : get_or s 17 0 ≡ 0
  pub long : 20 ≤ length s
  pub is : f ≡ forks (be16 s 18) 0 20

pub record Forked (s : List ℕ) (f : Forks) : Type 0 where
  pub flag : get_or s 17 0 ≡ 1
  pub long : 22 ≤ length s
  pub is : f ≡ forks (be16 s 18) (be16 s 20) 22

else_inv : (at : ℕ) (s : List ℕ) (f : Forks) → get_or s 17 0 ≡ 1 → else_field at s ≡ Ok f → Forked s f
unfolding else_field
else_inv at s f h e = let a = past _ _ _ _ e in record { flag = h; long = ltb-false (length s) 22 a.0; is = sym (same_got _ f a.1) }

pub if_inv : (at : ℕ) (s : List ℕ) (f : Forks) → if_fields at s ≡ Ok f → Plain s f ⊎ Forked s f
unfolding if_fields when◌then◌else◌
if_inv at s f e = let a = step_got _ _ _ e in let b = code_inv _ 2 at s a.0 a.1 in let c = past _ _ _ _ a.2 in by_flag b.1 (ltb-false (length s) 20 c.0) (eqb (get_or s 17 0) 0) refl c.1
  where
    by_flag : get_or s 17 0 < 2 → 20 ≤ length s → (x : Bool) → eqb (get_or s 17 0) 0 ≡ x → (when x then Ok (forks (be16 s 18) 0 20) else else_field at s) ≡ Ok f → Plain s f ⊎ Forked s f
    by_flag l n true d q = inl (record { flag = eqb-true (get_or s 17 0) 0 d; long = n; is = sym (same_got _ f q) })
    by_flag l n false d q = let z = eqb-false (get_or s 17 0) 0 d in inr (else_inv at s f (omega arith) q)
