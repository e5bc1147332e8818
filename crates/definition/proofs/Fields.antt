-- Reading one field, or what an item or the image begins with, when nothing is wrong with it: each law from plain facts about
-- the bytes.
use Rattle.std.specs.Prelude.{Ok}
use mathlib.Core.Path.{◌≡◌}
use mathlib.Core.List.{List}
use mathlib.Core.Bool.{true, false}
use Prim.Native.Nat.{ℕ, zero, suc, ◌+◌, ◌-◌, ◌<◌, ◌≤◌}
use native.Mathlib.Numerals.{sub-one}
use native.Mathlib.Omega.{arith}
use lib.ListN.{length, get_or}
use lib.Dec.{eqb}
use borrow.Author.Tests.{le-ltb, lt-leb, eq-eqb, ne_eqb}
use Rattle.definition.specs.declared.Kind.{Kind}
use Rattle.definition.specs.declared.Kind.TheVariants.{BadFlag, OpUnknown}
use Rattle.definition.specs.declared.Tally.{Tally}
use Rattle.definition.specs.declared.Tag.{Tag}
use Rattle.definition.specs.declared.Sort.{Sort}
use Rattle.definition.specs.Bytes.{when◌then◌else◌, be16, be64, signed}
use Rattle.definition.specs.Tree.{locktime}
use Rattle.definition.specs.Fault.{Read, ◌>>=◌, ◌>>◌, refuse}
use Rattle.definition.specs.Reading.{tally, part, location_of, located, entered, begin, expr_tag, code_field, number_field, string_field, by_tag, expr, stmt_tag, forks, else_field, if_fields, lock_stmt, by_sort, stmt, marked, head}

-- the location is there
pub located_is : (at : ℕ) (s : List ℕ) → 17 ≤ length s → located at s ≡ Ok tt
unfolding located refuse ◌>>◌
located_is at s h = simp (le-ltb (length s) 5 (omega arith), le-ltb (length s) 9 (omega arith), le-ltb (length s) 13 (omega arith), le-ltb (length s) 17 h)

-- an item of a known tag, with levels and room left
pub begin_is : {T : Type 0} (tag_of : ℕ → ℕ → Read T) (most level counted at : ℕ) (s : List ℕ) (k : T) → tag_of (get_or s 0 0) at ≡ Ok k → 17 ≤ length s → 1 ≤ level → counted < most → begin tag_of most level counted at s ≡ Ok k
unfolding begin entered refuse ◌>>◌ ◌>>=◌
begin_is tag_of most level counted at s k e h d m = simp (ne_eqb (length s) 0 (λ z. omega arith), e, ne_eqb level 0 (λ z. omega arith), lt-leb most counted m, located_is at s h)

-- an op, a flag or a boolean below n
pub code_is : (k : Kind) (n at : ℕ) (s : List ℕ) → 18 ≤ length s → get_or s 17 0 < n → code_field k n at s ≡ Ok 18
unfolding code_field refuse ◌>>◌
code_is k n at s h l = simp (le-ltb (length s) 18 h, lt-leb n (get_or s 17 0) l)

-- a number literal
pub number_is : (at : ℕ) (s : List ℕ) → 25 ≤ length s → number_field at s ≡ Ok 25
unfolding number_field refuse ◌>>◌
number_is at s h = simp (le-ltb (length s) 25 h)

-- a string
pub string_is : (at : ℕ) (s : List ℕ) → 19 + be16 s 17 ≤ length s → string_field at s ≡ Ok (19 + be16 s 17)
unfolding string_field refuse ◌>>◌
string_is at s h = simp (le-ltb (length s) 19 (omega arith), le-ltb (length s) (19 + be16 s 17) h)

-- an if without an else
pub if_is : (at : ℕ) (s : List ℕ) → 20 ≤ length s → get_or s 17 0 ≡ 0 → if_fields at s ≡ Ok (forks (be16 s 18) 0 20)
unfolding if_fields refuse ◌>>◌ ◌>>=◌ when◌then◌else◌
if_is at s h e = simp (code_is BadFlag 2 at s (omega arith) (omega arith), le-ltb (length s) 20 h, eq-eqb (get_or s 17 0) 0 e)

-- an if with an else
pub else_is : (at : ℕ) (s : List ℕ) → 22 ≤ length s → get_or s 17 0 ≡ 1 → if_fields at s ≡ Ok (forks (be16 s 18) (be16 s 20) 22)
unfolding if_fields else_field refuse ◌>>◌ ◌>>=◌ when◌then◌else◌
else_is at s h e = simp (code_is BadFlag 2 at s (omega arith) (omega arith), le-ltb (length s) 20 (omega arith), ne_eqb (get_or s 17 0) 0 (λ z. omega arith), le-ltb (length s) 22 h)

-- the second count of an if
pub else_field_is : (at : ℕ) (s : List ℕ) → 22 ≤ length s → else_field at s ≡ Ok (forks (be16 s 18) (be16 s 20) 22)
unfolding else_field refuse ◌>>◌
else_field_is at s h = simp (le-ltb (length s) 22 h)

-- a flag that says that there is an else
pub if_else : (at : ℕ) (s : List ℕ) (n : ℕ) → code_field BadFlag 2 at s ≡ Ok n → 20 ≤ length s → (get_or s 17 0 ≡ 0 → ⊥) → if_fields at s ≡ else_field at s
unfolding if_fields refuse ◌>>◌ ◌>>=◌ when◌then◌else◌
if_else at s n e h f = simp (e, le-ltb (length s) 20 h, ne_eqb (get_or s 17 0) 0 f)

-- a locktime
pub lock_is : (t : Tally) (at : ℕ) (s : List ℕ) (n : ℕ) → code_field OpUnknown 2 at s ≡ Ok n → 26 ≤ length s → lock_stmt t at s ≡ Ok (part (locktime (location_of s) (get_or s 17 0) (signed (be64 s 18))) t 26)
unfolding lock_stmt refuse ◌>>◌ ◌>>=◌
lock_is t at s n e h = simp (e, le-ltb (length s) 26 h)

-- an expression that has begun: the rest is by its tag
pub expr_is : (l : ℕ) (t : Tally) (at : ℕ) (s : List ℕ) (k : Tag) → 1 ≤ l → begin expr_tag 1024 l t.nodes at s ≡ Ok k → expr l t at s ≡ by_tag k (expr (l - 1)) (tally t.stmts (t.nodes + 1)) at s
unfolding expr ◌>>=◌
expr_is zero t at s k d e = absurd (omega arith)
expr_is (suc l) t at s k d e = rw (e, sub-one (suc l))

-- a statement that has begun: the rest is by its sort
pub stmt_is : (l : ℕ) (t : Tally) (at : ℕ) (s : List ℕ) (k : Sort) → 1 ≤ l → begin stmt_tag 512 l t.stmts at s ≡ Ok k → stmt l t at s ≡ by_sort k (stmt (l - 1)) (tally (t.stmts + 1) t.nodes) at s
unfolding stmt ◌>>=◌
stmt_is zero t at s k d e = absurd (omega arith)
stmt_is (suc l) t at s k d e = rw (e, sub-one (suc l))

-- a mark, letter by letter
module _ (letter : ℕ) (s : List ℕ) where
  pub marked_first : (get_or s 0 0 ≡ 66 → ⊥) → marked letter s ≡ false
  unfolding marked
  marked_first h = simp (ne_eqb (get_or s 0 0) 66 h)

  pub marked_second : get_or s 0 0 ≡ 66 → (get_or s 1 0 ≡ 86 → ⊥) → marked letter s ≡ false
  unfolding marked
  marked_second a h = simp (eq-eqb (get_or s 0 0) 66 a, ne_eqb (get_or s 1 0) 86 h)

  pub marked_third : get_or s 0 0 ≡ 66 → get_or s 1 0 ≡ 86 → marked letter s ≡ eqb (get_or s 2 0) letter
  unfolding marked
  marked_third a b = simp (eq-eqb (get_or s 0 0) 66 a, eq-eqb (get_or s 1 0) 86 b)

-- the head of an image: "BVN, 16-bit version 1, mode (0 or 1), 16-bit count of top statements"
pub head_is : (s : List ℕ) → length s ≤ 32768 → 8 ≤ length s → marked 78 s ≡ true → be16 s 3 ≡ 1 → get_or s 5 0 < 2 → head s ≡ Ok (record { mode = get_or s 5 0; count = be16 s 6 })
unfolding head refuse ◌>>◌
head_is s h g m v d = simp (le-ltb 32768 (length s) h, le-ltb (length s) 3 (omega arith), m, le-ltb (length s) 5 (omega arith), eq-eqb (be16 s 3) 1 v, le-ltb (length s) 6 (omega arith), lt-leb 2 (get_or s 5 0) d, le-ltb (length s) 8 g)
