-- Reading one field, or what an item or the image begins with, when something is wrong with it: which fault, from plain facts about
-- the bytes.
use Rattle.std.specs.Prelude.{Ok, Err}
use mathlib.Core.Path.{◌≡◌}
use mathlib.Core.List.{List}
use mathlib.Core.Bool.{true, false}
use Prim.Native.Nat.{ℕ, zero, suc, ◌+◌, ◌*◌, ◌<◌, ◌≤◌}
use native.Mathlib.Omega.{arith}
use lib.ListN.{length, get_or}
use borrow.Author.Tests.{lt-ltb, le-ltb, le-leb, lt-leb, eq-eqb, ne_eqb}
use Rattle.definition.specs.declared.Fault.{Fault}
use Rattle.definition.specs.declared.Kind.{Kind}
use Rattle.definition.specs.declared.Kind.TheVariants.{TooLong, NotMarked, OtherVersion, BadMode, TagMissing, CutShort, BadFlag, OpUnknown}
use Rattle.definition.specs.declared.Tally.{Tally}
use Rattle.definition.specs.Bytes.{be16}
use Rattle.definition.specs.Fault.{Read, fault, ◌>>=◌, ◌>>◌, refuse}
use Rattle.definition.specs.Reading.{located, begin, expr_tag, code_field, number_field, string_field, expr, stmt_tag, else_field, if_fields, lock_stmt, stmt, marked, head}
use Rattle.definition.proofs.Steps.{on_bad}

-- the location is cut in its field k, counted from 0; those before it are there
pub located_cut : (k at : ℕ) (s : List ℕ) → k < 4 → ((j : ℕ) → j < k → 5 + 4 * j ≤ length s) → length s < 5 + 4 * k → located at s ≡ Err (fault CutShort at (at + (1 + 4 * k)))
unfolding located refuse ◌>>◌
located_cut zero at s k g h = simp (lt-ltb (length s) 5 h)
located_cut (suc zero) at s k g h = simp (le-ltb (length s) 5 (g 0 (omega arith)), lt-ltb (length s) 9 h)
located_cut (suc (suc zero)) at s k g h = simp (le-ltb (length s) 5 (g 0 (omega arith)), le-ltb (length s) 9 (g 1 (omega arith)), lt-ltb (length s) 13 h)
located_cut (suc (suc (suc zero))) at s k g h = simp (le-ltb (length s) 5 (g 0 (omega arith)), le-ltb (length s) 9 (g 1 (omega arith)), le-ltb (length s) 13 (g 2 (omega arith)), lt-ltb (length s) 17 h)
located_cut (suc (suc (suc (suc k)))) at s l g h = absurd (omega arith)

-- no byte is left where an item is due, or its tag is unknown
module _ {T : Type 0} (tag_of : ℕ → ℕ → Read T) (most level counted at : ℕ) (s : List ℕ) where
  pub begin_missing : length s ≡ 0 → begin tag_of most level counted at s ≡ Err (fault TagMissing at at)
  unfolding begin refuse ◌>>◌
  begin_missing h = simp (eq-eqb (length s) 0 h)

  pub begin_unknown : (f : Fault) → (length s ≡ 0 → ⊥) → tag_of (get_or s 0 0) at ≡ Err f → begin tag_of most level counted at s ≡ Err f
  unfolding begin refuse ◌>>◌ ◌>>=◌
  begin_unknown f h e = simp (ne_eqb (length s) 0 h, e)

module _ (at : ℕ) (s : List ℕ) where
  -- an op, a flag or a boolean is cut, or is not below n
  pub code_cut : (k : Kind) (n : ℕ) → length s < 18 → code_field k n at s ≡ Err (fault CutShort at (at + 17))
  unfolding code_field refuse ◌>>◌
  code_cut k n h = simp (lt-ltb (length s) 18 h)

  pub code_bad : (k : Kind) (n : ℕ) → 18 ≤ length s → n ≤ get_or s 17 0 → code_field k n at s ≡ Err (fault k at (at + 17))
  unfolding code_field refuse ◌>>◌
  code_bad k n h l = simp (le-ltb (length s) 18 h, le-leb n (get_or s 17 0) l)

  -- a number literal is cut
  pub number_cut : length s < 25 → number_field at s ≡ Err (fault CutShort at (at + 17))
  unfolding number_field refuse ◌>>◌
  number_cut h = simp (lt-ltb (length s) 25 h)

  -- a string's length is cut, or its bytes
  pub string_cut : length s < 19 → string_field at s ≡ Err (fault CutShort at (at + 17))
  unfolding string_field refuse ◌>>◌
  string_cut h = simp (lt-ltb (length s) 19 h)

  pub string_short : 19 ≤ length s → length s < 19 + be16 s 17 → string_field at s ≡ Err (fault CutShort at (at + 19))
  unfolding string_field refuse ◌>>◌
  string_short h l = simp (le-ltb (length s) 19 h, lt-ltb (length s) (19 + be16 s 17) l)

  -- an if's flag is wrong; its first count is cut; its second
  pub if_flag : (f : Fault) → code_field BadFlag 2 at s ≡ Err f → if_fields at s ≡ Err f
  unfolding if_fields
  if_flag f e = on_bad _ _ f e

  pub if_cut : (n : ℕ) → code_field BadFlag 2 at s ≡ Ok n → length s < 20 → if_fields at s ≡ Err (fault CutShort at (at + 18))
  unfolding if_fields refuse ◌>>◌ ◌>>=◌
  if_cut n e h = simp (e, lt-ltb (length s) 20 h)

  pub else_cut : length s < 22 → else_field at s ≡ Err (fault CutShort at (at + 20))
  unfolding else_field refuse ◌>>◌
  else_cut h = simp (lt-ltb (length s) 22 h)

  -- a locktime's op is wrong; its operand is cut
  pub lock_op : (t : Tally) (f : Fault) → code_field OpUnknown 2 at s ≡ Err f → lock_stmt t at s ≡ Err f
  unfolding lock_stmt
  lock_op t f e = on_bad _ _ f e

  pub lock_cut : (t : Tally) (n : ℕ) → code_field OpUnknown 2 at s ≡ Ok n → length s < 26 → lock_stmt t at s ≡ Err (fault CutShort at (at + 18))
  unfolding lock_stmt refuse ◌>>◌ ◌>>=◌
  lock_cut t n e h = simp (e, lt-ltb (length s) 26 h)

-- an item whose beginning is refused
pub expr_refused : (l : ℕ) (t : Tally) (at : ℕ) (s : List ℕ) (f : Fault) → begin expr_tag 1024 l t.nodes at s ≡ Err f → expr l t at s ≡ Err f
unfolding expr
expr_refused zero t at s f e = on_bad _ _ f e
expr_refused (suc l) t at s f e = on_bad _ _ f e

pub stmt_refused : (l : ℕ) (t : Tally) (at : ℕ) (s : List ℕ) (f : Fault) → begin stmt_tag 512 l t.stmts at s ≡ Err f → stmt l t at s ≡ Err f
unfolding stmt
stmt_refused zero t at s f e = on_bad _ _ f e
stmt_refused (suc l) t at s f e = on_bad _ _ f e

-- the head of an image, field by field: those before the bad one are in order
module _ (s : List ℕ) where
  pub head_long : 32768 < length s → head s ≡ Err (fault TooLong 0 0)
  unfolding head refuse ◌>>◌
  head_long h = simp (lt-ltb 32768 (length s) h)

  module _ (short : length s ≤ 32768) where
    pub head_few : length s < 3 → head s ≡ Err (fault NotMarked 0 0)
    unfolding head refuse ◌>>◌
    head_few h = simp (le-ltb 32768 (length s) short, lt-ltb (length s) 3 h)

    pub head_mark : 3 ≤ length s → marked 78 s ≡ false → head s ≡ Err (fault NotMarked 0 0)
    unfolding head refuse ◌>>◌
    head_mark h m = simp (le-ltb 32768 (length s) short, le-ltb (length s) 3 h, m)

    module _ (mark : marked 78 s ≡ true) where
      pub head_version_cut : 3 ≤ length s → length s < 5 → head s ≡ Err (fault CutShort 3 3)
      unfolding head refuse ◌>>◌
      head_version_cut g h = simp (le-ltb 32768 (length s) short, le-ltb (length s) 3 g, mark, lt-ltb (length s) 5 h)

      pub head_version : 5 ≤ length s → (be16 s 3 ≡ 1 → ⊥) → head s ≡ Err (fault OtherVersion 3 3)
      unfolding head refuse ◌>>◌
      head_version g h = simp (le-ltb 32768 (length s) short, le-ltb (length s) 3 (omega arith), mark, le-ltb (length s) 5 g, ne_eqb (be16 s 3) 1 h)

      module _ (version : be16 s 3 ≡ 1) where
        pub head_mode_cut : 5 ≤ length s → length s < 6 → head s ≡ Err (fault CutShort 5 5)
        unfolding head refuse ◌>>◌
        head_mode_cut g h = simp (le-ltb 32768 (length s) short, le-ltb (length s) 3 (omega arith), mark, le-ltb (length s) 5 g, eq-eqb (be16 s 3) 1 version, lt-ltb (length s) 6 h)

        pub head_mode : 6 ≤ length s → 2 ≤ get_or s 5 0 → head s ≡ Err (fault BadMode 5 5)
        unfolding head refuse ◌>>◌
        head_mode g h = simp (le-ltb 32768 (length s) short, le-ltb (length s) 3 (omega arith), mark, le-ltb (length s) 5 (omega arith), eq-eqb (be16 s 3) 1 version, le-ltb (length s) 6 g, le-leb 2 (get_or s 5 0) h)

        pub head_count_cut : 6 ≤ length s → get_or s 5 0 < 2 → length s < 8 → head s ≡ Err (fault CutShort 6 6)
        unfolding head refuse ◌>>◌
        head_count_cut g m h = simp (le-ltb 32768 (length s) short, le-ltb (length s) 3 (omega arith), mark, le-ltb (length s) 5 (omega arith), eq-eqb (be16 s 3) 1 version, le-ltb (length s) 6 g, lt-leb 2 (get_or s 5 0) m, lt-ltb (length s) 8 h)
