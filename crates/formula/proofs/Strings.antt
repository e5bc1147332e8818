-- Strings: some byte that is not zero, and the bytes of the string that begins a part.
use Prim.Native.Nat.{ℕ, zero, suc, ◌+◌, ◌-◌, ◌≤◌}
use mathlib.Core.Path.{◌≡◌, refl, ap}
use mathlib.Core.Bool.{Bool, not, ◌||◌}
use mathlib.Core.List.{List, [], ◌∷◌, ◌++◌}
use Rattle.std.specs.List.{list_any}
use native.Mathlib.Omega.{arith}
use lib.Dec.{eqb}
use lib.ListN.{length, get_or, take, drop}
use lib.Seq.{take-append_seam}
use Rattle.definition.specs.Bytes.{when◌then◌else◌, be16}
use Rattle.definition.specs.Tree.{Expr, variable, number, boolean, text, logical, compare, unary, binary, hash, checksig}
use Rattle.definition.specs.Writing.{put_e}
use Rattle.definition.specs.Begins.{Begins, Holds}
use Rattle.definition.specs.Formula.{Const, Atoms, made, some_byte, pushed_truth, translate}
use Rattle.definition.proofs.Numbers.{be16_17}
use Rattle.folding.specs.Shape.{shape_of}
use Rattle.folding.proofs.View.{leaf_size, leaf_size_lem, size_ok}

-- ---- some byte
pub any_byte : (bs : List ℕ) → list_any (λ (b : ℕ). not (eqb b 0)) bs ≡ some_byte bs
unfolding some_byte
any_byte [] = refl
any_byte (b ∷ bs) = ap (λ (t : Bool). not (eqb b 0) || t) (any_byte bs)

-- ---- the truth of pushed bytes, by the mode
pub pushed_zero : (mode : ℕ) (bs : List ℕ) → mode ≡ 0 → not (eqb (length bs) 0) ≡ pushed_truth mode bs
unfolding pushed_truth
pushed_zero mode bs e = rw e

pub pushed_other : (mode : ℕ) (bs : List ℕ) → (mode ≡ 0 → ⊥) → some_byte bs ≡ pushed_truth mode bs
unfolding pushed_truth
pushed_other zero bs n = absurd (n refl)
pushed_other (suc mode) bs n = refl

-- ---- the string at the front of a part
-- its bytes are there
pub string_fits : (s : List ℕ) → Holds s → get_or s 0 0 ≡ 19 → 19 + be16 s 17 ≤ length s
unfolding leaf_size shape_of when◌then◌else◌
string_fits s h t = let z = size_ok s (leaf_size s) h (leaf_size_lem s (rw t refl)) in rw t at z

-- the truth of those is what is made
string_put : (mode : ℕ) (a : Atoms) (e : Expr) (r : List ℕ) → get_or (put_e e r) 0 0 ≡ 19 → made (Const (pushed_truth mode (take (be16 (put_e e r) 17) (drop 19 (put_e e r))))) a ≡ translate mode e a
unfolding put_e translate
string_put mode a (variable p) r t = absurd (omega (arith, t))
string_put mode a (number p z) r t = absurd (omega (arith, t))
string_put mode a (boolean p b) r t = absurd (omega (arith, t))
string_put mode a (text p bs) r t = rw (be16_17 19 p (length bs) (bs ++ r), take-append_seam bs r)
string_put mode a (logical p o x y) r t = absurd (omega (arith, t))
string_put mode a (compare p o x y) r t = absurd (omega (arith, t))
string_put mode a (unary p o x) r t = absurd (omega (arith, t))
string_put mode a (binary p o x y) r t = absurd (omega (arith, t))
string_put mode a (hash p o x) r t = absurd (omega (arith, t))
string_put mode a (checksig p) r t = absurd (omega (arith, t))
string_put mode a (Expr.length p x) r t = absurd (omega (arith, t))

pub string_is : (mode n : ℕ) (b : Bool) (a : Atoms) (e : Expr) (s : List ℕ) → Begins e s → get_or s 0 0 ≡ 19 → n ≡ be16 s 17 → b ≡ pushed_truth mode (take (19 + n - 19) (drop 19 s)) → made (Const b) a ≡ translate mode e a
string_is mode n b a e s h t q r =
    let k : 19 + n - 19 ≡ be16 s 17 = omega (arith, q) in
    let z : made (Const (pushed_truth mode (take (be16 s 17) (drop 19 s)))) a ≡ translate mode e a = rw h.bytes (string_put mode a e h.rest (rw h.bytes at t)) in
    rw (r, k) z
