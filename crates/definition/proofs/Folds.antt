-- Folding computed: every operation, the edges of 64 bits, the distance to an overflow, and what has no value.
use mathlib.Core.Path.{◌≡◌, refl}
use mathlib.Core.List.{List, [], ◌∷◌, map}
use Prim.Native.Nat.{ℕ}
use lib.IntN.{ℤ, pos, negsuc}
use Rattle.definition.specs.declared.Folded.{Folded}
use Rattle.definition.specs.declared.Folded.TheVariants.{Value, Nothing, Overflow}
use Rattle.definition.specs.Tree.{Expr, number, boolean, text, logical, compare, unary, binary, hash}
use Rattle.definition.specs.Folding.{fold}
use Rattle.definition.specs.Values.{nowhere}
use Rattle.definition.proofs.Computing.{computing}
use Rattle.definition.proofs.Contracts.{c, x}

pub record Fold : Type 0 where
  pub expr : Expr
  pub gives : Folded

abbrev gives : Expr → Folded → Fold
gives e f = record { expr = e; gives = f }

abbrev int : ℤ → Expr
int z = number nowhere z

abbrev un : ℕ → ℤ → Expr
un op a = unary nowhere op (int a)

abbrev bin : ℕ → ℤ → ℤ → Expr
bin op a b = binary nowhere op (int a) (int b)

abbrev cmp : ℕ → ℤ → ℤ → Expr
cmp op a b = compare nowhere op (int a) (int b)

abbrev log : ℕ → ℤ → ℤ → Expr
log op a b = logical nowhere op (int a) (int b)

-- 2^63-1 and -2^63
abbrev high : ℤ
high = pos 9223372036854775807

abbrev low : ℤ
low = negsuc 9223372036854775807

-- "booleans are 1 and 0"
abbrev one : Folded
one = Value (pos 1)

abbrev nought : Folded
nought = Value (pos 0)

-- ---- the tables, for -3 (negsuc 2) and 5 mostly

unfoldable pub operations : List Fold
operations =
    gives (un 0 (negsuc 0)) (Value (pos 0))
    ∷ gives (un 0 high) (Overflow 0)
    ∷ gives (un 1 (pos 0)) (Value (negsuc 0))
    ∷ gives (un 1 low) (Overflow 0)
    ∷ gives (un 2 (pos 5)) (Value (negsuc 4))
    ∷ gives (un 2 high) (Value (negsuc 9223372036854775806))
    ∷ gives (un 2 low) (Overflow 0)
    ∷ gives (un 3 (negsuc 2)) (Value (pos 3))
    ∷ gives (un 3 low) (Overflow 0)
    ∷ gives (un 4 (pos 0)) one
    ∷ gives (un 4 (negsuc 2)) nought
    ∷ gives (bin 0 (pos 5) (negsuc 2)) (Value (pos 2))
    ∷ gives (bin 0 high (pos 1)) (Overflow 0)
    ∷ gives (bin 0 low (negsuc 0)) (Overflow 0)
    ∷ gives (bin 1 (negsuc 2) (pos 5)) (Value (negsuc 7))
    ∷ gives (bin 1 low (pos 1)) (Overflow 0)
    ∷ gives (bin 1 (pos 0) low) (Overflow 0)
    ∷ gives (bin 2 (negsuc 2) (pos 5)) (Value (pos 5))
    ∷ gives (bin 2 (pos 5) (negsuc 2)) (Value (pos 5))
    ∷ gives (bin 3 (negsuc 2) (pos 5)) (Value (negsuc 2))
    ∷ gives (bin 3 (pos 5) (negsuc 2)) (Value (negsuc 2))
    ∷ []

-- each comparison below, at and above: -3 with 5, 5 with 5, 5 with -3
unfoldable pub comparisons : List Fold
comparisons =
    gives (cmp 0 (negsuc 2) (pos 5)) nought ∷ gives (cmp 0 (pos 5) (pos 5)) one ∷ gives (cmp 0 (pos 5) (negsuc 2)) nought
    ∷ gives (cmp 1 (negsuc 2) (pos 5)) one ∷ gives (cmp 1 (pos 5) (pos 5)) nought ∷ gives (cmp 1 (pos 5) (negsuc 2)) one
    ∷ gives (cmp 2 (negsuc 2) (pos 5)) nought ∷ gives (cmp 2 (pos 5) (pos 5)) nought ∷ gives (cmp 2 (pos 5) (negsuc 2)) one
    ∷ gives (cmp 3 (negsuc 2) (pos 5)) nought ∷ gives (cmp 3 (pos 5) (pos 5)) one ∷ gives (cmp 3 (pos 5) (negsuc 2)) one
    ∷ gives (cmp 4 (negsuc 2) (pos 5)) one ∷ gives (cmp 4 (pos 5) (pos 5)) nought ∷ gives (cmp 4 (pos 5) (negsuc 2)) nought
    ∷ gives (cmp 5 (negsuc 2) (pos 5)) one ∷ gives (cmp 5 (pos 5) (pos 5)) one ∷ gives (cmp 5 (pos 5) (negsuc 2)) nought
    ∷ gives (cmp 6 (negsuc 2) (pos 5)) nought ∷ gives (cmp 6 (pos 5) (pos 5)) one ∷ gives (cmp 6 (pos 5) (negsuc 2)) nought
    ∷ gives (cmp 7 (negsuc 2) (pos 5)) one ∷ gives (cmp 7 (pos 5) (pos 5)) nought ∷ gives (cmp 7 (pos 5) (negsuc 2)) one
    ∷ gives (log 0 (pos 0) (negsuc 2)) one ∷ gives (log 0 (pos 0) (pos 0)) nought
    ∷ gives (log 1 (pos 5) (negsuc 2)) one ∷ gives (log 1 (pos 5) (pos 0)) nought
    ∷ []

-- a literal number has 25 bytes, so a right operand begins 43 bytes after the tag
unfoldable pub others : List Fold
others =
    gives (boolean nowhere 1) one
    ∷ gives (boolean nowhere 0) nought
    -- left before right; both sides of or and and are worked out
    ∷ gives (logical nowhere 0 (int (pos 1)) (un 0 high)) (Overflow 43)
    ∷ gives (logical nowhere 1 (int (pos 0)) (un 0 high)) (Overflow 43)
    ∷ gives (compare nowhere 0 (int (pos 1)) (un 0 high)) (Overflow 43)
    ∷ gives (binary nowhere 3 (un 1 low) (un 0 high)) (Overflow 18)
    ∷ gives (unary nowhere 4 (un 0 high)) (Overflow 18)
    -- no value at a string, hash or length, nor at a variable or a checksig, whatever stands in it or to its right
    ∷ gives (binary nowhere 0 (text nowhere []) (un 0 high)) Nothing
    ∷ gives (binary nowhere 0 (un 0 high) (text nowhere [])) (Overflow 18)
    ∷ gives (hash nowhere 0 (un 0 high)) Nothing
    ∷ gives (Expr.length nowhere (un 0 high)) Nothing
    ∷ gives (binary nowhere 0 x (un 0 high)) Nothing
    ∷ gives (logical nowhere 0 c (un 0 high)) Nothing
    ∷ []

pub operations_hold : map (λ (r : Fold). fold r.expr) operations ≡ map (λ (r : Fold). r.gives) operations
unfolding computing operations
operations_hold = refl

pub comparisons_hold : map (λ (r : Fold). fold r.expr) comparisons ≡ map (λ (r : Fold). r.gives) comparisons
unfolding computing comparisons
comparisons_hold = refl

pub others_hold : map (λ (r : Fold). fold r.expr) others ≡ map (λ (r : Fold). r.gives) others
unfolding computing others
others_hold = refl
