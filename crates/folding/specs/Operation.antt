-- The operations of two values, by the tag of the expression and its op: what `fold` does with both values, tags 20, 21 and 23.
use Rattle.std.specs.Prelude.{ℕ, eqb, cond, ℤ}
use Rattle.definition.specs.declared.Folded.{Folded}
use Rattle.definition.specs.Folding.{flag, logical_of, compare_of, binary_of}

-- 20 logical, 21 compare, 23 binary
unfoldable pub two_of : ℕ → ℕ → ℤ → ℤ → Folded
two_of t op v w =
    cond (eqb t 20) (Folded.Value (flag (logical_of op v w))) (
    cond (eqb t 21) (Folded.Value (flag (compare_of op v w)))
    (binary_of op v w))
