-- Folding: the value of an expression made of literals, over the integers (source document 000, `eval_int`), and the two
-- containment tests. Document 01, "Paths and formulas": "Folding goes left before right, works out both sides of and, or too,
-- whatever the left gave, and stops with no value at a string, hash or length."
use Rattle.std.specs.Prelude.{ℕ, ◌+◌, ◌^◌, Bool, true, false, not, ◌&&◌, ◌||◌, ltb, eqb, ℤ, pos, negsuc, neg_ℤ, nat_abs, ◌+ℤ◌, ◌-ℤ◌}
use Rattle.std.specs.Int.Signed.{mag, lt_z, le_z}
use Rattle.definition.specs.declared.Folded.{Folded}
use Rattle.definition.specs.declared.Folded.TheVariants.{Value, Nothing, Overflow}
use Rattle.definition.specs.Bytes.{when◌then◌else◌}
use Rattle.definition.specs.Tree.{Expr, variable, number, boolean, text, logical, compare, unary, binary, hash, checksig}
use Rattle.definition.specs.Writing.{size_e}

-- ---- the operations, by their numbers in the image

-- "A step outside signed 64 bits that folding reaches is refusal 10": `mag z` is z, or -1 - z below 0
unfoldable pub kept : ℤ → Folded
kept z = when ltb (mag z) (2 ^ 63) then Value z else Overflow 0

-- "booleans are 1 and 0"
unfoldable pub flag : Bool → ℤ
flag true = pos 1
flag false = pos 0

-- Equal of two integers; "NumEqual folds as Equal"
unfoldable pub same_z : ℤ → ℤ → Bool
same_z (pos a) (pos b) = eqb a b
same_z (pos a) (negsuc b) = false
same_z (negsuc a) (pos b) = false
same_z (negsuc a) (negsuc b) = eqb a b

-- "numbers (true unless 0)"
unfoldable pub is_zero : ℤ → Bool
is_zero z = same_z z (pos 0)

-- "op 0 Add, 1 Sub, 2 Negate, 3 Abs, 4 Not": Add and Sub by 1
unfoldable pub unary_of : ℕ → ℤ → Folded
unary_of op v =
    when eqb op 0 then kept (v +ℤ pos 1) else
    when eqb op 1 then kept (v -ℤ pos 1) else
    when eqb op 2 then kept (neg_ℤ v) else
    when eqb op 3 then kept (pos (nat_abs v)) else
    Value (flag (is_zero v))

-- "op 0 Add, 1 Sub, 2 Max, 3 Min"
unfoldable pub binary_of : ℕ → ℤ → ℤ → Folded
binary_of op a b =
    when eqb op 0 then kept (a +ℤ b) else
    when eqb op 1 then kept (a -ℤ b) else
    when eqb op 2 then Value (when lt_z a b then b else a) else
    Value (when lt_z a b then a else b)

-- "op 0 to 7, order of 001": 0 Equal, 1 NotEqual, 2 Greater, 3 GreaterOrEqual, 4 Less, 5 LessOrEqual, 6 NumEqual, 7 NumNotEqual;
-- "NumEqual folds as Equal, NumNotEqual as NotEqual"
unfoldable pub compare_of : ℕ → ℤ → ℤ → Bool
compare_of op a b =
    when eqb op 0 then same_z a b else
    when eqb op 1 then not (same_z a b) else
    when eqb op 2 then lt_z b a else
    when eqb op 3 then le_z b a else
    when eqb op 4 then lt_z a b else
    when eqb op 5 then le_z a b else
    when eqb op 6 then same_z a b else
    not (same_z a b)

-- "op 0 Or, 1 And", of numbers that are true unless 0
unfoldable pub logical_of : ℕ → ℤ → ℤ → Bool
logical_of op a b = when eqb op 0 then not (is_zero a) || not (is_zero b) else not (is_zero a) && not (is_zero b)

-- ---- folding

-- "taken apart at each operand with an early exit": the value of an operand that begins n bytes after the tag goes on; an overflow in it
-- lies n bytes further
unfoldable pub on_value : ℕ → Folded → (ℤ → Folded) → Folded
on_value n (Value v) k = k v
on_value n Nothing k = Nothing
on_value n (Overflow d) k = Overflow (n + d)

-- "stops with no value at a string, hash or length": neither a variable nor a checksig has one either
unfoldable pub fold : Expr → Folded
fold (variable p) = Nothing
fold (number p z) = Value z
fold (boolean p b) = Value (flag (eqb b 1))
fold (text p bs) = Nothing
fold (logical p o a b) = on_value 18 (fold a) (λ v. on_value (18 + size_e a) (fold b) (λ w. Value (flag (logical_of o v w))))
fold (compare p o a b) = on_value 18 (fold a) (λ v. on_value (18 + size_e a) (fold b) (λ w. Value (flag (compare_of o v w))))
fold (unary p o a) = on_value 18 (fold a) (unary_of o)
fold (binary p o a b) = on_value 18 (fold a) (λ v. on_value (18 + size_e a) (fold b) (binary_of o v))
fold (hash p o a) = Nothing
fold (checksig p) = Nothing
fold (Expr.length p a) = Nothing

-- ---- containment

-- "if it holds neither checksig nor variable": whether a leaf of that tag stands anywhere in the expression
unfoldable pub contains : ℕ → Expr → Bool
contains t (variable p) = eqb t 16
contains t (number p z) = eqb t 17
contains t (boolean p b) = eqb t 18
contains t (text p bs) = eqb t 19
contains t (logical p o a b) = contains t a || contains t b
contains t (compare p o a b) = contains t a || contains t b
contains t (unary p o a) = contains t a
contains t (binary p o a b) = contains t a || contains t b
contains t (hash p o a) = contains t a
contains t (checksig p) = eqb t 25
contains t (Expr.length p a) = contains t a

-- "To be ported: .. `contains_variable`"
abbrev pub contains_variable : Expr → Bool
contains_variable e = contains 16 e

-- "To be ported: .. `contains_checksig`"
abbrev pub contains_checksig : Expr → Bool
contains_checksig e = contains 25 e
