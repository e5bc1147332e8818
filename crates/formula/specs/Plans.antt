-- How an expression is translated, as its first bytes and a literal beside it tell: as a whole, as one operand, or as two. Document 01:
-- "`!e`, and, or are taken by structure. Equal and NotEqual with a boolean literal on either side, the right side looked at first, give the
-- other side or its negation."
use Rattle.std.specs.Prelude.{ℕ, ◌+◌, Bool, false, not, Option, Some, None, eqb, ltb}
use Rattle.definition.specs.Bytes.{when◌then◌else◌}
use Rattle.definition.specs.Tree.{Expr, variable, number, boolean, text, logical, compare, unary, binary, hash, checksig}
use Rattle.definition.specs.Writing.{size_e}
use Rattle.definition.specs.Formula.{Literal, truth, none, literal_of}
use Rattle.formula.specs.declared.Plan.{Plan}

-- a literal as the code tells it
abbrev pub beside_of : Literal → Option Bool
beside_of (truth b) = Some b
beside_of none = None

-- "the other side or its negation", op 0 Equal, 1 NotEqual: beside a literal the other side, which begins n bytes on; beside anything else
-- what is planned instead
unfoldable pub beside_plan : ℕ → Literal → ℕ → Plan → Plan
beside_plan op (truth b) n instead = Plan.One n (when eqb op 0 then b else not b)
beside_plan op none n instead = instead

-- how an expression is translated; an operand begins 18 bytes on, behind tag, location and op
unfoldable pub plan_of : Expr → Plan
plan_of (variable p) = Plan.Whole
plan_of (number p z) = Plan.Whole
plan_of (boolean p b) = Plan.Whole
plan_of (text p bs) = Plan.Whole
plan_of (logical p o x y) = Plan.Two o
plan_of (compare p o x y) =
    when ltb o 2 then
    beside_plan o (literal_of y) 18
    (beside_plan o (literal_of x) (18 + size_e x)
    Plan.Whole)
    else Plan.Whole
plan_of (unary p o x) = when eqb o 4 then Plan.One 18 false else Plan.Whole
plan_of (binary p o x y) = Plan.Whole
plan_of (hash p o x) = Plan.Whole
plan_of (checksig p) = Plan.Whole
plan_of (Expr.length p x) = Plan.Whole
