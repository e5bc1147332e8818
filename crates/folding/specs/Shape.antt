-- The operands of an expression, by its tag: document 01's table, tags 16 to 26, as far as it says how many there are and where the
-- first begins.
use Rattle.std.specs.Prelude.{ℕ, eqb, cond}
use Rattle.folding.specs.declared.Shape.{Shape}

-- "left; right" after an op, one "operand" after an op, an operand right after the location, or none
unfoldable pub shape_of : ℕ → Shape
shape_of t =
    cond (eqb t 20) Shape.Two (
    cond (eqb t 21) Shape.Two (
    cond (eqb t 22) (Shape.One 18) (
    cond (eqb t 23) Shape.Two (
    cond (eqb t 24) (Shape.One 18) (
    cond (eqb t 26) (Shape.One 17)
    Shape.Leaf)))))
