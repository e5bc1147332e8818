-- What the evaluation's own functions promise: which words have no operands, and the value of the formula that begins at a word.
use Rattle.std.specs.Prelude.{ℕ, ◌%◌, Bool, ◌||◌, List, drop, get_or, ltb}
use Rattle.definition.specs.Formula.{bit, eval_formula}
use Rattle.evaluation.specs.Words.{formula_of}

-- whether word i has no operands: an atom, a constant, or no word at all, which is read as the constant false
abbrev pub is_leaf : List ℕ → ℕ → Bool
is_leaf ws i = ltb (get_or ws i 0 % 8) 2 || ltb 4 (get_or ws i 0 % 8)

-- the value of the formula that begins at word i, where Sig k is bit k of sigs and Free k is bit k of frees
unfoldable pub value_at : List ℕ → ℕ → ℕ → ℕ → Bool
value_at ws sigs frees i = eval_formula (formula_of (drop i ws)) (bit sigs) (bit frees)
