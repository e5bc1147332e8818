-- A path's success condition (source document 000, `translate`, `path_formula`) and its truth at one assignment
-- (`eval_formula`). Document 01, "Paths and formulas" and "Verdicts".
use Rattle.std.specs.Prelude.{ℕ, zero, suc, ◌+◌, ◌/◌, ◌%◌, ◌^◌, Bool, true, false, not, ◌&&◌, ◌||◌, List, [], ◌∷◌, ◌++◌, length, eqb, ltb}
use Rattle.definition.specs.declared.Location.{Location}
use Rattle.definition.specs.declared.Folded.{Folded}
use Rattle.definition.specs.declared.Folded.TheVariants.{Value, Nothing, Overflow}
use Rattle.definition.specs.Bytes.{when◌then◌else◌}
use Rattle.definition.specs.Tree.{Expr, variable, number, boolean, text, logical, compare, unary, binary, hash, checksig}
use Rattle.definition.specs.Writing.{size_e}
use Rattle.definition.specs.Folding.{fold, is_zero, contains_variable, contains_checksig}
use Rattle.definition.specs.Paths.{Piece}

-- "A checksig is a Sig atom"; "a new Free atom"; "constants"; "`!e`, and, or"
pub data Formula : Type 0 where
  Const : Bool → Formula
  Sig : ℕ → Formula
  Free : ℕ → Formula
  Not : Formula → Formula
  And : Formula → Formula → Formula
  Or : Formula → Formula → Formula

-- ---- atoms: "numbered from 0 within each path, in that order and left to right"

-- "Atoms are numbered from 0 within each path": the atoms seen so far, as the locations of the Sig atoms and how many Free atoms
pub record Atoms : Type 0 where
  pub locations : List Location
  pub frees : ℕ

-- "from 0 within each path"
abbrev pub no_atoms : Atoms
no_atoms = record { locations = []; frees = 0 }

-- a formula with the atoms after it; or, for "refusal 10, the first in translation order", the distance to that operation
pub data Made : Type 0 where
  made : Formula → Atoms → Made
  stopped : ℕ → Made

-- "left to right": the steps after one that begins n bytes on
unfoldable pub on_made : ℕ → Made → (Formula → Atoms → Made) → Made
on_made n (made f a) k = k f a
on_made n (stopped d) k = stopped (n + d)

-- "equal locations (all four numbers) share one"
unfoldable pub same_location : Location → Location → Bool
same_location p q = eqb p.start q.start && (eqb p.end q.end && (eqb p.line q.line && eqb p.column q.column))

-- "equal locations (all four numbers) share one": the number of the first that equals p, else the next number
unfoldable pub index_of : Location → List Location → ℕ
index_of p [] = 0
index_of p (q ∷ qs) = when same_location q p then 0 else 1 + index_of p qs

-- "equal locations (all four numbers) share one": the locations with p among them
unfoldable pub with_location : Location → List Location → List Location
with_location p qs = when ltb (index_of p qs) (length qs) then qs else qs ++ (p ∷ [])

-- "A checksig is a Sig atom"
unfoldable pub sig_atom : Location → Atoms → Made
sig_atom p a = made (Sig (index_of p a.locations)) (record { locations = with_location p a.locations; frees = a.frees })

-- "a new Free atom"
unfoldable pub free_atom : Atoms → Made
free_atom a = made (Free a.frees) (record { locations = a.locations; frees = a.frees + 1 })

-- ---- translation

-- "some pushed byte is not zero"
unfoldable pub some_byte : List ℕ → Bool
some_byte [] = false
some_byte (b ∷ bs) = not (eqb b 0) || some_byte bs

-- "Strings: in mode 0, true unless empty. In mode 1, true when some pushed byte is not zero."
unfoldable pub pushed_truth : ℕ → List ℕ → Bool
pushed_truth zero bs = not (eqb (length bs) 0)
pushed_truth (suc m) bs = some_byte bs

-- "folds to a number, the constant; else a new Free atom"; an overflow is told with its distance
unfoldable pub by_fold : Folded → Atoms → Made
by_fold (Value v) a = made (Const (not (is_zero v))) a
by_fold Nothing a = free_atom a
by_fold (Overflow d) a = stopped d

-- "Any other expression: if it holds neither checksig nor variable and folds to a number, the constant; else a new Free atom."
unfoldable pub otherwise : Expr → Atoms → Made
otherwise e a = when contains_checksig e || contains_variable e then free_atom a else by_fold (fold e) a

-- "the other side or its negation"
unfoldable pub sided : Bool → Formula → Formula
sided true f = f
sided false f = Not f

-- "and, or are taken by structure": "op 0 Or, 1 And"
unfoldable pub joined : ℕ → Formula → Formula → Formula
joined op f g = when eqb op 0 then Or f g else And f g

-- "a boolean literal", or another expression
pub data Literal : Type 0 where
  truth : Bool → Literal
  none : Literal

-- "with a boolean literal on either side": the literal that an expression is, if it is one
unfoldable pub literal_of : Expr → Literal
literal_of (variable p) = none
literal_of (number p z) = none
literal_of (boolean p b) = truth (eqb b 1)
literal_of (text p bs) = none
literal_of (logical p o a b) = none
literal_of (compare p o a b) = none
literal_of (unary p o a) = none
literal_of (binary p o a b) = none
literal_of (hash p o a) = none
literal_of (checksig p) = none
literal_of (Expr.length p a) = none

-- a comparison, Equal (0) or NotEqual (1), beside a literal: "the other side or its negation", m being what the other side makes, and
-- n its distance from the comparison's tag. Beside anything else: what is made instead
unfoldable pub beside : ℕ → Literal → ℕ → Made → Made → Made
beside op (truth b) n m instead = on_made n m (λ f a. made (sided (when eqb op 0 then b else not b) f) a)
beside op none n m instead = instead

-- "`!e`, and, or are taken by structure. Equal and NotEqual with a boolean literal on either side, the right side looked at
-- first, give the other side or its negation."
unfoldable pub translate : ℕ → Expr → Atoms → Made
translate mode (variable p) a = free_atom a
translate mode (number p z) a = made (Const (not (is_zero z))) a
translate mode (boolean p b) a = made (Const (eqb b 1)) a
translate mode (text p bs) a = made (Const (pushed_truth mode bs)) a
translate mode (logical p o x y) a =
    on_made 18 (translate mode x a) (λ f b.
    on_made (18 + size_e x) (translate mode y b) (λ g c.
    made (joined o f g) c))
translate mode (compare p o x y) a =
    when ltb o 2 then
    beside o (literal_of y) 18 (translate mode x a)
    (beside o (literal_of x) (18 + size_e x) (translate mode y a)
    (otherwise (compare p o x y) a))
    else otherwise (compare p o x y) a
translate mode (unary p o x) a = when eqb o 4 then on_made 18 (translate mode x a) (λ f b. made (Not f) b) else otherwise (unary p o x) a
translate mode (binary p o x y) a = otherwise (binary p o x y) a
translate mode (hash p o x) a = otherwise (hash p o x) a
translate mode (checksig p) a = sig_atom p a
translate mode (Expr.length p x) a = otherwise (Expr.length p x) a

-- "A path's formula joins its conditions in order, negated on the else side, then its verifies, then its return." An overflow's distance
-- becomes its offset in the image, and stays that for the pieces after
unfoldable pub path_formula : ℕ → List Piece → Atoms → Made
path_formula mode [] a = made (Const true) a
path_formula mode (x ∷ xs) a =
    on_made x.at (translate mode x.expr a) (λ f b.
    on_made 0 (path_formula mode xs b) (λ g c.
    made (And (sided x.side f) g) c))

-- ---- one assignment

-- "an assignment is one number, atom values read as its bits"
unfoldable pub bit : ℕ → ℕ → Bool
bit mask i = eqb (mask / 2 ^ i % 2) 1

-- the value of Sig i at a mask, by the phase: security (0) "all Sig false", liveness (1) "Sig i at bit i"
unfoldable pub sig_value : ℕ → ℕ → ℕ → Bool
sig_value zero mask i = false
sig_value (suc phase) mask i = bit mask i

-- the value of Free j: security "bit j being Free j", liveness "Free j above them", above as many Sig atoms as there are
unfoldable pub free_value : ℕ → ℕ → ℕ → ℕ → Bool
free_value zero sigs mask j = bit mask j
free_value (suc phase) sigs mask j = bit mask (sigs + j)

-- "atom values read as its bits": a formula's value from the values of its atoms (`eval_formula`)
unfoldable pub eval_formula : Formula → (ℕ → Bool) → (ℕ → Bool) → Bool
eval_formula (Const b) sig free = b
eval_formula (Sig i) sig free = sig i
eval_formula (Free j) sig free = free j
eval_formula (Not f) sig free = not (eval_formula f sig free)
eval_formula (And f g) sig free = eval_formula f sig free && eval_formula g sig free
eval_formula (Or f g) sig free = eval_formula f sig free || eval_formula g sig free

-- whether a mask "satisfies" a formula, on a path with so many Sig atoms
unfoldable pub satisfies : Formula → ℕ → ℕ → ℕ → Bool
satisfies f phase sigs mask = eval_formula f (sig_value phase mask) (free_value phase sigs mask)
