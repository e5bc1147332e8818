-- A formula as words: what the translation writes and the evaluation reads. A word is its tag, below 8, and 8 times its number: of an atom
-- the atom's, of a join how many words its left operand has. The words stand in prefix order, so a formula's first word shows where each of
-- its operands begins. Document 01 leaves this form open.
use Rattle.std.specs.Prelude.{ℕ, zero, suc, ◌+◌, ◌*◌, ◌/◌, ◌%◌, Bool, true, false, List, [], ◌∷◌, ◌++◌, length, drop, eqb, if◌then◌else◌}
use Rattle.definition.specs.Formula.{Formula, Const, Sig, Free, Not, And, Or}

-- ---- writing

-- the word of a constant
abbrev pub truth_word : Bool → ℕ
truth_word b = if b then 1 else 0

-- the word of a join whose left operand has n words: "op 0 Or, 1 And"
abbrev pub join_word : ℕ → ℕ → ℕ
join_word op n = if eqb op 0 then n * 8 + 4 else n * 8 + 3

-- the words of a formula: tag 0 false, 1 true, 2 not, 3 and, 4 or, 5 Sig, 6 Free
unfoldable pub code_of : Formula → List ℕ
code_of (Const b) = truth_word b ∷ []
code_of (Sig i) = (i * 8 + 5) ∷ []
code_of (Free j) = (j * 8 + 6) ∷ []
code_of (Not f) = 2 ∷ code_of f
code_of (And f g) = join_word 1 (length (code_of f)) ∷ (code_of f ++ code_of g)
code_of (Or f g) = join_word 0 (length (code_of f)) ∷ (code_of f ++ code_of g)

-- ---- reading

-- what a word with the tag t and the number n says, before the words r: an operand is what `read` makes of the words from its first one on.
-- A tag that is none of these says false
unfoldable pub node : ℕ → ℕ → List ℕ → (List ℕ → Formula) → Formula
node zero n r read = Const false
node (suc zero) n r read = Const true
node (suc (suc zero)) n r read = Not (read r)
node (suc (suc (suc zero))) n r read = And (read r) (read (drop n r))
node (suc (suc (suc (suc zero)))) n r read = Or (read r) (read (drop n r))
node (suc (suc (suc (suc (suc zero))))) n r read = Sig n
node (suc (suc (suc (suc (suc (suc zero)))))) n r read = Free n
node (suc (suc (suc (suc (suc (suc (suc t))))))) n r read = Const false

-- the formula with which the words begin, where there are at most `most` of them; no words say false
unfoldable pub decode : ℕ → List ℕ → Formula
decode zero ws = Const false
decode (suc most) [] = Const false
decode (suc most) (w ∷ r) = node (w % 8) (w / 8) r (decode most)

-- the formula with which any words begin
unfoldable pub formula_of : List ℕ → Formula
formula_of ws = decode (length ws) ws
