-- Laws of reading words (specs/Words.antt): a list's reading in terms of itself, and that the words of a formula say that formula.
use Prim.Native.Nat.{ℕ, zero, suc, ◌+◌, ◌*◌, ◌/◌, ◌%◌, ◌≤◌, ◌<◌}
use mathlib.Core.Path.{◌≡◌, refl, ap, ap₂, ◌∙◌}
use mathlib.Core.Bool.{true, false}
use mathlib.Core.List.{List, [], ◌∷◌, ◌++◌, append_assoc}
use native.Mathlib.Omega.{arith}
use lib.ListN.{length, drop, length-drop}
use lib.Seq.{drop-append_seam}
use Rattle.definition.specs.Formula.{Formula, Const, Sig, Free, Not, And, Or}
use Rattle.evaluation.specs.Words.{code_of, node, decode, formula_of}

-- what a word says depends only on what is read from its operands on
node_cong : (t n : ℕ) (r : List ℕ) (d e : List ℕ → Formula) → d r ≡ e r → d (drop n r) ≡ e (drop n r) → node t n r d ≡ node t n r e
unfolding node
node_cong zero n r d e p q = refl
node_cong (suc zero) n r d e p q = refl
node_cong (suc (suc zero)) n r d e p q = ap Not p
node_cong (suc (suc (suc zero))) n r d e p q = ap₂ And p q
node_cong (suc (suc (suc (suc zero)))) n r d e p q = ap₂ Or p q
node_cong (suc (suc (suc (suc (suc zero))))) n r d e p q = refl
node_cong (suc (suc (suc (suc (suc (suc zero)))))) n r d e p q = refl
node_cong (suc (suc (suc (suc (suc (suc (suc t))))))) n r d e p q = refl

-- any number that is at least the length will do
enough : (n m : ℕ) (l : List ℕ) → length l ≤ n → length l ≤ m → decode n l ≡ decode m l
unfolding decode
enough zero zero l h g = refl
enough zero (suc m) [] h g = refl
enough zero (suc m) (w ∷ r) h g = absurd (omega arith)
enough (suc n) zero [] h g = refl
enough (suc n) zero (w ∷ r) h g = absurd (omega arith)
enough (suc n) (suc m) [] h g = refl
enough (suc n) (suc m) (w ∷ r) h g =
    node_cong (w % 8) (w / 8) r (decode n) (decode m)
    (enough n m r (omega arith) (omega arith))
    (enough n m (drop (w / 8) r) (simp length-drop (omega arith)) (simp length-drop (omega arith)))

-- the reading of a list in terms of itself
pub say : (w : ℕ) (r : List ℕ) → formula_of (w ∷ r) ≡ node (w % 8) (w / 8) r formula_of
unfolding formula_of decode
say w r =
    node_cong (w % 8) (w / 8) r (decode (length r)) (λ (x : List ℕ). decode (length x) x)
    refl
    (enough (length r) (length (drop (w / 8) r)) (drop (w / 8) r) (simp length-drop (omega arith)) (simp length-drop (omega arith)))

-- no words say false
pub say_nothing : formula_of [] ≡ Const false
unfolding formula_of decode
say_nothing = refl

-- a word's tag and number
tag_of : (n t : ℕ) → t < 8 → (n * 8 + t) % 8 ≡ t
tag_of n t h = omega arith

number_of : (n t : ℕ) → t < 8 → (n * 8 + t) / 8 ≡ n
number_of n t h = omega arith

-- the words of a formula, whatever follows them, say that formula
pub formula_of_code : (f : Formula) (z : List ℕ) → formula_of (code_of f ++ z) ≡ f
unfolding code_of node
formula_of_code (Const true) z = say 1 z
formula_of_code (Const false) z = say 0 z
formula_of_code (Sig i) z = say (i * 8 + 5) z ∙ rw (tag_of i 5 (omega arith), number_of i 5 (omega arith))
formula_of_code (Free j) z = say (j * 8 + 6) z ∙ rw (tag_of j 6 (omega arith), number_of j 6 (omega arith))
formula_of_code (Not f) z = say 2 (code_of f ++ z) ∙ ap Not (formula_of_code f z)
formula_of_code (And f g) z =
    say (length (code_of f) * 8 + 3) ((code_of f ++ code_of g) ++ z)
    ∙ rw (
      tag_of (length (code_of f)) 3 (omega arith),
      number_of (length (code_of f)) 3 (omega arith),
      append_assoc (code_of f) (code_of g) z,
      drop-append_seam (code_of f) (code_of g ++ z),
      formula_of_code f (code_of g ++ z),
      formula_of_code g z,
    )
formula_of_code (Or f g) z =
    say (length (code_of f) * 8 + 4) ((code_of f ++ code_of g) ++ z)
    ∙ rw (
      tag_of (length (code_of f)) 4 (omega arith),
      number_of (length (code_of f)) 4 (omega arith),
      append_assoc (code_of f) (code_of g) z,
      drop-append_seam (code_of f) (code_of g ++ z),
      formula_of_code f (code_of g ++ z),
      formula_of_code g z,
    )
