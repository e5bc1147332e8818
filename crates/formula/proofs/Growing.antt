-- How much a translation adds: at most a word, a Sig atom and a Free atom for each node of the expression, and no fewer Sig atoms than
-- before. And an overflow lies within the expression's bytes.
use Prim.Native.Nat.{ℕ, ◌+◌, ◌*◌, ◌≤◌, ◌<◌}
use mathlib.Core.Path.{◌≡◌, refl}
use mathlib.Core.Bool.{Bool, true, false, ◌||◌}
use mathlib.Core.List.{List, [], ◌∷◌, ◌++◌}
use native.Mathlib.Omega.{arith}
use lib.Dec.{eqb, ltb}
use lib.ListN.{length, length-append}
use Rattle.definition.specs.declared.Location.{Location}
use Rattle.definition.specs.declared.Folded.{Folded}
use Rattle.definition.specs.declared.Folded.TheVariants.{Value, Nothing, Overflow}
use Rattle.std.specs.Prelude.{if◌then◌else◌}
use Rattle.definition.specs.Bytes.{when◌then◌else◌}
use Rattle.definition.specs.Tree.{Expr, variable, number, boolean, text, logical, compare, unary, binary, hash, checksig}
use Rattle.definition.specs.Writing.{size_e, nodes_e}
use Rattle.definition.specs.Folding.{fold, contains}
use Rattle.definition.specs.Formula.{Formula, Const, And, Or, Atoms, Made, made, stopped, on_made, sig_atom, free_atom, by_fold, otherwise, sided, joined, Literal, truth, none, literal_of, beside, translate, path_formula}
use Rattle.definition.specs.Paths.{Piece}
use Rattle.formula.specs.Areas.{nodes_p}
use Rattle.folding.proofs.Values.{fold_within}
use Rattle.evaluation.specs.Words.{code_of, join_word}
use Rattle.formula.proofs.Rows.{length_with_within}

-- from the atoms a to the formula f and the atoms b: at most w words, and n more atoms of each kind
pub record Grown (w n : ℕ) (a : Atoms) (f : Formula) (b : Atoms) : Type 0 where
  pub words : length (code_of f) ≤ w
  pub sigs_least : length a.locations ≤ length b.locations
  pub sigs : length b.locations ≤ length a.locations + n
  pub frees : b.frees ≤ a.frees + n

-- the same of what an expression makes; an overflow lies below z
unfoldable pub Grows : ℕ → ℕ → ℕ → Atoms → Made → Type 0
Grows w n z a (made f b) = Grown w n a f b
Grows w n z a (stopped d) = d < z

-- there are at least as many Sig atoms as in a
unfoldable pub Keeps : Atoms → Made → Type 0
Keeps a (made f b) = length a.locations ≤ length b.locations
Keeps a (stopped d) = Unit {0}

grows_keeps : (w n z : ℕ) (a : Atoms) (m : Made) → Grows w n z a m → Keeps a m
unfolding Grows Keeps
grows_keeps w n z a (made f b) g = g.sigs_least
grows_keeps w n z a (stopped d) g = tt

-- ---- the words of what is put together
pub joined_code : (op : ℕ) (f g : Formula) → code_of (joined op f g) ≡ join_word op (length (code_of f)) ∷ (code_of f ++ code_of g)
unfolding code_of joined when◌then◌else◌
joined_code op f g = by (eqb op 0)
  where
    by : (t : Bool) → code_of (when t then Or f g else And f g) ≡ (if t then length (code_of f) * 8 + 4 else length (code_of f) * 8 + 3) ∷ (code_of f ++ code_of g)
    by true = refl
    by false = refl

pub sided_length : (side : Bool) (f : Formula) → length (code_of (sided side f)) ≤ 1 + length (code_of f)
unfolding code_of sided
sided_length true f = omega arith
sided_length false f = omega arith

pub joined_length : (op : ℕ) (f g : Formula) → length (code_of (joined op f g)) ≡ 1 + (length (code_of f) + length (code_of g))
joined_length op f g = rw (joined_code op f g) (omega (arith, length-append (code_of f) (code_of g)))

-- ---- one atom or constant
module _ (n z : ℕ) (a : Atoms) (one : 1 ≤ n) where
  const_grows : (b : Bool) → Grows n n z a (made (Const b) a)
  unfolding Grows code_of
  const_grows b = record { words = omega arith; sigs_least = omega arith; sigs = omega arith; frees = omega arith }

  free_grows : Grows n n z a (free_atom a)
  unfolding Grows code_of free_atom
  free_grows = record { words = omega arith; sigs_least = omega arith; sigs = omega arith; frees = omega arith }

  sig_grows : (p : Location) → Grows n n z a (sig_atom p a)
  unfolding Grows code_of sig_atom
  sig_grows p = record { words = omega arith; sigs_least = (length_with_within p a.locations).0; sigs = omega (arith, (length_with_within p a.locations).1); frees = omega arith }

  fold_grows : (r : Folded) → ((d : ℕ) → r ≡ Overflow d → d < z) → Grows n n z a (by_fold r a)
  unfolding Grows by_fold
  fold_grows (Value v) h = const_grows _
  fold_grows Nothing h = free_grows
  fold_grows (Overflow d) h = h d refl

  otherwise_grows : (e : Expr) → size_e e ≤ z → Grows n n z a (otherwise e a)
  unfolding otherwise when◌then◌else◌
  otherwise_grows e h = by (contains 25 e || contains 16 e)
    where
      by : (t : Bool) → Grows n n z a (when t then free_atom a else by_fold (fold e) a)
      by true = free_grows
      by false = fold_grows (fold e) (λ d o. omega (arith, fold_within e d o))

-- ---- one operand, which begins k bytes on, or two
pub side_grows : (w n z w' n' z' k : ℕ) (a : Atoms) (side : Bool) (m : Made) → 1 + w ≤ w' → n ≤ n' → k + z ≤ z' → Grows w n z a m → Grows w' n' z' a (on_made k m (λ f b. made (sided side f) b))
unfolding Grows on_made
side_grows w n z w' n' z' k a side (made f b) hw hn hz g = record { words = omega (arith, sided_length side f, g.words); sigs_least = g.sigs_least; sigs = omega (arith, g.sigs); frees = omega (arith, g.frees) }
side_grows w n z w' n' z' k a side (stopped d) hw hn hz g = omega (arith, g)

two_grows : (n n' z z' op : ℕ) (a : Atoms) (m : Made) (k : Atoms → Made) → Grows n n z a m → ((b : Atoms) → Grows n' n' z' b (k b))
    → Grows (1 + (n + n')) (1 + (n + n')) (18 + z + z') a (on_made 18 m (λ f b. on_made (18 + z) (k b) (λ g c. made (joined op f g) c)))
unfolding Grows on_made
two_grows n n' z z' op a (stopped d) k g j = omega (arith, g)
two_grows n n' z z' op a (made f b) k g j = by (k b) (j b)
  where
    by : (m : Made) → Grows n' n' z' b m → Grows (1 + (n + n')) (1 + (n + n')) (18 + z + z') a (on_made (18 + z) m (λ h c. made (joined op f h) c))
    by (made h c) i = record { words = omega (arith, joined_length op f h, g.words, i.words); sigs_least = omega (arith, g.sigs_least, i.sigs_least); sigs = omega (arith, g.sigs, i.sigs); frees = omega (arith, g.frees, i.frees) }
    by (stopped d) i = omega (arith, i)

-- a comparison, beside its literals
beside_grows : (n z op k : ℕ) (a : Atoms) (l : Literal) (m instead : Made) → ((side : Bool) → Grows n n z a (on_made k m (λ f b. made (sided side f) b))) → Grows n n z a instead → Grows n n z a (beside op l k m instead)
unfolding beside
beside_grows n z op k a (truth b) m instead g h = g _
beside_grows n z op k a none m instead g h = h

either_grows : (n z : ℕ) (a : Atoms) (t : Bool) (m k : Made) → Grows n n z a m → Grows n n z a k → Grows n n z a (when t then m else k)
unfolding when◌then◌else◌
either_grows n z a true m k g h = g
either_grows n z a false m k g h = h

-- ---- an expression
pub grows : (mode : ℕ) (e : Expr) (a : Atoms) → Grows (nodes_e e) (nodes_e e) (size_e e) a (translate mode e a)
unfolding translate nodes_e size_e sided
grows mode (variable p) a = free_grows 1 17 a (omega arith)
grows mode (number p z) a = const_grows 1 25 a (omega arith) _
grows mode (boolean p b) a = const_grows 1 18 a (omega arith) _
grows mode (text p bs) a = const_grows 1 _ a (omega arith) _
grows mode (logical p o x y) a = two_grows (nodes_e x) (nodes_e y) (size_e x) (size_e y) o a (translate mode x a) (translate mode y) (grows mode x a) (grows mode y)
grows mode (compare p o x y) a =
    let n : ℕ = 1 + (nodes_e x + nodes_e y) in
    let z : ℕ = 18 + size_e x + size_e y in
    let whole : Grows n n z a (otherwise (compare p o x y) a) = otherwise_grows n z a (omega arith) (compare p o x y) (omega arith) in
    let right = beside_grows n z o (18 + size_e x) a (literal_of x) (translate mode y a) _ (λ side. side_grows (nodes_e y) (nodes_e y) (size_e y) n n z (18 + size_e x) a side (translate mode y a) (omega arith) (omega arith) (omega arith) (grows mode y a)) whole in
    let left = beside_grows n z o 18 a (literal_of y) (translate mode x a) _ (λ side. side_grows (nodes_e x) (nodes_e x) (size_e x) n n z 18 a side (translate mode x a) (omega arith) (omega arith) (omega arith) (grows mode x a)) right in
    either_grows n z a (ltb o 2) _ _ left whole
grows mode (unary p o x) a =
    either_grows (1 + nodes_e x) (18 + size_e x) a (eqb o 4) _ _
    (side_grows (nodes_e x) (nodes_e x) (size_e x) (1 + nodes_e x) (1 + nodes_e x) (18 + size_e x) 18 a false (translate mode x a) (omega arith) (omega arith) (omega arith) (grows mode x a))
    (otherwise_grows (1 + nodes_e x) (18 + size_e x) a (omega arith) (unary p o x) (omega arith))
grows mode (binary p o x y) a = otherwise_grows _ _ a (omega arith) (binary p o x y) (omega arith)
grows mode (hash p o x) a = otherwise_grows _ _ a (omega arith) (hash p o x) (omega arith)
grows mode (checksig p) a = sig_grows 1 17 a (omega arith) p
grows mode (Expr.length p x) a = otherwise_grows _ _ a (omega arith) (Expr.length p x) (omega arith)

pub keeps : (mode : ℕ) (e : Expr) (a : Atoms) → Keeps a (translate mode e a)
keeps mode e a = grows_keeps (nodes_e e) (nodes_e e) (size_e e) a (translate mode e a) (grows mode e a)

-- ---- a path

-- how many words its pieces have at most: a join and a negation for each, a word for each node, and true at the end
abbrev pub words_for : List Piece → ℕ
words_for ps = 2 * length ps + nodes_p ps + 1

-- the same of what a path makes
unfoldable pub PathGrows : List Piece → Atoms → Made → Type 0
PathGrows ps a (made f b) = Grown (words_for ps) (nodes_p ps) a f b
PathGrows ps a (stopped d) = Unit {0}

pub path_grows : (mode : ℕ) (ps : List Piece) (a : Atoms) → PathGrows ps a (path_formula mode ps a)
unfolding path_formula PathGrows Grows on_made nodes_p code_of joined when◌then◌else◌
path_grows mode [] a = record { words = omega arith; sigs_least = omega arith; sigs = omega arith; frees = omega arith }
path_grows mode (x ∷ xs) a = by (translate mode x.expr a) (grows mode x.expr a) (path_grows mode xs)
  where
    behind : (f : Formula) (b : Atoms) (m : Made) → Grown (nodes_e x.expr) (nodes_e x.expr) a f b → PathGrows xs b m → PathGrows (x ∷ xs) a (on_made 0 m (λ g c. made (And (sided x.side f) g) c))
    behind f b (made g c) h k =
        record {
          words = omega (arith, joined_length 1 (sided x.side f) g, sided_length x.side f, h.words, k.words);
          sigs_least = omega (arith, h.sigs_least, k.sigs_least);
          sigs = omega (arith, h.sigs, k.sigs);
          frees = omega (arith, h.frees, k.frees);
        }
    behind f b (stopped d) h k = tt

    by : (m : Made) → Grows (nodes_e x.expr) (nodes_e x.expr) (size_e x.expr) a m → ((b : Atoms) → PathGrows xs b (path_formula mode xs b)) → PathGrows (x ∷ xs) a (on_made x.at m (λ f b. on_made 0 (path_formula mode xs b) (λ g c. made (And (sided x.side f) g) c)))
    by (made f b) h k = behind f b (path_formula mode xs b) h (k b)
    by (stopped d) h k = tt

grown_keeps : (ps : List Piece) (a : Atoms) (m : Made) → PathGrows ps a m → Keeps a m
unfolding PathGrows Keeps
grown_keeps ps a (made f b) g = g.sigs_least
grown_keeps ps a (stopped d) g = tt

pub path_keeps : (mode : ℕ) (ps : List Piece) (a : Atoms) → Keeps a (path_formula mode ps a)
path_keeps mode ps a = grown_keeps ps a (path_formula mode ps a) (path_grows mode ps a)
