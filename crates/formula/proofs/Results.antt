-- What a translation tells and leaves in the area, from what its parts told and left: one law for each return, and the room for each call.
use Rattle.std.specs.Prelude.{Result, Ok, Err}
use Prim.Native.Nat.{ℕ, suc, max, ◌+◌, ◌-◌, ◌*◌, ◌≤◌, ◌<◌}
use mathlib.Core.Path.{◌≡◌, refl, sym, ap, subst, ◌∙◌}
use mathlib.Core.Bool.{Bool, true, false, not}
use mathlib.Core.List.{List, ◌∷◌, ◌++◌}
use native.Mathlib.Nat.{zero-add}
use native.Mathlib.Numerals.{add-one}
use native.Mathlib.Omega.{arith}
use lib.IntN.{ℤ}
use lib.ListN.{length, set}
use lib.Seq.{sets}
use mir.Val.{bool_byte}
use Rattle.definition.specs.declared.Location.{Location}
use Rattle.definition.specs.declared.Folded.TheVariants.{Value, Nothing, Overflow as Beyond}
use Rattle.definition.specs.Tree.{Expr, variable, number, boolean, text, logical, compare, unary, binary, hash, checksig}
use Rattle.definition.specs.Writing.{size_e, nodes_e}
use Rattle.definition.specs.Begins.{Holds}
use Rattle.definition.specs.Folding.{is_zero}
use Rattle.definition.specs.Formula.{Formula, Atoms, Made, made, stopped, on_made, with_location, sig_atom, free_atom, by_fold, sided, joined, translate}
use Rattle.formula.specs.declared.Counts.{Counts}
use Rattle.formula.specs.declared.Overflow.{Overflow}
use Rattle.formula.specs.declared.Area.{Area}
use Rattle.evaluation.specs.Words.{truth_word, join_word, code_of}
use Rattle.formula.specs.Areas.{one_more, Rows, Tied, SigFor, Ready, SidedReady, Forms, on_side, moved}
use Rattle.folding.proofs.View.{tagged}
use Rattle.paths.proofs.Lists.{sets_append}
use Rattle.formula.proofs.Rows.{set_before, sets_over, rows_same, rows_after, length_with}
use Rattle.formula.proofs.Growing.{Grown, Grows, Keeps, grows, joined_code, joined_length}

-- so much is written
abbrev pub counts : ℕ → ℕ → ℕ → Counts
counts w n f = record { words = w; sigs = n; frees = f }

-- what comes of a translation
abbrev pub Formed : Type 0
Formed = Result Counts Overflow

-- an overflow at that place
abbrev pub beyond : ℕ → Formed
beyond d = Err (record { at = d })

-- the area once a word is stored
abbrev pub with_word : Area → ℕ → ℕ → Area
with_word area w v = record { code = set area.code w v; sigs = area.sigs }

-- what is made, by another name
pub result_as : (m m' : Made) (w : ℕ) (r : Formed) (area area' : Area) → m ≡ m' → Forms m w r area area' → Forms m' w r area area'
result_as m m' w r area area' e g = subst (λ (x : Made). Forms x w r area area') e g

-- ---- one word
pub nodes_least : (e : Expr) → 1 ≤ nodes_e e
unfolding nodes_e
nodes_least (variable p) = omega arith
nodes_least (number p z) = omega arith
nodes_least (boolean p b) = omega arith
nodes_least (text p bs) = omega arith
nodes_least (logical p o x y) = omega arith
nodes_least (compare p o x y) = omega arith
nodes_least (unary p o x) = omega arith
nodes_least (binary p o x y) = omega arith
nodes_least (hash p o x) = omega arith
nodes_least (checksig p) = omega arith
nodes_least (Expr.length p x) = omega arith

module _ (s : List ℕ) (at : Counts) (rows : List Location) (h : Ready s at rows) where
  pub ready_holds : Holds s
  ready_holds = record { expr = h.expr; begins = h.begins }

  pub ready_tagged : 17 ≤ length s
  ready_tagged = tagged s ready_holds

-- a truth value as a number is its word
truth_bit : (b : Bool) → bool_byte b ≡ truth_word b
truth_bit true = refl
truth_bit false = refl

module _ (a : Atoms) (w n f : ℕ) (area : Area) (t : Tied a (counts w n f) area.sigs) where
  pub truth_result : (v : ℤ) (b : Bool) (u : ℕ) → b ≡ is_zero v → u ≡ bool_byte (not b) → Forms (by_fold (Value v) a) w (Ok (counts (w + 1) n f)) area (with_word area w u)
  unfolding Forms by_fold code_of
  truth_result v b u e q = record { told = ap Ok (rw (t.sigs.count, t.frees)); words = rw (q, e, truth_bit (not (is_zero v))); rows = sym (rows_same a.locations n area.sigs t.sigs) }

  pub free_result : Forms (by_fold Nothing a) w (Ok (counts (w + 1) n (f + 1))) area (with_word area w (f * 8 + 6))
  unfolding Forms by_fold free_atom code_of
  free_result = record { told = ap Ok (rw (t.sigs.count, t.frees)); words = rw t.frees; rows = sym (rows_same a.locations n area.sigs t.sigs) }

  pub overflow_result : (d : ℕ) → Forms (by_fold (Beyond d) a) w (beyond d) area area
  unfolding Forms by_fold
  overflow_result d = refl

  pub sig_result : (p : Location) (i k : ℕ) (rows' : List Location) → SigFor p a.locations i area.sigs rows' → k ≡ max n (i + 1)
      → Forms (sig_atom p a) w (Ok (counts (w + 1) k f)) area (record { code = set area.code w (i * 8 + 5); sigs = rows' })
  unfolding Forms sig_atom code_of
  sig_result p i k rows' s q =
      let e : k ≡ length (with_location p a.locations) = q ∙ rw (s.number, t.sigs.count) (sym (length_with p a.locations)) in
      record { told = ap Ok (rw (e, t.frees)); words = rw s.number; rows = s.are }

-- ---- kept, negated, or further on
module _ (area area' : Area) where
  pub kept_result : (m : Made) (w : ℕ) (r : Formed) → Forms m w r area area' → Forms (on_side true m) w r area area'
  unfolding Forms on_side on_made sided
  kept_result (made f b) w r g = g
  kept_result (stopped d) w r g = g ∙ ap beyond (sym (zero-add d))

  pub turned_result : (m : Made) (w : ℕ) (r : Formed) → Forms m (w + 1) r (with_word area w 2) area' → Forms (on_side false m) w r area area'
  unfolding Forms on_side on_made sided code_of
  turned_result (made f b) w r g =
      let e : w + 1 + length (code_of f) ≡ w + suc (length (code_of f)) = omega arith in
      record { told = g.told ∙ ap (λ (x : ℕ). Ok (counts x (length b.locations) b.frees)) e; words = g.words ∙ rw (add-one w); rows = g.rows }
  turned_result (stopped d) w r g = g ∙ ap beyond (sym (zero-add d))

  -- what began n bytes on
  pub one_result : (side : Bool) (n w : ℕ) (m : Made) (r r' : Formed) → r' ≡ moved n r → Forms (on_side side m) w r area area' → Forms (on_made n m (λ f b. made (sided side f) b)) w r' area area'
  unfolding Forms on_side on_made
  one_result side n w (made f b) r r' q g = record { told = q ∙ rw g.told; words = g.words; rows = g.rows }
  one_result side n w (stopped d) r r' q g = q ∙ rw (g, zero-add d)

-- it stopped there: nothing is said of the area
pub stop_result : (m : Made) (n w w' : ℕ) (o : Overflow) (k : Formula → Atoms → Made) (r r' : Formed) (area area' areaₓ areaₓ' : Area)
    → Forms m w r area area' → r' ≡ moved n r → r' ≡ Err o → Forms (on_made n m k) w' (Err o) areaₓ areaₓ'
unfolding Forms on_made
stop_result (made f b) n w w' o k r r' area area' areaₓ areaₓ' g q e = cc (q ∙ ap (moved n) g.told, e)
stop_result (stopped x) n w w' o k r r' area area' areaₓ areaₓ' g q e = sym e ∙ q ∙ rw g

-- it did not
pub not_moved : (n : ℕ) (r r' : Formed) (x : Counts) → r' ≡ moved n r → r' ≡ Ok x → r ≡ Ok x
not_moved n (Ok y) r' x q e = sym q ∙ e
not_moved n (Err o) r' x q e = cc

-- where it stopped lies within the expression
pub sided_within : (side : Bool) (n z : ℕ) (a : Atoms) (m : Made) (w : ℕ) (o : Overflow) (r : Formed) (area area' : Area) → Forms (on_side side m) w r area area' → Grows n n z a m → r ≡ Err o → o.at < z
unfolding Forms on_side on_made Grows
sided_within side n z a (made f b) w o r area area' g s e = cc (g.told, e)
sided_within side n z a (stopped x) w o r area area' g s e = let k : 0 + x ≡ o.at = ap (λ (y : Overflow). y.at) (same (sym g ∙ e)) in omega (arith, s, k)
  where
    same : {x y : Overflow} → ◌≡◌ {A = Formed} (Err x) (Err y) → x ≡ y
    same e = cc

pub stop_within : (n z : ℕ) (a : Atoms) (m : Made) (w : ℕ) (o : Overflow) (r : Formed) (area area' : Area) → Forms m w r area area' → Grows n n z a m → r ≡ Err o → o.at < z
stop_within n z a m w o r area area' g = sided_within true n z a m w o r area area' (kept_result area area' m w r g)

-- ---- two operands

-- what is there when a formula is written: it, and the atoms after it
pub record Mid (m : Made) (w : ℕ) (mid : Counts) (area area' : Area) : Type 0 where
  pub formula : Formula
  pub atoms : Atoms
  pub is : m ≡ made formula atoms
  pub count : mid.words ≡ w + length (code_of formula)
  pub sigs : mid.sigs ≡ length atoms.locations
  pub frees : mid.frees ≡ atoms.frees
  pub words : area'.code ≡ sets area.code w (code_of formula)
  pub rows : area'.sigs ≡ sets area.sigs 0 atoms.locations

pub mid_of : (m : Made) (w : ℕ) (r : Formed) (mid : Counts) (area area' : Area) → Forms m w r area area' → r ≡ Ok mid → Mid m w mid area area'
unfolding Forms
mid_of (made f b) w r mid area area' g o =
    let e = same (sym o ∙ g.told) in
    record { formula = f; atoms = b; is = refl; count = ap (λ (x : Counts). x.words) e; sigs = ap (λ (x : Counts). x.sigs) e; frees = ap (λ (x : Counts). x.frees) e; words = g.words; rows = g.rows }
  where
    same : {x y : Counts} → ◌≡◌ {A = Formed} (Ok x) (Ok y) → x ≡ y
    same e = cc
mid_of (stopped d) w r mid area area' g o = cc (g, o)

-- a word, the left operand's words behind it, the word stored once their number is known, then the right operand's
pair_words : (l : List ℕ) (w v : ℕ) (xs ys : List ℕ) → sets (set (sets l (w + 1) xs) w v) (w + 1 + length xs) ys ≡ sets l w (v ∷ (xs ++ ys))
pair_words l w v xs ys = rw (set_before l w (w + 1) xs v (omega arith), sets_append (set l w v) (w + 1) xs ys, add-one)

module _ (op w : ℕ) (m : Made) (mid : Counts) (area area₁ area₂ : Area) (g : Mid m (w + 1) mid area area₁) where
  pub pair_result : (k : Atoms → Made) (i j v : ℕ) (r r' : Formed) → v ≡ join_word op (mid.words - (w + 1)) → Keeps g.atoms (k g.atoms) → r' ≡ moved j r
      → Forms (k g.atoms) mid.words r (with_word area₁ w v) area₂ → Forms (on_made i m (λ f b. on_made j (k b) (λ h c. made (joined op f h) c))) w r' area area₂
  unfolding Forms on_made Keeps
  pair_result k i j v r r' q s t h = rw g.is (by (k g.atoms) s h)
    where
      cf : List ℕ
      cf = code_of g.formula

      by : (p : Made) → Keeps g.atoms p → Forms p mid.words r (with_word area₁ w v) area₂ → Forms (on_made j p (λ h c. made (joined op g.formula h) c)) w r' area area₂
      by (made h c) least x =
          let n : length (code_of (joined op g.formula h)) ≡ 1 + (length cf + length (code_of h)) = joined_length op g.formula h in
          let e : mid.words + length (code_of h) ≡ w + length (code_of (joined op g.formula h)) = omega (arith, g.count, n) in
          let u : v ≡ join_word op (length cf) = q ∙ ap (join_word op) (omega (arith, g.count)) in
          record {
            told = t ∙ rw x.told (ap (λ (i : ℕ). Ok (counts i (length c.locations) c.frees)) e);
            words = x.words ∙ rw (g.words, g.count, u, joined_code op g.formula h) (pair_words area.code w (join_word op (length cf)) cf (code_of h));
            rows = x.rows ∙ rw g.rows (sets_over area.sigs 0 g.atoms.locations c.locations least);
          }
      by (stopped d) least x = t ∙ rw x

-- ---- room for the calls

-- what is told of the first operand ties its atoms to the area
pub mid_tied : (m : Made) (w : ℕ) (mid : Counts) (area area' : Area) → (g : Mid m w mid area area') → mid.sigs ≤ length area.sigs → Tied g.atoms mid area'.sigs
mid_tied m w mid area area' g h =
    let e = g.sigs in
    let r : Rows g.atoms.locations (length g.atoms.locations) area'.sigs = rw g.rows (rows_after area.sigs g.atoms.locations (omega (arith, e, h))) in
    record { sigs = rw e r; frees = g.frees }

-- how much it added
pub mid_grown : (k n z : ℕ) (a : Atoms) (m : Made) (w : ℕ) (mid : Counts) (area area' : Area) (g : Mid m w mid area area') → Grows k n z a m → Grown k n a g.formula g.atoms
unfolding Grows
mid_grown k n z a m w mid area area' g s = rw g.is at s

-- what the first operand leaves is room for the second
pub room_mid : (e l r : Expr) (at : Counts) (mode : ℕ) (a : Atoms) (mid : Counts) (area area₁ : Area) → nodes_e e ≡ 1 + (nodes_e l + nodes_e r) → Tied a at area.sigs
    → Mid (translate mode l a) (at.words + 1) mid area area₁ → at.words + nodes_e e ≤ 2049 → at.sigs + nodes_e e ≤ 1024 → at.frees + nodes_e e ≤ 1024
    → (mid.words + nodes_e r ≤ 2049) × (mid.sigs + nodes_e r ≤ 1024) × (mid.frees + nodes_e r ≤ 1024)
room_mid e l r at mode a mid area area₁ k t g hw hs hf =
    let u = mid_grown (nodes_e l) (nodes_e l) (size_e l) a (translate mode l a) (at.words + 1) mid area area₁ g (grows mode l a) in
    (omega (arith, g.count, u.words, hw, k), omega (arith, g.sigs, u.sigs, t.sigs.count, hs, k), omega (arith, g.frees, u.frees, t.frees, hf, k))

pub sided_ready : (s : List ℕ) (at : Counts) (rows : List Location) → SidedReady s at rows → Ready s (one_more at) rows
sided_ready s at rows h =
    let r = h.ready in
    let t = r.tied in
    record { expr = r.expr; begins = r.begins; atoms = r.atoms; tied = record { sigs = t.sigs; frees = t.frees }; words = omega (arith, h.room); sigs = r.sigs; frees = r.frees }
