-- From a path's pieces to its truth: the words that are written for a path, read again, are the definition's formula. So what `evaluate` says
-- of them, with the number of Sig atoms that is told, is what the definition says of the path. For the crates above.
use Rattle.std.specs.Prelude.{Ok}
use Prim.Native.Nat.{ℕ, ◌≤◌}
use mathlib.Core.Path.{◌≡◌, sym, ap, ◌∙◌}
use mathlib.Core.Bool.{Bool}
use mathlib.Core.List.{List, [], append-nil}
use native.Mathlib.Nat.{zero-add}
use native.Mathlib.Omega.{arith}
use lib.ListN.{length, take}
use lib.Seq.{length-sets}
use Rattle.definition.specs.Paths.{Piece}
use Rattle.definition.specs.Formula.{Formula, Atoms, Made, made, no_atoms, path_formula, satisfies}
use Rattle.paths.proofs.Lists.{front}
use Rattle.evaluation.specs.Words.{code_of, formula_of}
use Rattle.evaluation.proofs.Decoding.{formula_of_code}
use Rattle.formula.specs.declared.Counts.{Counts}
use Rattle.formula.specs.declared.Area.{Area}
use Rattle.formula.specs.Areas.{Forms, Pieced, PathHolds}
use Rattle.formula.proofs.Growing.{PathGrows, path_grows}
use Rattle.formula.proofs.Results.{Formed, Mid, mid_of}

-- what a path makes: its formula and atoms, of which so much is told, and the words, from which the formula is read again
pub record PathMade (m : Made) (w : Counts) (words : List ℕ) : Type 0 where
  pub formula : Formula
  pub atoms : Atoms
  pub is : m ≡ made formula atoms
  pub sigs : w.sigs ≡ length atoms.locations
  pub frees : w.frees ≡ atoms.frees
  pub read : formula_of (take w.words words) ≡ formula

-- what `path_formula` tells is w
module _ (mode : ℕ) (s ws : List ℕ) (h : PathHolds s ws) (r : Formed) (w : Counts) (area area' : Area) (full : length area.code ≡ 2049)
    (told : (ps : List Piece) → Pieced s ws ps → Forms (path_formula mode ps no_atoms) 0 r area area') (o : r ≡ Ok w) where
  -- of any pieces that the words say
  module _ (ps : List Piece) (are : Pieced s ws ps) where
    abbrev the : Mid (path_formula mode ps no_atoms) 0 w area area'
    the = mid_of _ 0 r w area area' (told ps are) o

    abbrev words : List ℕ
    words = code_of the.formula

    many : w.words ≡ length words
    many = the.count ∙ zero-add (length words)

  -- how much it is at most, and the area has room for it
  pub path_fits : (w.words ≤ 2049) × (w.sigs ≤ 1024) × (w.frees ≤ 1024)
  unfolding PathGrows
  path_fits =
      let ps = h.pieces in
      let z = path_grows mode ps no_atoms in
      let u = rw (the ps h.are).is at z in
      (omega (arith, many ps h.are, u.words, h.many, h.nodes), omega (arith, (the ps h.are).sigs, u.sigs, h.nodes), omega (arith, (the ps h.are).frees, u.frees, h.nodes))

  pub path_room : w.words ≤ length area'.code
  path_room =
      let ps = h.pieces in
      let long : length area'.code ≡ 2049 = ap length (the ps h.are).words ∙ length-sets area.code 0 (words ps h.are) ∙ full in
      omega (arith, path_fits.0, long)

  pub path_made : (ps : List Piece) → Pieced s ws ps → PathMade (path_formula mode ps no_atoms) w area'.code
  path_made ps are =
      let m = the ps are in
      let n = many ps are in
      record {
        formula = m.formula;
        atoms = m.atoms;
        is = m.is;
        sigs = m.sigs;
        frees = m.frees;
        read =
            ap (λ (k : ℕ). formula_of (take k area'.code)) n
            ∙ ap (λ (l : List ℕ). formula_of (take (length (words ps are)) l)) m.words
            ∙ ap formula_of (front area.code (words ps are) (omega (arith, n, path_fits.0, full)) ∙ sym (append-nil (words ps are)))
            ∙ formula_of_code m.formula [];
      }

-- what `evaluate` says of the words is what the definition says of the path
pub path_truth : (m : Made) (w : Counts) (words : List ℕ) (g : PathMade m w words) (phase mask : ℕ) (r : Bool) → r ≡ satisfies (formula_of (take w.words words)) phase w.sigs mask → r ≡ satisfies g.formula phase (length g.atoms.locations) mask
path_truth m w ws g phase mask r e = e ∙ ap (λ (f : Formula). satisfies f phase w.sigs mask) g.read ∙ ap (λ (n : ℕ). satisfies g.formula phase n mask) g.sigs
