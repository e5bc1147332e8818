-- One path: from what its formula's translation tells and leaves to what is told of the path, and back.
use Rattle.std.specs.Prelude.{Result, Ok, Err, MatchResult}
use Rattle.std.specs.Result.{IsErrAnd}
use Prim.Native.Nat.{ℕ, ◌-◌, ◌≤◌, ◌<◌}
use mathlib.Core.Path.{◌≡◌, refl, sym, ap, ◌∙◌}
use mathlib.Core.Bool.{Bool}
use mathlib.Core.List.{List, ◌∷◌, map}
use native.Mathlib.Nat.{sub-zero}
use lib.ListN.{length, take, drop}
use lib.Seq.{sets, length-sets}
use Rattle.definition.specs.declared.Location.{Location}
use Rattle.definition.specs.declared.Fault.{Fault}
use Rattle.definition.specs.declared.Kind.TheVariants.{Overflows}
use Rattle.definition.specs.Bytes.{Bytes}
use Rattle.definition.specs.Tree.{Contract}
use Rattle.definition.specs.Fault.{Read, fault}
use Rattle.definition.specs.Reading.{read}
use Rattle.definition.specs.Paths.{Piece, Path, paths_b, pieces, any_checksig}
use Rattle.definition.specs.Formula.{Formula, Atoms, Made, made, stopped, no_atoms, path_formula}
use Rattle.definition.specs.Accepted.{Compiled, compiled}
use Rattle.evaluation.specs.Words.{formula_of}
use Rattle.paths.specs.declared.Gathered.{Gathered}
use Rattle.paths.specs.Gathering.{word, gathered, Asked}
use Rattle.paths.proofs.Whole.{counted_asked}
use Rattle.trials.specs.declared.Facts.{Facts}
use Rattle.trials.specs.Facts.{compiled_by, Within}
use Rattle.formula.specs.declared.Counts.{Counts}
use Rattle.formula.specs.declared.Overflow.{Overflow}
use Rattle.formula.specs.declared.Area.{Area}
use Rattle.formula.specs.Areas.{Forms, Pieced, PathHolds}
use Rattle.formula.proofs.Holding.{enumerated_pieced}
use Rattle.formula.proofs.Results.{mid_of}
use Rattle.formula.proofs.Truth.{path_made, path_fits}
use Rattle.survey.specs.declared.Sight.{Sight}
use Rattle.survey.specs.Sights.{Sees, Loads}

-- the facts of a path of which so much is written
abbrev facts_of : Counts → Bool → Location → Facts
facts_of w b l = record { words = w.words; sigs = w.sigs; frees = w.frees; signed = b; location = l }

-- a translation that tells of an overflow has one there
stopped_at : (m : Made) (o : Overflow) (r : Result Counts Overflow) (area area' : Area) → Forms m 0 r area area' → r ≡ Err o → m ≡ stopped o.at
unfolding Forms
stopped_at (made f a) o r area area' g e = let t = g.told in cc
stopped_at (stopped x) o r area area' g e = let k : record { at = x } ≡ o = cc in ap (λ (o : Overflow). stopped o.at) k

-- facts that are those of a path, and words that say its formula, stand for it
stands : (p : Path) (f : Formula) (a : Atoms) (words : List ℕ) (x : Facts) → formula_of words ≡ f → x.sigs ≡ length a.locations → x.frees ≡ a.frees → x.signed ≡ any_checksig (pieces p) → p.location ≡ x.location → compiled p (made f a) ≡ Ok (compiled_by words x)
unfolding compiled
stands p f a words x formula sigs frees signed location = rw (formula, sigs, frees, signed, location)

module _ (mode : ℕ) (s ws : List ℕ) (h : PathHolds s ws) (r : Result Counts Overflow) (area area' : Area) (told : (ps : List Piece) → Pieced s ws ps → Forms (path_formula mode ps no_atoms) 0 r area area') where
  -- an overflow is the path's fault
  pub load_stops : (o : Overflow) → r ≡ Err o → (x : Fault) → x ≡ fault Overflows o.at o.at → (p : Path) → Pieced s ws (pieces p) → Loads (compiled p (path_formula mode (pieces p) no_atoms)) (Err x) area'
  unfolding Loads compiled
  load_stops o e x k p are = rw (stopped_at _ o r area area' (told (pieces p) are) e) (ap Err k)

  -- else the words at the front of the area are the path's, with its facts; the other list may have any length
  pub loads_words : length area.code ≡ 2049 → (w : Counts) → r ≡ Ok w → (b : Bool) → ((ps : List Piece) → Pieced s ws ps → b ≡ any_checksig ps) → (l : Location) (p : Path) → Pieced s ws (pieces p) → p.location ≡ l
      → (compiled p (path_formula mode (pieces p) no_atoms) ≡ Ok (compiled_by (take w.words area'.code) (facts_of w b l))) × (w.words ≤ 2049) × (length area'.code ≡ 2049) × Within (facts_of w b l)
  unfolding compiled
  loads_words full w o b signed l p are e =
      let m = mid_of _ 0 r w area area' (told (pieces p) are) o in
      let g = path_made mode s ws h r w area area' full told o (pieces p) are in
      let k = path_fits mode s ws h r w area area' full told o in
      rw g.is (
        stands p g.formula g.atoms _ (facts_of w b l) g.read g.sigs g.frees (signed (pieces p) are) e,
        k.0,
        rw (m.words, length-sets) full,
        record { sigs = k.1; frees = k.2 },
      )

  -- the path is told, with both lengths
  pub loads : length area.code ≡ 2049 → length area.sigs ≡ 1024 → (w : Counts) → r ≡ Ok w → (b : Bool) → ((ps : List Piece) → Pieced s ws ps → b ≡ any_checksig ps)
      → (l : Location) (p : Path) → Pieced s ws (pieces p) → p.location ≡ l → Loads (compiled p (path_formula mode (pieces p) no_atoms)) (Ok (facts_of w b l)) area'
  unfolding Loads
  loads full rows w o b signed l p are e =
      let m = mid_of _ 0 r w area area' (told (pieces p) are) o in
      let k = loads_words full w o b signed l p are e in
      rw k.0 (record {
        facts = facts_of w b l;
        told = refl;
        is = refl;
        words = k.1;
        full = k.2;
        rows_full = rw (m.rows, length-sets) rows;
        within = k.3;
      })

-- what was told before its error was mapped
pub mapped_got : {A E D : Type 0} (r : Result A E) (q : Result A D) (P : E → D → Type 0) → MatchResult r (λ x. q ≡ Ok x) (λ e. IsErrAnd q (P e)) → (x : A) → q ≡ Ok x → r ≡ Ok x
mapped_got (Ok y) q P m x e = let k : ◌≡◌ {A = Result _ _} (Ok y) (Ok x) = sym m ∙ e in cc
mapped_got (Err d) q P m x e = absurd (rw e at m)

pub mapped_bad : {A E D : Type 0} (r : Result A E) (q : Result A D) (P : E → D → Type 0) → MatchResult r (λ x. q ≡ Ok x) (λ e. IsErrAnd q (P e)) → (d : D) → q ≡ Err d → (e : E) × (r ≡ Err e) × P e d
mapped_bad (Ok y) q P m d e = let k : ◌≡◌ {A = Result _ _} (Ok y) (Err d) = sym m ∙ e in cc
mapped_bad (Err f) q P m d e = (f, refl, rw e at m)

-- ---- back
-- the facts x and the words at the front of the area are those of the path m, and the area is as long as before
pub record Told (m : Read Compiled) (x : Facts) (area : Area) : Type 0 where
  pub is : m ≡ Ok (compiled_by (take x.words area.code) x)
  pub within : Within x
  pub words : x.words ≤ 2049
  pub full : length area.code ≡ 2049
  pub rows_full : length area.sigs ≡ 1024

-- where facts are told, they are
pub loads_told : (m : Read Compiled) (r : Read Facts) (area : Area) → Loads m r area → (x : Facts) → r ≡ Ok x → Told m x area
unfolding Loads
loads_told (Ok p) r area l x e =
    let t = l.told in
    let z : l.facts ≡ x = cc in
    let k : Told (Ok p) l.facts area = record { is = ap Ok (sym l.is); within = l.within; words = l.words; full = l.full; rows_full = l.rows_full } in
    rw z at k
loads_told (Err f) r area l x e = cc

-- a fault that is told is the path's
pub loads_bad : (m : Read Compiled) (r : Read Facts) (area : Area) → Loads m r area → (f : Fault) → r ≡ Err f → m ≡ Err f
unfolding Loads
loads_bad (Ok p) r area l f e = let t = l.told in cc
loads_bad (Err g) r area l f e = cc

-- ---- the wanted path of an image
-- each path below the count can be asked for
pub sees_asked : (s : List ℕ) (x : Sight) → Sees s x → (wanted : ℕ) → wanted < x.paths → Asked s x.top wanted
sees_asked s x g wanted h = counted_asked s x.top x.paths g.walks g.paths wanted h

-- what is told of the pieces that `enumerate` left is told of the path
pub path_loads : (s : List ℕ) (x : Sight) → Bytes s → (g : Sees s x) (wanted : ℕ) → wanted < x.paths → (n : Gathered) (area area' : List ℕ) → length area ≡ 512
    → ((c : Contract) → read s ≡ Ok c → (p : Path) (ps : List Path) → drop wanted (paths_b c.block 8) ≡ p ∷ ps → (n ≡ gathered p) × (area' ≡ sets area 0 (map word (pieces p))))
    → (r : Read Facts) (work : Area) → ((p : Path) → Pieced s (take (n.pieces - 0) area') (pieces p) → p.location ≡ n.location → Loads (compiled p (path_formula x.mode (pieces p) no_atoms)) r work)
    → (c : Contract) → read s ≡ Ok c → (p : Path) (ps : List Path) → drop wanted (paths_b c.block 8) ≡ p ∷ ps → Loads (compiled p (path_formula c.mode (pieces p) no_atoms)) r work
unfolding gathered
path_loads s x w g wanted h n area area' full told r work k c e p ps d =
    let are = enumerated_pieced s x.top wanted w (sees_asked s x g wanted h) n area area' full told c e p ps d in
    let located : p.location ≡ n.location = sym (ap (λ (y : Gathered). y.location) (told c e p ps d).0) in
    rw (← g.mode c e) (k p (rw sub-zero are) located)
