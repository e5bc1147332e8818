-- One path of an image, by its number: its facts, and what is said of them; whether it can be satisfied, by the loop over it from mask 0 on.
use Rattle.std.specs.Prelude.{Ok, Err, Option, None, Some}
use Prim.Native.Nat.{ℕ, ◌+◌, ◌-◌, ◌≤◌, ◌<◌}
use mathlib.Core.Path.{◌≡◌, refl, sym, ap, ◌∙◌}
use mathlib.Core.Bool.{false}
use mathlib.Core.List.{List, [], ◌∷◌}
use native.Mathlib.Omega.{arith}
use lib.ListN.{length, take, drop, length-take}
use lib.Pow.{pow_pos}
use Rattle.definition.specs.declared.Bounds.{Bounds}
use Rattle.definition.specs.declared.Fault.{Fault}
use Rattle.definition.specs.declared.Kind.TheVariants.{NoSuchPath}
use Rattle.definition.specs.declared.Outcome.{Outcome}
use Rattle.definition.specs.declared.Place.{Place}
use Rattle.definition.specs.declared.Satisfiable.{Satisfiable}
use Rattle.definition.specs.Tree.{Contract}
use Rattle.definition.specs.Fault.{Read, fault}
use Rattle.definition.specs.Table.{refusal_of}
use Rattle.definition.specs.Reading.{read}
use Rattle.definition.specs.Paths.{Path, paths_b, pieces}
use Rattle.definition.specs.Formula.{no_atoms, path_formula}
use Rattle.definition.specs.Accepted.{Compiled, compiled, path_of, counted, count_paths, path_atoms, numbered, path_free_atoms}
use Rattle.definition.specs.Verdict.{Found, place, atoms, masks, is_over, found, queried, satisfiable}
use Rattle.definition.proofs.Lists.{element_at}
use Rattle.definition.proofs.Acceptance.{path_is, no_path, path_refused}
use Rattle.trials.specs.declared.Facts.{Facts}
use Rattle.trials.specs.declared.Leg.{Leg}
use Rattle.trials.specs.Facts.{compiled_by}
use Rattle.trials.specs.Legs.{Stretch, leg_of}
use Rattle.trials.specs.Weights.{tried_on}
use Rattle.trials.proofs.Legs.{found_by, leg_least}
use Rattle.survey.specs.declared.Sight.{Sight}
use Rattle.formula.specs.declared.Area.{Area}
use Rattle.survey.specs.Sights.{sight_of, Loads}
use Rattle.survey.proofs.Loading.{Told, loads_told, loads_bad}
use Rattle.survey.proofs.Sighting.{sighted, faulty, routed}
use Rattle.examiner.specs.Standing.{Fair}
use Rattle.examiner.proofs.Judging.{tried_over, tried_under, tried_few}

-- ---- how many paths an image has

-- an image's fault
pub count_refused : (s : List ℕ) (f : Fault) → Err f ≡ sight_of s → Err (refusal_of f) ≡ count_paths s
unfolding count_paths counted
count_refused s f e = rw (faulty s f e)

-- an image that is accepted
pub count_told : (s : List ℕ) (x : Sight) → Ok x ≡ sight_of s → Ok x.paths ≡ count_paths s
unfolding count_paths counted
count_told s x e = let g = sighted s x e in ap Ok g.count ∙ sym (ap counted g.is)

-- ---- path i of the image s

module _ (s : List ℕ) (i : ℕ) (area : Area) where
  -- a fault of the path
  fault_loads : (f : Fault) → path_of i s ≡ Err f → Loads (path_of i s) (Err f) area
  unfolding Loads
  fault_loads f e = rw e refl

  -- an image's fault
  pub unrouted : (f : Fault) → Err f ≡ sight_of s → Loads (path_of i s) (Err f) area
  unrouted f e = fault_loads f (path_refused s f (faulty s f e) i)

  -- "path number not below the path count"
  pub none_routed : (x : Sight) → Ok x ≡ sight_of s → x.paths ≤ i → Loads (path_of i s) (Err (fault NoSuchPath 0 0)) area
  none_routed x e h = let g = sighted s x e in fault_loads _ (no_path s g.paths g.is i (omega (arith, g.count)))

  -- a path that is told is the image's
  pub path_routed : (x : Sight) → Ok x ≡ sight_of s → i < x.paths → (r : Read Facts)
      → ((c : Contract) → read s ≡ Ok c → (p : Path) (ps : List Path) → drop i (paths_b c.block 8) ≡ p ∷ ps → Loads (compiled p (path_formula c.mode (pieces p) no_atoms)) r area)
      → Loads (path_of i s) r area
  unfolding Loads
  path_routed x e h r told =
      let g = sighted s x e in
      let n = element_at g.paths i (omega (arith, g.count)) in
      rw (path_is s g.paths g.is i n.0 n.1 n.2) (routed s x g g.paths g.is i n.0 n.1 n.2 r area told)

-- ---- a path that was asked for

-- the words are no more than the area
pub few_words : {m : Read Compiled} (x : Facts) (area : Area) → Told m x area → length (take x.words area.code) ≤ 2049
few_words x area t = omega (arith, t.words, length-take x.words area.code)

module _ (s : List ℕ) (i : ℕ) (r : Read Facts) (area : Area) (l : Loads (path_of i s) r area) where
  -- a fault of it is what is said of its atoms, and of its masks
  pub atoms_refused : (f : Fault) → r ≡ Err f → Err (refusal_of f) ≡ path_free_atoms s i
  unfolding path_free_atoms numbered
  atoms_refused f e = rw (loads_bad _ r area l f e)

  pub query_refused : (b : Bounds) (q : ℕ) (f : Fault) → r ≡ Err f → Err (refusal_of f) ≡ satisfiable b q s i
  unfolding satisfiable queried
  query_refused b q f e = rw (loads_bad _ r area l f e)

  -- its atoms are those of the facts
  pub atoms_told : (x : Facts) → r ≡ Ok x → Ok (path_atoms x.sigs x.frees) ≡ path_free_atoms s i
  unfolding path_free_atoms numbered
  atoms_told x e = rw (loads_told _ r area l x e).is

  -- and its masks those of the facts and the words
  pub query_told : (b : Bounds) (q : ℕ) (x : Facts) → r ≡ Ok x → (a : Satisfiable) → Ok a ≡ queried b q (Ok (compiled_by (take x.words area.code) x)) → Ok a ≡ satisfiable b q s i
  unfolding satisfiable
  query_told b q x e a k = rw (loads_told _ r area l x e).is k

-- ---- whether a path can be satisfied

-- m are the path's assignments, if it is not over its bound
module _ (b : Bounds) (q : ℕ) (code : List ℕ) (x : Facts) (m : Option ℕ) (e : m ≡ tried_on b q (compiled_by code x)) where
  -- "over its bound"
  pub query_over : m ≡ None → Ok Satisfiable.OverBound ≡ queried b q (Ok (compiled_by code x))
  unfolding queried
  query_over h = rw (tried_over b q (compiled_by code x) (sym h ∙ e), queried)

  -- not over it: so many assignments, from the first one on
  module _ (limit : ℕ) (h : m ≡ Some limit) where
    tried : (is_over b q (compiled_by code x) ≡ false) × (limit ≡ masks q (compiled_by code x))
    tried = tried_under b q (compiled_by code x) limit (sym h ∙ e)

    -- the loop over them can be run
    pub query_stretch : Fair b → length code ≤ 2049 → Stretch code x limit 1 (place q 0 0 0)
    query_stretch f w = record {
      ready = record { words = w; limit_is = tried.1; mask = omega (arith, tried.1, pow_pos (atoms q (compiled_by code x))); count = omega arith; path = omega arith; few = omega arith };
      counts = omega (arith, (tried_few b q (compiled_by code x) f limit (sym h ∙ e)).2);
    }

    module _ (r : Leg) (g : (rest : List Compiled) → 1 ≡ 0 + 1 + length rest → r ≡ leg_of (compiled_by code x) rest limit (place q 0 0 0)) where
      -- the loop over them finds the first that satisfies
      query_loop : Ok (found (found_by r)) ≡ queried b q (Ok (compiled_by code x))
      unfolding queried
      query_loop =
          let c = compiled_by code x in
          rw (tried.0, queried) (ap (λ (y : Found). Ok (found y)) (ap found_by (g [] refl) ∙ leg_least c [] limit q 0 0 (omega (arith, tried.1))))

      -- it ends with one
      pub query_ended : (o : Outcome) → r ≡ Leg.Ended o → Ok (Satisfiable.Mask o.place.mask) ≡ queried b q (Ok (compiled_by code x))
      unfolding found found_by
      query_ended o i = rw i at query_loop

      -- or none
      pub query_open : (a : Place) → r ≡ Leg.Open a → Ok Satisfiable.Never ≡ queried b q (Ok (compiled_by code x))
      unfolding found found_by
      query_open a i = rw i at query_loop

      pub query_on : (a : Place) (left : ℕ) → r ≡ Leg.On a left → Ok Satisfiable.Never ≡ queried b q (Ok (compiled_by code x))
      unfolding found found_by
      query_on a left i = rw i at query_loop
