-- Every path, one by one: those that are told and what the definition makes of the paths that are left are together the whole.
use Rattle.std.specs.Prelude.{Ok, Err}
use Prim.Native.Nat.{ℕ, zero, suc, ◌+◌, ◌-◌, ◌≤◌, ◌<◌}
use mathlib.Core.Path.{◌≡◌, refl, sym, ap, ◌∙◌}
use mathlib.Core.List.{List, [], ◌∷◌, ◌++◌, map-append, append-nil}
use native.Mathlib.Omega.{arith}
use lib.ListN.{length, take, drop, set, length-map, length-append, length-drop, drop_of_length-le}
use lib.Seq.{sets, drop-drop, append_snoc}
use Rattle.definition.specs.declared.Fault.{Fault}
use Rattle.definition.specs.Tree.{Contract}
use Rattle.definition.specs.Fault.{Read, ◌>>=◌}
use Rattle.definition.specs.Reading.{read}
use Rattle.definition.specs.Paths.{Path, paths_b, pieces}
use Rattle.definition.specs.Formula.{no_atoms, path_formula}
use Rattle.definition.specs.Accepted.{Compiled, compiled, compile}
use Rattle.definition.proofs.Lists.{element_at}
use Rattle.definition.proofs.Steps.{same_got, step_got, on_got, on_bad}
use Rattle.paths.proofs.Lists.{sets_append}
use Rattle.trials.specs.declared.Facts.{Facts}
use Rattle.trials.specs.declared.AtomCounts.{AtomCounts}
use Rattle.trials.specs.Facts.{compiled_by, counts_of, counts_in, Within}
use Rattle.formula.specs.declared.Area.{Area}
use Rattle.survey.specs.declared.Sight.{Sight}
use Rattle.survey.specs.Sights.{Sees, Loads, Compiles}
use Rattle.survey.proofs.Loading.{Told, loads_told, loads_bad}

-- ---- steps
-- nothing is told yet
none_told : (r : Read (List Compiled)) → r ≡ (r >>= λ (cs : List Compiled). Ok ([] ++ cs))
unfolding ◌>>=◌
none_told (Ok cs) = refl
none_told (Err f) = refl

-- one more is told
more_told : (xs : List Compiled) (x : Compiled) (r : Read (List Compiled)) → ((r >>= λ (cs : List Compiled). Ok (x ∷ cs)) >>= λ (cs : List Compiled). Ok (xs ++ cs)) ≡ (r >>= λ (cs : List Compiled). Ok ((xs ++ (x ∷ [])) ++ cs))
unfolding ◌>>=◌
more_told xs x (Ok cs) = ap Ok (sym (append_snoc xs x cs))
more_told xs x (Err f) = refl

-- ---- the paths below i
-- these are told, their counts of atoms are stored, and with what comes of the paths that are left they are the whole
record Upto (mode : ℕ) (ps : List Path) (i : ℕ) (table table' : List AtomCounts) : Type 0 where
  told : List Compiled
  many : length told ≡ i
  left : compile mode ps ≡ (compile mode (drop i ps) >>= λ (cs : List Compiled). Ok (told ++ cs))
  counts : table' ≡ sets table 0 (counts_in told)

-- one more in the table
stored : (l l' : List AtomCounts) (xs : List Compiled) (x : Compiled) (i : ℕ) (v : AtomCounts) → length xs ≡ i → l' ≡ sets l 0 (counts_in xs) → v ≡ counts_of x → set l' i v ≡ sets l 0 (counts_in (xs ++ (x ∷ [])))
stored l l' xs x i v n e q =
    let k : 0 + length (counts_in xs) ≡ i = omega (arith, length-map xs counts_of, n) in
    rw (e, q, ← k, map-append counts_of xs (x ∷ [])) (sets_append l 0 (counts_in xs) (counts_of x ∷ []))

-- none
upto_none : (mode : ℕ) (ps : List Path) (table : List AtomCounts) → Upto mode ps 0 table table
upto_none mode ps table = record { told = []; many = refl; left = none_told (compile mode ps); counts = refl }

module _ (mode : ℕ) (ps : List Path) (i : ℕ) (table table' : List AtomCounts) (u : Upto mode ps i table table') where
  -- path i is p
  module _ (p : Path) (t : List Path) (d : drop i ps ≡ p ∷ t) where
    -- it is told too, and its counts are stored
    upto_more : (x : Compiled) → compiled p (path_formula mode (pieces p) no_atoms) ≡ Ok x → (v : AtomCounts) → v ≡ counts_of x → Upto mode ps (i + 1) table (set table' i v)
    unfolding compile
    upto_more x e v q =
        let rest : t ≡ drop (i + 1) ps = ap (drop 1) (sym d) ∙ drop-drop 1 i ps in
        let here : compile mode (drop i ps) ≡ (compile mode (drop (i + 1) ps) >>= λ (cs : List Compiled). Ok (x ∷ cs)) = rw (d, ← rest) (on_got _ _ x e) in
        record {
          told = u.told ++ (x ∷ []);
          many = length-append u.told (x ∷ []) ∙ ap (λ (n : ℕ). n + 1) u.many;
          left = u.left ∙ ap (λ (r : Read (List Compiled)). r >>= λ (cs : List Compiled). Ok (u.told ++ cs)) here ∙ more_told u.told x (compile mode (drop (i + 1) ps));
          counts = stored table table' u.told x i v u.many u.counts q;
        }

    -- or its fault is that of the whole
    upto_stops : (f : Fault) → compiled p (path_formula mode (pieces p) no_atoms) ≡ Err f → compile mode ps ≡ Err f
    unfolding compile
    upto_stops f e = u.left ∙ on_bad _ _ f (ap (compile mode) d ∙ on_bad _ _ f e)

  -- past the last one
  upto_all : length ps ≤ i → compile mode ps ≡ Ok u.told
  unfolding compile
  upto_all h = u.left ∙ on_got _ _ [] (ap (compile mode) (drop_of_length-le ps h)) ∙ ap Ok (append-nil u.told)

-- ---- one turn of the loop
-- the same of an image that was read
pub Reached : List ℕ → ℕ → List AtomCounts → List AtomCounts → Type 0
Reached s i table table' = (c : Contract) → read s ≡ Ok c → Upto c.mode (paths_b c.block 8) i table table'

-- before the first turn
pub turns_none : (s : List ℕ) (table : List AtomCounts) → Reached s 0 table table
unfolding Reached
turns_none s table = λ c e. upto_none _ _ table

module _ (s : List ℕ) (x : Sight) (g : Sees s x) (i : ℕ) (h : i < x.paths) (r : Read Facts) (area : Area)
    (told : (c : Contract) → read s ≡ Ok c → (p : Path) (ps : List Path) → drop i (paths_b c.block 8) ≡ p ∷ ps → Loads (compiled p (path_formula c.mode (pieces p) no_atoms)) r area) where
  -- there is a path i
  path_at : (c : Contract) → read s ≡ Ok c → (p : Path) × (ps : List Path) × (drop i (paths_b c.block 8) ≡ p ∷ ps)
  path_at c e = element_at (paths_b c.block 8) i (omega (arith, g.paths c e, h))

  module _ (y : Facts) (o : r ≡ Ok y) where
    -- it is made, with these facts
    turned : (c : Contract) (e : read s ≡ Ok c) → Told (compiled (path_at c e).0 (path_formula c.mode (pieces (path_at c e).0) no_atoms)) y area
    turned c e = let n = path_at c e in loads_told _ r area (told c e n.0 n.1 n.2) y o

    -- they are within the sizes, and its words are in the area, which is as long as before
    pub turn_within : Within y × (y.words ≤ 2049) × (length area.code ≡ 2049) × (length area.sigs ≡ 1024)
    turn_within = let k = turned g.walks.contract g.walks.is in (k.within, k.words, k.full, k.rows_full)

    -- its counts are stored
    pub turn_again : (table table' : List AtomCounts) → Reached s i table table' → (v : AtomCounts) → ((words : List ℕ) → v ≡ counts_of (compiled_by words y)) → Reached s (i + 1) table (set table' i v)
    unfolding Reached
    turn_again table table' u v q = λ c e.
        let n = path_at c e in
        let words = take y.words area.code in
        upto_more _ _ i table table' (u c e) n.0 n.1 n.2 (compiled_by words y) (turned c e).is v (q words)

  -- its fault is that of the whole
  pub turn_stops : (f : Fault) → r ≡ Err f → (table table' : List AtomCounts) → Reached s i table table' → (c : Contract) → read s ≡ Ok c → Compiles (compile c.mode (paths_b c.block 8)) x (Err f) table table'
  unfolding Compiles Reached
  turn_stops f o table table' u c e =
      let n = path_at c e in
      rw (upto_stops _ _ i table table' (u c e) n.0 n.1 n.2 f (loads_bad _ r area (told c e n.0 n.1 n.2) f o))

-- past the last path every one is told
pub turns_all : (s : List ℕ) (x : Sight) → Sees s x → (i : ℕ) → x.paths ≤ i → (table table' : List AtomCounts) → Reached s i table table' → (c : Contract) → read s ≡ Ok c → Compiles (compile c.mode (paths_b c.block 8)) x (Ok x) table table'
unfolding Compiles Reached
turns_all s x g i h table table' u c e =
    let k = u c e in
    rw (upto_all _ _ i table table' k (omega (arith, g.paths c e, h))) (record { told = refl; counts = k.counts })

-- ---- by number
-- path i of those that were compiled is what the definition makes of path i
pub compiled_at : (mode i : ℕ) (ps : List Path) (cs : List Compiled) (h : Compiled) (t : List Compiled) → compile mode ps ≡ Ok cs → drop i cs ≡ h ∷ t → (p : Path) × (qs : List Path) × (drop i ps ≡ p ∷ qs) × (compiled p (path_formula mode (pieces p) no_atoms) ≡ Ok h)
unfolding compile
compiled_at mode i [] cs h t e d =
    let n : suc (length t) ≡ length cs - i = sym (ap length d) ∙ length-drop i cs in
    absurd (omega (arith, n, ap length (same_got [] cs e)))
compiled_at mode zero (p ∷ ps) cs h t e d =
    let x = step_got _ _ _ e in
    let y = step_got _ _ _ x.2 in
    let k : x.0 ∷ y.0 ≡ h ∷ t = same_got _ cs y.2 ∙ d in
    let q : x.0 ≡ h = cc in
    (p, ps, refl, x.1 ∙ ap Ok q)
compiled_at mode (suc i) (p ∷ ps) cs h t e d =
    let x = step_got _ _ _ e in
    let y = step_got _ _ _ x.2 in
    compiled_at mode i ps y.0 h t y.1 (ap (drop (suc i)) (same_got (x.0 ∷ y.0) cs y.2) ∙ d)
