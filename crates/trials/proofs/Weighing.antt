-- Laws of the test of a place: the bounds, a path by its number, what paths weigh together, and the test itself.
use Prim.Native.Nat.{ℕ, zero, suc, ◌+◌, ◌-◌, ◌^◌, ◌≤◌, ◌<◌}
use mathlib.Core.Path.{◌≡◌, refl, sym, ap, ◌∙◌}
use mathlib.Core.Bool.{Bool, true, false, ◌&&◌}
use mathlib.Core.List.{List, [], ◌∷◌}
use native.Mathlib.Nat.{sub-zero}
use native.Mathlib.Omega.{arith}
use native.Mathlib.Numerals.{add-one}
use lib.ListN.{length, take, drop, get_or, length-map, drop_of_length-le}
use lib.Dec.{eqb, leb}
use lib.Pow.{pow_mono}
use borrow.Author.Tests.{lt-ltb, le-ltb, le-leb, lt-leb, eq-eqb, ne_eqb}
use Rattle.std.specs.Prelude.{Option, None, Some}
use Rattle.std.specs.Option.{unwrap_or}
use Rattle.std.proofs.lemmas.List.{take-map}
use Rattle.definition.specs.declared.Bounds.{Bounds}
use Rattle.definition.specs.declared.Place.{Place}
use Rattle.definition.specs.Bytes.{when◌then◌else◌}
use Rattle.definition.specs.Accepted.{Compiled}
use Rattle.definition.specs.Verdict.{bound, is_over}
use Rattle.definition.specs.Place.{under, assignments, spent, room, behind, fits}
use Rattle.trials.specs.declared.AtomCounts.{AtomCounts}
use Rattle.trials.specs.Facts.{counts_of, counts_in}
use Rattle.trials.specs.Weights.{tried_on, weight_of}

-- a bound is one of the two
pub bound_le : (b : Bounds) (q : ℕ) → b.free ≤ 26 → b.all ≤ 26 → bound b q ≤ 26
unfolding bound
bound_le b zero f a = f
bound_le b (suc q) f a = a

-- as many assignments as 26 atoms have
pub limit_le : (n : ℕ) → n ≤ 26 → 2 ^ n ≤ 67108864
limit_le n l = omega (arith, pow_mono {i = n} {j = 26} l)

-- ---- a path by its number

-- path i of ps, of which l says how many atoms each has, and the paths behind it
record At (ps : List Compiled) (l : List AtomCounts) (i : ℕ) : Type 0 where
  path : Compiled
  stands : drop i ps ≡ path ∷ drop (suc i) ps
  counts : (d : AtomCounts) → get_or l i d ≡ counts_of path

-- there is one at each number below their count
path_at : (ps : List Compiled) (l : List AtomCounts) → l ≡ counts_in ps → (i : ℕ) → i < length l → At ps l i
path_at ps l e i h = rw e (go ps i (rw (e, length-map) at h))
  where
    go : (ps : List Compiled) (i : ℕ) → i < length ps → At ps (counts_in ps) i
    go [] i h = absurd (omega arith)
    go (p ∷ ps) zero h = record { path = p; stands = refl; counts = λ d. refl }
    go (p ∷ ps) (suc i) h = let a = go ps i (omega arith) in record { path = a.path; stands = a.stands; counts = a.counts }

-- there is none past them
none_at : (ps : List Compiled) (l : List AtomCounts) → l ≡ counts_in ps → (i : ℕ) → length l ≤ i → drop i ps ≡ []
none_at ps l e i h = drop_of_length-le ps (rw (e, length-map) at h)

-- of the first i paths the first i of l say it
pub first_counts : (ps : List Compiled) (l : List AtomCounts) → l ≡ counts_in ps → (i : ℕ) → take (i - 0) l ≡ counts_in (take i ps)
first_counts ps l e i = rw (sub-zero, e) (take-map counts_of i ps)

-- there are as many
pub as_many : (ps : List Compiled) (l : List AtomCounts) → l ≡ counts_in ps → length l ≡ length ps
as_many ps l e = rw (e, length-map)

-- at a path, x being its assignments if it is not over its bound, there is room for as many masks
pub room_at_path : (b : Bounds) (q : ℕ) (ps : List Compiled) (l : List AtomCounts) → l ≡ counts_in ps → (i : ℕ) (d : AtomCounts) (x : Option ℕ) → i < length l → ((p : Compiled) → get_or l i d ≡ counts_of p → x ≡ tried_on b q p) → unwrap_or x 1 ≡ room b q (drop i ps)
unfolding room when◌then◌else◌
room_at_path b q ps l e i d x h t = let a = path_at ps l e i h in rw (t a.path (a.counts d), a.stands) (go (is_over b q a.path) _)
  where
    go : (o : Bool) (m : ℕ) → unwrap_or (elim o [ true ↦ None | false ↦ Some m ]) 1 ≡ (when o then 1 else m)
    go true m = refl
    go false m = refl

-- after the last path there is room for one
pub room_past : (b : Bounds) (q : ℕ) (ps : List Compiled) (l : List AtomCounts) → l ≡ counts_in ps → (i : ℕ) → length l ≤ i → 1 ≡ room b q (drop i ps)
unfolding room
room_past b q ps l e i h = rw (none_at ps l e i h)

-- ---- what paths weigh together

-- so many assignments more
abbrev pub plus : ℕ → Option ℕ → Option ℕ
plus n None = None
plus n (Some m) = Some (n + m)

plus_plus : (n m : ℕ) (x : Option ℕ) → plus n (plus m x) ≡ plus (n + m) x
plus_plus n m None = refl
plus_plus n m (Some k) = ap Some (omega arith)

-- none
pub plus_none : (x : Option ℕ) → x ≡ plus 0 x
plus_none None = refl
plus_none (Some k) = ap Some (omega arith)

-- a path, x being its assignments, with those that weigh y
abbrev with : Option ℕ → Option ℕ → Option ℕ
with None y = None
with (Some m) y = plus m y

-- a path and those behind it
weight_step : (b : Bounds) (q : ℕ) (p : Compiled) (ps : List Compiled) → weight_of b q (p ∷ ps) ≡ with (tried_on b q p) (weight_of b q ps)
unfolding weight_of under assignments when◌then◌else◌
weight_step b q p ps = go (is_over b q p) (under b q ps) _ _
  where
    go : (o u : Bool) (m n : ℕ) → ◌≡◌ {A = Option ℕ} (elim (when o then false else u) [ true ↦ Some (when o then 0 else m + n) | false ↦ None ]) (with (elim o [ true ↦ None | false ↦ Some m ]) (elim u [ true ↦ Some n | false ↦ None ]))
    go true u m n = refl
    go false true m n = refl
    go false false m n = refl

-- s was weighed before path i, of which x is known
module _ (b : Bounds) (q : ℕ) (ps : List Compiled) (l : List AtomCounts) (f : l ≡ counts_in ps) (i s : ℕ) (e : weight_of b q ps ≡ plus s (weight_of b q (drop i ps))) where
  module _ (d : AtomCounts) (x : Option ℕ) (h : i < length l) (t : (p : Compiled) → get_or l i d ≡ counts_of p → x ≡ tried_on b q p) where
    turned : weight_of b q ps ≡ plus s (with x (weight_of b q (drop (suc i) ps)))
    turned = let a = path_at ps l f i h in e ∙ ap (plus s) (rw (t a.path (a.counts d), a.stands) (weight_step b q a.path (drop (suc i) ps)))

    -- it is over its bound
    pub weighed_over : x ≡ None → None ≡ weight_of b q ps
    weighed_over o = sym (rw o at turned)

    -- it is not
    pub weighed_on : (m : ℕ) → x ≡ Some m → weight_of b q ps ≡ plus (s + m) (weight_of b q (drop (i + 1) ps))
    weighed_on m o = rw add-one ((rw o at turned) ∙ plus_plus s m (weight_of b q (drop (suc i) ps)))

  -- or there is none
  pub weighed_all : length l ≤ i → Some s ≡ weight_of b q ps
  unfolding weight_of under assignments
  weighed_all h = sym (e ∙ ap (λ (t : List Compiled). plus s (weight_of b q t)) (none_at ps l f i h) ∙ ap Some (omega arith))

-- ---- the test

-- what paths that weigh s tell
weighs_some : (b : Bounds) (q : ℕ) (ps : List Compiled) (s : ℕ) → Some s ≡ weight_of b q ps → (under b q ps ≡ true) × (s ≡ assignments b q ps)
unfolding weight_of
weighs_some b q ps s e = go (under b q ps) _ e
  where
    go : (u : Bool) (n : ℕ) → ◌≡◌ {A = Option ℕ} (Some s) (elim u [ true ↦ Some n | false ↦ None ]) → (u ≡ true) × (s ≡ n)
    go true n e = (refl, cc)
    go false n e = cc

-- and paths of which one is over its bound
weighs_none : (b : Bounds) (q : ℕ) (ps : List Compiled) → None ≡ weight_of b q ps → under b q ps ≡ false
unfolding weight_of
weighs_none b q ps e = go (under b q ps) _ e
  where
    go : (u : Bool) (n : ℕ) → ◌≡◌ {A = Option ℕ} None (elim u [ true ↦ Some n | false ↦ None ]) → u ≡ false
    go true n e = cc
    go false n e = refl

-- the paths before the place weigh s, r is the room on its own and c what was tried before: the count decides, if the mask has room
module _ (b : Bounds) (q : ℕ) (ps : List Compiled) (p : Place) (s r c : ℕ) (e : Some s ≡ weight_of b q (take p.path ps)) (f : r ≡ room b q (drop p.path ps)) (g : c + assignments b q (take p.path ps) ≡ spent b q p.path ps) where
  pub behind_counts : p.mask < r → behind b q ps p ≡ eqb p.count (c + s + p.mask)
  unfolding behind
  behind_counts l = let w = weighs_some b q (take p.path ps) s e in rw (w.0, ← f, lt-ltb p.mask r l, ← g, ← w.1)

  pub behind_full : r ≤ p.mask → behind b q ps p ≡ false
  unfolding behind
  behind_full l = let w = weighs_some b q (take p.path ps) s e in rw (w.0, ← f, le-ltb p.mask r l)

-- one of them is over its bound
pub behind_over : (b : Bounds) (q : ℕ) (ps : List Compiled) (p : Place) → None ≡ weight_of b q (take p.path ps) → behind b q ps p ≡ false
unfolding behind
behind_over b q ps p e = rw (weighs_none b q (take p.path ps) e)

module _ (b : Bounds) (ps : List Compiled) (p : Place) where
  -- in security, on a path
  pub fits_security : p.phase ≡ 0 → (n : ℕ) → n ≡ length ps → p.path < n → fits b ps p ≡ behind b p.phase ps p
  unfolding fits when◌then◌else◌
  fits_security z n e l = rw (eq-eqb p.phase 0 z, lt-ltb p.path (length ps) (omega arith), z)

  -- and past the last
  pub fits_past : p.phase ≡ 0 → (n : ℕ) → n ≡ length ps → n ≤ p.path → fits b ps p ≡ false
  unfolding fits when◌then◌else◌
  fits_past z n e l = rw (eq-eqb p.phase 0 z, ← e, le-ltb p.path n l)

  -- in liveness, where security passes every path
  pub fits_liveness : (s : ℕ) → p.phase ≡ 1 → Some s ≡ weight_of b 0 ps → (n : ℕ) → n ≡ length ps → p.path ≤ n → fits b ps p ≡ behind b p.phase ps p
  unfolding fits when◌then◌else◌
  fits_liveness s z e n f l = rw (z, (weighs_some b 0 ps s e).0, le-leb p.path (length ps) (omega arith))

  -- and past the place after the last
  pub fits_beyond : p.phase ≡ 1 → (n : ℕ) → n ≡ length ps → n < p.path → fits b ps p ≡ false
  unfolding fits when◌then◌else◌
  fits_beyond z n e l = rw (z, ← e, lt-leb p.path n l)

  -- where it does not
  pub fits_over : p.phase ≡ 1 → None ≡ weight_of b 0 ps → fits b ps p ≡ false
  unfolding fits when◌then◌else◌
  fits_over z e = rw (z, weighs_none b 0 ps e) (go (leb p.path (length ps)))
    where
      go : (l : Bool) → (l && false) ≡ false
      go true = refl
      go false = refl

  -- in no other phase
  pub fits_never : (p.phase ≡ 0 → ⊥) → (p.phase ≡ 1 → ⊥) → fits b ps p ≡ false
  unfolding fits when◌then◌else◌
  fits_never z y = rw (ne_eqb p.phase 0 z, ne_eqb p.phase 1 y)

  -- what stands before the place's path: in security nothing but the paths before it
  pub spent_security : p.phase ≡ 0 → 0 + assignments b p.phase (take p.path ps) ≡ spent b p.phase p.path ps
  unfolding spent
  spent_security z = rw z (omega arith)

  -- in liveness what the paths weigh in security too
  pub spent_liveness : (s : ℕ) → p.phase ≡ 1 → Some s ≡ weight_of b 0 ps → s + assignments b p.phase (take p.path ps) ≡ spent b p.phase p.path ps
  unfolding spent
  spent_liveness s z e = rw z (omega (arith, (weighs_some b 0 ps s e).1))

-- for the test
pub ruleset behinds = (le-ltb, first_counts, behind_counts, behind_full, behind_over)

pub ruleset fitting = (le-ltb, lt-leb, as_many, fits_security, fits_past, fits_liveness, fits_beyond, fits_over, fits_never, spent_security, spent_liveness)
