-- The laws of the unstopped run, of one trial and of a slice, one for each case of their definitions: what the theorems and the
-- code's proofs cite.
use Prim.Native.Nat.{ℕ, zero, suc, ◌+◌, ◌≤◌, ◌<◌}
use mathlib.Core.Path.{◌≡◌, refl, sym}
use mathlib.Core.Bool.{Bool, true, false}
use mathlib.Core.List.{List, [], ◌∷◌}
use lib.ListN.{length, drop, drop_of_length-le}
use lib.Dec.{ltb}
use borrow.Author.Tests.{lt-ltb, le-ltb}
use Rattle.definition.specs.declared.Bounds.{Bounds}
use Rattle.definition.specs.declared.Place.{Place}
use Rattle.definition.specs.declared.Outcome.{Outcome}
use Rattle.std.specs.declared.ops.ControlFlow.{ControlFlow}
use Rattle.std.specs.declared.ops.ControlFlow.TheVariants.{Break, Continue}
use Rattle.definition.specs.Bytes.{when◌then◌else◌}
use Rattle.definition.specs.Accepted.{Compiled}
use Rattle.definition.specs.Verdict.{place, outcome, masks, is_over, truth, over_verdict, found_verdict, finish, none, mask, least, ended, search}
use Rattle.definition.specs.Place.{enter, after, trial, stop, tries, look, view, not_yet, done, idle, moved, slice}

-- ---- the least mask

module _ (f : ℕ → Bool) (m k : ℕ) where
  -- the first mask satisfies
  pub least_here : f m ≡ true → least f m (suc k) ≡ mask m
  unfolding least
  least_here e = rw (e, least)

  -- the first mask does not
  pub least_on : f m ≡ false → least f m (suc k) ≡ least f (m + 1) k
  unfolding least
  least_on e = rw (e, least)

-- ---- one trial, of path h with the paths t after it

module _ (h : Compiled) (t : List Compiled) (p : Place) where
  -- the assignment satisfies: the end
  pub trial_ended : truth p.phase h p.mask ≡ true → trial h t p ≡ Break (outcome (found_verdict p.phase p.path h p.mask) p (p.count + 1))
  unfolding trial when◌then◌else◌
  trial_ended e = rw e

  -- it does not, and the path has more: the next mask
  pub trial_on : truth p.phase h p.mask ≡ false → p.mask + 1 < masks p.phase h → trial h t p ≡ Continue (place p.phase p.path (p.mask + 1) (p.count + 1))
  unfolding trial after when◌then◌else◌
  trial_on e l = rw (e, lt-ltb (p.mask + 1) (masks p.phase h) l)

  -- it does not, and was the last: the next path
  pub trial_last : truth p.phase h p.mask ≡ false → masks p.phase h ≤ p.mask + 1 → trial h t p ≡ Continue (enter p.phase (p.path + 1) (p.count + 1) t)
  unfolding trial after when◌then◌else◌
  trial_last e l = rw (e, le-ltb (p.mask + 1) (masks p.phase h) l)

-- ---- the search of a phase

module _ (b : Bounds) (q i c : ℕ) (h : Compiled) (t : List Compiled) where
  -- the first path is over its bound
  pub search_over : is_over b q h ≡ true → search b q i c (h ∷ t) ≡ ended (outcome (over_verdict q i h) (place q i 0 c) c)
  unfolding search
  search_over e = rw (e, search)

  -- the first path has a satisfying mask
  pub search_found : (m : ℕ) → is_over b q h ≡ false → least (truth q h) 0 (masks q h) ≡ mask m → search b q i c (h ∷ t) ≡ ended (outcome (found_verdict q i h m) (place q i m (c + m)) (c + m + 1))
  unfolding search
  search_found m e l = rw (e, l, search)

  -- the first path has none: the search of the rest
  pub search_none : is_over b q h ≡ false → least (truth q h) 0 (masks q h) ≡ none → search b q i c (h ∷ t) ≡ search b q (i + 1) (c + masks q h) t
  unfolding search
  search_none e l = rw (e, l, search)

-- ---- entering a path, and what stands next

-- where there is a path, it is entered in the same phase
pub enter_cons : (q i c : ℕ) (h : Compiled) (t : List Compiled) → enter q i c (h ∷ t) ≡ place q i 0 c
unfolding enter
enter_cons zero i c h t = refl
enter_cons (suc q) i c h t = refl

module _ (b : Bounds) (all : List Compiled) (p : Place) where
  -- no path is left
  pub view_last : drop p.path all ≡ [] → view b all p ≡ stop (outcome (finish all) p p.count)
  unfolding look
  view_last d = rw d

  -- the path is over its bound
  pub view_over : (h : Compiled) (t : List Compiled) → drop p.path all ≡ h ∷ t → is_over b p.phase h ≡ true → view b all p ≡ stop (outcome (over_verdict p.phase p.path h) p p.count)
  unfolding look when◌then◌else◌
  view_over h t d e = rw (d, e)

  -- the path is not: one trial
  pub view_tries : (h : Compiled) (t : List Compiled) → drop p.path all ≡ h ∷ t → is_over b p.phase h ≡ false → view b all p ≡ tries (trial h t p)
  unfolding look when◌then◌else◌
  view_tries h t d e = rw (d, e)

either_count : (x : Bool) (p q : Place) (n : ℕ) → p.count ≡ n → q.count ≡ n → (when x then p else q).count ≡ n
unfolding when◌then◌else◌
either_count true p q n a b = a
either_count false p q n a b = b

-- entering a path counts nothing
pub enter_count : (q i c : ℕ) (l : List Compiled) → (enter q i c l).count ≡ c
unfolding enter
enter_count zero i c [] = refl
enter_count zero i c (p ∷ ps) = refl
enter_count (suc q) i c l = refl

-- every path is entered at mask 0
pub enter_mask : (q i c : ℕ) (l : List Compiled) → (enter q i c l).mask ≡ 0
unfolding enter
enter_mask zero i c [] = refl
enter_mask zero i c (p ∷ ps) = refl
enter_mask (suc q) i c l = refl

-- an assignment counts one
pub after_count : (h : Compiled) (t : List Compiled) (p : Place) → (after h t p).count ≡ p.count + 1
unfolding after
after_count h t p = either_count (ltb (p.mask + 1) (masks p.phase h)) (place p.phase p.path (p.mask + 1) (p.count + 1)) (enter p.phase (p.path + 1) (p.count + 1) t) (p.count + 1) refl
    (enter_count p.phase (p.path + 1) (p.count + 1) t)

-- ---- slices

module _ (b : Bounds) (ps : List Compiled) where
  -- an end without a trial needs no budget
  pub slice_stop : (n : ℕ) (p : Place) (o : Outcome) → view b ps p ≡ stop o → slice b ps n p ≡ done p o
  unfolding slice idle moved
  slice_stop zero p o e = rw e
  slice_stop (suc n) p o e = rw e

  -- a trial needs budget
  pub slice_zero : (p : Place) (t : ControlFlow Outcome Place) → view b ps p ≡ tries t → slice b ps 0 p ≡ not_yet p
  unfolding slice idle
  slice_zero p t e = rw e

  -- the trial is the end
  pub slice_ended : (n : ℕ) (p : Place) (o : Outcome) → view b ps p ≡ tries (Break o) → slice b ps (suc n) p ≡ done p o
  unfolding slice moved
  slice_ended n p o e = rw e

  -- the trial is not the end: the rest of the budget, from the next place
  pub slice_next : (n : ℕ) (p q : Place) → view b ps p ≡ tries (Continue q) → slice b ps (suc n) p ≡ slice b ps n q
  unfolding slice moved
  slice_next n p q e = rw e

-- ---- for code: the ends without a trial, with n trials left at place p
module _ (b : Bounds) (ps : List Compiled) (n : ℕ) (p : Place) where
  -- the place is past the last path
  pub slice_finished : length ps ≤ p.path → done p (outcome (finish ps) p p.count) ≡ slice b ps n p
  slice_finished h = sym (slice_stop b ps n p (outcome (finish ps) p p.count) (view_last b ps p (drop_of_length-le ps h)))

  -- the path of the place is over its bound
  pub slice_over : (h : Compiled) (t : List Compiled) → drop p.path ps ≡ h ∷ t → is_over b p.phase h ≡ true → done p (outcome (over_verdict p.phase p.path h) p p.count) ≡ slice b ps n p
  slice_over h t d u = sym (slice_stop b ps n p (outcome (over_verdict p.phase p.path h) p p.count) (view_over b ps p h t d u))
