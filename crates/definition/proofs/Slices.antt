-- Slices, stops and restarts give the unstopped run: what a slice says at any place on the run.
use Prim.Native.Nat.{ℕ, zero, suc, ◌+◌, ◌-◌, ◌≤◌, ◌<◌}
use mathlib.Core.Path.{◌≡◌, refl, sym, ap, ◌∙◌}
use mathlib.Core.Bool.{true}
use mathlib.Core.List.{List}
use native.Mathlib.Omega.{arith}
use native.Mathlib.Decide.{dec_lt}
use lib.ListN.{drop}
use Rattle.definition.specs.declared.Bounds.{Bounds}
use Rattle.definition.specs.declared.Place.{Place}
use Rattle.definition.specs.declared.Outcome.{Outcome}
use Rattle.std.specs.declared.ops.ControlFlow.TheVariants.{Break, Continue}
use Rattle.definition.specs.Accepted.{Compiled}
use Rattle.definition.specs.Verdict.{unstopped}
use Rattle.definition.specs.Place.{start, Seen, stop, tries, view, Standing, not_yet, done, idle, slice, fits}
use Rattle.definition.proofs.Run.{enter_count, slice_stop, slice_zero, slice_ended, slice_next}
use Rattle.definition.proofs.Machine.{Leads, stops, ends, goes, Runs, here, next, look_stop, look_ended, look_next, runs_from, slice_ends, slice_goes_on, lead_on}
use Rattle.definition.proofs.Fitting.{Fits, fits_true, true_fits, fits_next, fits_start}
use Rattle.definition.proofs.Walk.{leads}

-- a place that the unstopped run comes by
abbrev pub OnRun : Bounds → List Compiled → Place → Type 0
OnRun b ps p = Runs b ps (start ps) p

runs_join : {b : Bounds} {ps : List Compiled} {p q r : Place} → Runs b ps p q → Runs b ps q r → Runs b ps p r
runs_join v here = v
runs_join v (next w e) = next (runs_join v w) e

module _ (b : Bounds) (ps : List Compiled) where
  start_count : (start ps).count ≡ 0
  unfolding start
  start_count = enter_count 0 0 0 ps

  -- what a slice of n, at a place p, has to say
  pub data Right (p : Place) (n : ℕ) (a : Standing) : Type 0 where
    not_yet_lem : (q : Place) → p.count + n < (unstopped b ps).total → a ≡ not_yet q → q.count ≡ p.count + n → OnRun b ps q → Right p n a
    the_end : (unstopped b ps).total ≤ p.count + n → a ≡ done (unstopped b ps).place (unstopped b ps) → Right p n a

  -- and it says so, at any place on the run
  pub right : (p : Place) → OnRun b ps p → (n : ℕ) → Right p n (slice b ps n p)
  right p w n = go (dec_lt (p.count + n) (unstopped b ps).total)
    where
      l : Leads b ps (unstopped b ps) p
      l = lead_on b ps (unstopped b ps) (leads b ps) w

      go : Dec (p.count + n < (unstopped b ps).total) → Right p n (slice b ps n p)
      go (yes h) = let g = slice_goes_on b ps (unstopped b ps) l n h in not_yet_lem g.at h g.is g.count (runs_join w g.runs)
      go (no h) = the_end (omega arith) (slice_ends b ps (unstopped b ps) l n (omega arith))

  -- from the start, a budget that reaches the total gives the unstopped outcome
  pub whole : (n : ℕ) → (unstopped b ps).total ≤ n → slice b ps n (start ps) ≡ done (unstopped b ps).place (unstopped b ps)
  whole n h = slice_ends b ps (unstopped b ps) (leads b ps) n (omega (arith, start_count))

  -- and a smaller one stands on the run, that many trials on
  pub part : (n : ℕ) → n < (unstopped b ps).total → (q : Place) × (slice b ps n (start ps) ≡ not_yet q) × (q.count ≡ n) × OnRun b ps q
  part n h = let g = slice_goes_on b ps (unstopped b ps) (leads b ps) n (omega (arith, start_count)) in (g.at, g.is, omega (arith, g.count, start_count), g.runs)

  runs_le : {s p : Place} → Runs b ps s p → s.count ≤ p.count
  runs_le here = omega arith
  runs_le {p = p} (next {q = q} w e) = omega (arith, look_next b ps q p (drop q.path ps) e, runs_le w)

  runs_slice : {s p : Place} → Runs b ps s p → (k n : ℕ) → p.count ≡ s.count + k → slice b ps n p ≡ slice b ps (k + n) s
  runs_slice {s} here k n e = let z : n ≡ k + n = omega arith in ap (λ (x : ℕ). slice b ps x s) z
  runs_slice {s} {p} (next {q = q} w e) k n c =
      let f = look_next b ps q p (drop q.path ps) e in
      let le = runs_le w in
      let z : (k - 1) + suc n ≡ k + n = omega arith in
      sym (slice_next b ps n q p e) ∙ runs_slice w (k - 1) (suc n) (omega arith) ∙ ap (λ (x : ℕ). slice b ps x s) z

  -- a slice at a place on the run is one from the start with the count added to its budget
  pub by_count : (p : Place) → OnRun b ps p → (n : ℕ) → slice b ps n p ≡ slice b ps (p.count + n) (start ps)
  by_count p w n = runs_slice w p.count n (omega (arith, start_count))

  idle_place : (s : Seen) (p : Place) → (idle s p).place ≡ p
  unfolding idle
  idle_place (stop o) p = refl
  idle_place (tries t) p = refl

  slice_0_place : (p : Place) → (slice b ps 0 p).place ≡ p
  unfolding slice
  slice_0_place p = idle_place (view b ps p) p

  -- the count tells the place
  pub one_place : (p q : Place) → OnRun b ps p → OnRun b ps q → p.count ≡ q.count → p ≡ q
  one_place p q v w e = sym (slice_0_place p) ∙ ap (λ (a : Standing). a.place) (by_count p v 0 ∙ ap (λ (n : ℕ). slice b ps (n + 0) (start ps)) e ∙ sym (by_count q w 0)) ∙ slice_0_place q

  lead_end : (o : Outcome) {p : Place} → Leads b ps o p → Runs b ps p o.place
  lead_end o {p} (stops e) = rw (look_stop b ps p o (drop p.path ps) e).1 here
  lead_end o {p} (ends e) = rw (look_ended b ps p o (drop p.path ps) e).1 here
  lead_end o {p} (goes e l) = runs_from b ps e (lead_end o l)

  -- the place of the end is on the run too
  pub end_on_run : OnRun b ps (unstopped b ps).place
  end_on_run = lead_end (unstopped b ps) (leads b ps)

  fits_runs : {p q : Place} → Fits b ps p → Runs b ps p q → Fits b ps q
  fits_runs f here = f
  fits_runs f (next {q = r} {r = s} w e) = fits_next b ps r s (fits_runs f w) e

  -- every place on the run fits
  pub on_run_fits : (p : Place) → OnRun b ps p → fits b ps p ≡ true
  on_run_fits p w = fits_true b ps p (fits_runs (fits_start b ps) w)

  slice_stays : (n : ℕ) (p : Place) → Fits b ps p → Fits b ps (slice b ps n p).place
  slice_stays zero p f = go (view b ps p) refl
    where
      go : (s : Seen) → view b ps p ≡ s → Fits b ps (slice b ps 0 p).place
      go (stop o) e = rw (slice_stop b ps 0 p o e) f
      go (tries t) e = rw (slice_zero b ps p t e) f
  slice_stays (suc n) p f = go (view b ps p) refl (slice_stays n)
    where
      go : (s : Seen) → view b ps p ≡ s → ((q : Place) → Fits b ps q → Fits b ps (slice b ps n q).place) → Fits b ps (slice b ps (suc n) p).place
      go (stop o) e ih = rw (slice_stop b ps (suc n) p o e) f
      go (tries (Break o)) e ih = rw (slice_ended b ps n p o e) f
      go (tries (Continue q)) e ih = rw (slice_next b ps n p q e) (ih q (fits_next b ps p q f e))

  -- a slice from any place that fits, on the run or not, leaves one that fits
  pub slice_fits : (n : ℕ) (p : Place) → fits b ps p ≡ true → fits b ps (slice b ps n p).place ≡ true
  slice_fits n p e = fits_true b ps (slice b ps n p).place (slice_stays n p (true_fits b ps p e))
