-- What is known of an image and a place: from what is told of both to what is said of them, and, for callers, back.
use Rattle.std.specs.Prelude.{Ok, Err, None, Some}
use Prim.Native.Nat.{ℕ, ◌≤◌}
use mathlib.Core.Path.{◌≡◌, refl, sym, ap, ◌∙◌}
use mathlib.Core.Bool.{Bool, true, false}
use mathlib.Core.List.{List}
use native.Mathlib.Omega.{arith}
use lib.ListN.{length, take, length-map}
use lib.Seq.{sets}
use borrow.Author.Tests.{ltb-false}
use Rattle.definition.specs.declared.Bounds.{Bounds}
use Rattle.definition.specs.declared.Fault.{Fault}
use Rattle.definition.specs.declared.Kind.TheVariants.{CheckpointPlace}
use Rattle.definition.specs.declared.Place.{Place}
use Rattle.definition.specs.Fault.{Read, fault}
use Rattle.definition.specs.Accepted.{Compiled}
use Rattle.definition.specs.Verdict.{the_bounds, atoms, bound, masks, is_over}
use Rattle.definition.specs.Place.{fits, fitting}
use Rattle.definition.proofs.Steps.{bad_got, same_got, same_bad, step_got, on_got, on_bad}
use Rattle.definition.proofs.Acceptance.{accepted_few}
use Rattle.definition.proofs.Keeping.{fitting_is, fitting_refused, fitting_unfit, fitting_inv}
use Rattle.paths.proofs.Lists.{front}
use Rattle.trials.specs.declared.AtomCounts.{AtomCounts}
use Rattle.trials.specs.Facts.{counts_in}
use Rattle.trials.specs.Weights.{tried_on}
use Rattle.trials.proofs.Weighing.{bound_le, limit_le}
use Rattle.survey.specs.declared.Sight.{Sight}
use Rattle.survey.specs.Sights.{sight_of, Sighted, Stored}
use Rattle.survey.proofs.Sighting.{sighted, faulty}
use Rattle.examiner.specs.Answers.{judge_of}
use Rattle.examiner.specs.Standing.{Fair, Judged}

-- the bounds are fair
pub fair : (b : Bounds) → b ≡ the_bounds → Fair b
fair b e = rw e (record { free = omega arith; all = omega arith })

-- no phase takes on more atoms
pub bound_few : (b : Bounds) → Fair b → (q : ℕ) → bound b q ≤ 26
bound_few b f q = bound_le b q f.free f.all

-- ---- for callers
-- a sight that is told is that of an image that is accepted, and the place fits it
pub judged : (b : Bounds) (s : List ℕ) (x : Sight) (p : Place) → Ok x ≡ judge_of b s p → Judged b s x p
judged b s x p e =
    let i = step_got (fitting b s p) (λ ps. sight_of s) x (sym e) in
    let g = sighted s x (sym i.2) in
    let f = fitting_inv b s p i.0 i.1 in
    record { sight = g; fitting = rw (same_got i.0 g.paths (sym f.0 ∙ g.is)) at f.1 }

-- a fault that is told is what the place comes to on the image
pub unjudged : (b : Bounds) (s : List ℕ) (f : Fault) (p : Place) → Err f ≡ judge_of b s p → fitting b s p ≡ Err f
unjudged b s f p e = by (fitting b s p) refl
  where
    by : (m : Read (List Compiled)) → fitting b s p ≡ m → fitting b s p ≡ Err f
    by (Ok ps) q = bad_got f ps (sym (faulty s f (e ∙ on_got _ _ ps q)) ∙ (fitting_inv b s p ps q).0)
    by (Err g) q = q ∙ ap Err (same_bad g f (sym (on_bad _ _ g q) ∙ sym e))

-- an image of which something is known has at most 128 paths
pub sighted_few : (s : List ℕ) (x : Sight) → Sighted s x → x.paths ≤ 128
sighted_few s x g = omega (arith, g.count, accepted_few s g.paths g.is)

-- ---- what is said: the image's fault
pub judge_faulty : (b : Bounds) (s : List ℕ) (p : Place) (f : Fault) → Err f ≡ sight_of s → Err f ≡ judge_of b s p
judge_faulty b s p f e = sym (on_bad _ _ f (fitting_refused b s p f (faulty s f e)))

-- the front of a table to which the counts of all the paths were written
counts_front : (n : ℕ) (ps : List Compiled) (table table' : List AtomCounts) → n ≡ length ps → n ≤ length table → table' ≡ sets table 0 (counts_in ps) → take n table' ≡ counts_in ps
counts_front n ps table table' e h q =
    let k : n ≡ length (counts_in ps) = e ∙ sym (length-map ps _) in
    rw (q, k) (front table (counts_in ps) (omega (arith, k, h)))

-- ---- x is known of the image, and `survey` left its paths' counts of atoms at the front of a table
module _ (s : List ℕ) (x : Sight) (e : Ok x ≡ sight_of s) (table table' : List AtomCounts) (full : length table ≡ 128) (told : Stored s table table') where
  -- the image is accepted
  seen : Sighted s x
  seen = sighted s x e

  -- they are all that stands there
  front_is : take x.paths table' ≡ counts_in seen.paths
  front_is = counts_front x.paths seen.paths table table' seen.count (omega (arith, sighted_few s x seen, full)) (told seen.paths seen.is)

  -- and no more than there may be
  pub front_few : length (take x.paths table') ≤ 128
  front_few = rw (front_is, length-map) (omega (arith, seen.count, sighted_few s x seen))

  -- ---- what is said once the place was tested
  module _ (b : Bounds) (p : Place) (t : Bool) (tested : (ps : List Compiled) → take x.paths table' ≡ counts_in ps → t ≡ fits b ps p) where
    -- it fits
    pub judge_fits : t ≡ true → Ok x ≡ judge_of b s p
    judge_fits k = e ∙ sym (on_got _ _ seen.paths (fitting_is b s p seen.paths seen.is (sym (tested seen.paths front_is) ∙ k)))

    -- it does not
    pub judge_unfit : t ≡ false → Err (fault CheckpointPlace 5 5) ≡ judge_of b s p
    judge_unfit k = sym (on_bad _ _ _ (fitting_unfit b s p seen.paths seen.is (sym (tested seen.paths front_is) ∙ k)))

-- ---- how many assignments a phase q has on a path c
module _ (b : Bounds) (q : ℕ) (c : Compiled) where
  -- none are tried where the path is over its bound
  pub tried_over : None ≡ tried_on b q c → is_over b q c ≡ true
  tried_over e = by (is_over b q c) refl
    where
      by : (x : Bool) → is_over b q c ≡ x → is_over b q c ≡ true
      by true u = u
      by false u = let w : None ≡ Some (masks q c) = rw (u, tried_on) at e in let z : ◌≡◌ {A = ℕ} 0 1 = cc in absurd (omega arith)

  -- elsewhere n of them
  pub tried_under : (n : ℕ) → Some n ≡ tried_on b q c → (is_over b q c ≡ false) × (n ≡ masks q c)
  tried_under n e = by (is_over b q c) refl
    where
      by : (x : Bool) → is_over b q c ≡ x → (is_over b q c ≡ false) × (n ≡ masks q c)
      by true u = let w : Some n ≡ None = rw (u, tried_on) at e in let z : ◌≡◌ {A = ℕ} 0 1 = cc in absurd (omega arith)
      by false u = let w : Some n ≡ Some (masks q c) = rw (u, tried_on) at e in let z : n ≡ masks q c = cc in (u, z)

  -- which are no more than those of 26 atoms
  pub tried_few : Fair b → (n : ℕ) → Some n ≡ tried_on b q c → (is_over b q c ≡ false) × (n ≡ masks q c) × (n ≤ 67108864)
  tried_few f n e =
      let t = tried_under n e in
      let l : atoms q c ≤ bound b q = ltb-false (bound b q) (atoms q c) t.0 in
      (t.0, t.1, rw t.1 (limit_le (atoms q c) (omega (arith, l, bound_few b f q))))
