-- One slice, or two in a row, through the public entry, from any place: what is said with no budget, at an end, and again after an end; and that
-- a slice which is refused gives back the examination that it was lent. In the calls' contracts a .0 is the examination, a.1.0 the image,
-- a.1.1.0 the budget.
use Rattle.std.specs.Prelude.{Ok, Err, None, Some}
use mathlib.Core.Path.{◌≡◌, refl, sym, ap, ◌∙◌}
use mathlib.Core.Bool.{true}
use mathlib.Core.List.{List}
use Prim.Native.Nat.{ℕ, suc}
use native.Mathlib.Omega.{arith}
use Rattle.definition.specs.declared.Outcome.{Outcome}
use Rattle.definition.specs.declared.Place.{Place}
use Rattle.definition.specs.declared.Refusal.{Refusal}
use Rattle.std.specs.declared.ops.ControlFlow.{ControlFlow}
use Rattle.definition.specs.Fault.{Read}
use Rattle.definition.specs.Accepted.{Compiled, accepted}
use Rattle.definition.specs.Verdict.{the_bounds}
use Rattle.definition.specs.Place.{stop, tries, view, Standing, done, slice, fits, sliced}
use Rattle.definition.proofs.Steps.{same_got, step_got}
use Rattle.definition.proofs.Run.{slice_stop, slice_zero}
use Rattle.definition.proofs.Machine.{end_again}
use Rattle.definition.proofs.Slices.{slice_fits}
use Rattle.definition.proofs.Keeping.{fitting_inv}
use Rattle.examiner.specs.declared.Examination.{Examination}
use Rattle.examiner.specs.declared.Sliced.{Sliced}
use Rattle.examiner.specs.Answers.{sliced_of}
use Rattle.examiner.proofs.Examination.slice.Reads as cut
use Rattle.theorems.proofs.Refusals.{slice_runs}

-- trials refuse nothing
pub not_refused : (x : Examination) (y : Standing) (f : Refusal) → (sliced_of x (Ok y)).said ≡ Err f → ⊥
not_refused x y f q = let z : ◌≡◌ {A = ℕ} 0 1 = cc in omega arith

-- what was not refused is a slice of an accepted image from a place that fits it
pub record Ran (s : List ℕ) (n : ℕ) (p : Place) (y : Standing) : Type 0 where
  pub paths : List Compiled
  pub is : accepted s ≡ Ok paths
  pub fits_it : fits the_bounds paths p ≡ true
  pub stands : slice the_bounds paths n p ≡ y

-- as it is told
pub ran : (s : List ℕ) (n : ℕ) (p : Place) (y : Standing) → sliced the_bounds s n p ≡ Ok y → Ran s n p y
unfolding sliced
ran s n p y e =
    let i = step_got _ _ _ e in
    let f = fitting_inv the_bounds s p i.0 i.1 in
    record { paths = i.0; is = f.0; fits_it = f.1; stands = same_got _ y i.2 }

-- by what a slice comes to
refused_held : (x : Examination) (s : List ℕ) (n : ℕ) (f : Refusal) (m : Read Standing) → sliced the_bounds s n x.place ≡ m → (sliced_of x m).said ≡ Err f → (sliced_of x m).examination ≡ x
refused_held x s n f (Err g) e q = refl
refused_held x s n f (Ok y) e q = absurd (not_refused x y f q)

-- "A refusal returns .. a lent examination unchanged"
pub slice_held : (κs : _) (a : _) (r : _) (t : _) → cut.Post κs a r t → (f : Refusal) → r.said ≡ Err f → r.examination ≡ a.0
slice_held κs a r t p f q =
    ap (λ (x : Sliced). x.examination) p
    ∙ refused_held a.0 a.1.0.now a.1.1.0 f (sliced the_bounds a.1.0.now a.1.1.0 a.0.place) refl (sym (ap (λ (x : Sliced). x.said) p) ∙ q)

-- ---- from a place that fits an accepted image

-- "Ends that need no trial cost no budget and leave the place at which they are found", whatever the budget
pub slice_at_end : (κs : _) (a : _) (r : _) (t : _) → cut.Post κs a r t → (ps : List Compiled) → accepted a.1.0.now ≡ Ok ps → fits the_bounds ps a.0.place ≡ true → (o : Outcome) → view the_bounds ps a.0.place ≡ stop o
    → r ≡ record { examination = a.0; said = Ok (Some o) }
slice_at_end κs a r t p ps e u o v = slice_runs κs a r t p ps e u ∙ ap (λ (y : Standing). sliced_of a.0 (Ok y)) (slice_stop the_bounds ps a.1.1.0 a.0.place o v)

-- before a trial a budget of 0 says "not yet", and the examination stays
pub slice_without_budget : (κs : _) (a : _) (r : _) (t : _) → cut.Post κs a r t → (ps : List Compiled) → accepted a.1.0.now ≡ Ok ps → fits the_bounds ps a.0.place ≡ true → (x : ControlFlow Outcome Place) → view the_bounds ps a.0.place ≡ tries x
    → a.1.1.0 ≡ 0 → r ≡ record { examination = a.0; said = Ok None }
slice_without_budget κs a r t p ps e u x v z = slice_runs κs a r t p ps e u ∙ rw (z, slice_zero the_bounds ps a.0.place x v) refl

-- ---- again after an end

-- by what the first slice comes to
again : (x : Examination) (s : List ℕ) (n : ℕ) (o : Outcome) (m : Read Standing) → sliced the_bounds s n x.place ≡ m → (sliced_of x m).said ≡ Ok (Some o) → (k : ℕ)
    → (ps : List Compiled) × (accepted s ≡ Ok ps) × (fits the_bounds ps (sliced_of x m).examination.place ≡ true) × (slice the_bounds ps (suc k) (sliced_of x m).examination.place ≡ done (sliced_of x m).examination.place o)
again x s n o (Err g) e q k = let z : ◌≡◌ {A = ℕ} 0 1 = cc in absurd (omega arith)
again x s n o (Ok y) e q k =
    let r = ran s n x.place y e in
    let u : y.said ≡ Some o = cc in
    let w : slice the_bounds r.paths n x.place ≡ done y.place o = r.stands ∙ rw (← u) refl in
    (r.paths, r.is, rw r.stands at (slice_fits the_bounds r.paths n x.place r.fits_it), end_again the_bounds r.paths n x.place y.place o w k)

-- an end that was told, as the place at which it was told has it
told_again : (x : Examination) (s : List ℕ) (n : ℕ) (r : Sliced) → r ≡ sliced_of x (sliced the_bounds s n x.place) → (o : Outcome) → r.said ≡ Ok (Some o) → (k : ℕ)
    → (ps : List Compiled) × (accepted s ≡ Ok ps) × (fits the_bounds ps r.examination.place ≡ true) × (slice the_bounds ps (suc k) r.examination.place ≡ done r.examination.place o)
told_again x s n r p o q k = rw p (again x s n o (sliced the_bounds s n x.place) refl (sym (ap (λ (y : Sliced). y.said) p) ∙ q) k)

-- "another slice with budget 1 or more gives the same end", on the same image, and stays at its place
pub slice_again : (κs : _) (a : _) (r : _) (t : _) → cut.Post κs a r t → (o : Outcome) → r.said ≡ Ok (Some o) → (κs' : _) (a' : _) (r' : _) (t' : _) → cut.Post κs' a' r' t' → a'.0 ≡ r.examination → a'.1.0.now ≡ a.1.0.now
    → (k : ℕ) → a'.1.1.0 ≡ suc k → r' ≡ record { examination = r.examination; said = Ok (Some o) }
slice_again κs a r t p o q κs' a' r' t' p' x s k b =
    let g = told_again a.0 a.1.0.now a.1.1.0 r p o q k in
    slice_runs κs' a' r' t' p' g.0 (ap accepted s ∙ g.1) (rw x g.2) ∙ rw (x, b, g.3) refl
