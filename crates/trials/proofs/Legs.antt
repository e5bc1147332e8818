-- Laws of the loop over one path: one for each way out of a turn, and what the loop comes to: the slice, a fitting place, the first mask
-- that satisfies.
use Prim.Native.Nat.{ℕ, zero, suc, ◌+◌, ◌-◌, ◌^◌, ◌≤◌, ◌<◌}
use mathlib.Core.Path.{◌≡◌, refl, sym, ap, ◌∙◌}
use mathlib.Core.Bool.{Bool, true, false}
use mathlib.Core.List.{List, ◌∷◌}
use native.Mathlib.Omega.{arith}
use native.Mathlib.Decide.{dec_lt}
use lib.ListN.{length, drop, replicate, length-replicate}
use lib.Pow.{pow_pos}
use borrow.Author.Tests.{eq-eqb, ne_eqb}
use Rattle.definition.specs.declared.Bounds.{Bounds}
use Rattle.definition.specs.declared.Outcome.{Outcome}
use Rattle.definition.specs.declared.Place.{Place}
use Rattle.std.specs.declared.ops.ControlFlow.{ControlFlow}
use Rattle.std.specs.declared.ops.ControlFlow.TheVariants.{Break, Continue}
use Rattle.definition.specs.Bytes.{when◌then◌else◌}
use Rattle.definition.specs.Accepted.{Compiled}
use Rattle.definition.specs.Verdict.{place, outcome, atoms, masks, is_over, truth, found_verdict, Found, none, mask, least}
use Rattle.definition.specs.Place.{enter, trial, tries, view, slice}
use Rattle.definition.proofs.Run.{least_here, least_on, enter_mask, trial_ended, trial_on, trial_last, view_tries, slice_zero, slice_ended, slice_next}
use Rattle.definition.proofs.Fitting.{Fits, fits_next}
use Rattle.definition.proofs.Reasons.{Reasoned, trial_reasoned}
use Rattle.trials.specs.declared.Facts.{Facts}
use Rattle.trials.specs.declared.Leg.{Leg}
use Rattle.trials.specs.Facts.{compiled_by}
use Rattle.trials.specs.Legs.{Stretch, leg_on, leg_of, resumed}

-- ---- one turn

-- what a trial is: the end, the last of its path, or one that goes on at the path's next mask
data Turn (h : Compiled) (p : Place) : Type 0 where
  ends : truth p.phase h p.mask ≡ true → Turn h p
  leaves : truth p.phase h p.mask ≡ false → masks p.phase h ≤ p.mask + 1 → Turn h p
  stays : truth p.phase h p.mask ≡ false → p.mask + 1 < masks p.phase h → Turn h p

-- each trial is one of them
turn_of : (h : Compiled) (p : Place) → Turn h p
turn_of h p = go (truth p.phase h p.mask) refl (dec_lt (p.mask + 1) (masks p.phase h))
  where
    go : (x : Bool) → truth p.phase h p.mask ≡ x → Dec (p.mask + 1 < masks p.phase h) → Turn h p
    go true e d = ends e
    go false e (yes l) = stays e l
    go false e (no l) = leaves e (omega arith)

-- the next mask of the path
abbrev next_mask : Place → Place
next_mask p = place p.phase p.path (p.mask + 1) (p.count + 1)

-- where the path is left
abbrev past : List Compiled → Place → Place
past rest p = enter p.phase (p.path + 1) (p.count + 1) rest

-- that is at mask 0
past_mask : (rest : List Compiled) (p : Place) → (past rest p).mask ≡ 0
past_mask rest p = enter_mask p.phase (p.path + 1) (p.count + 1) rest

module _ (h : Compiled) (rest : List Compiled) (p : Place) where
  -- no budget
  pub leg_open : (n : ℕ) → n ≡ 0 → Leg.Open p ≡ leg_of h rest n p
  unfolding leg_of
  leg_open n z = rw z

  -- n is the budget left, of which the trial t leaves m
  module _ (n m : ℕ) (k : n ≡ suc m) (t : ControlFlow Outcome Place) (e : t ≡ trial h rest p) where
    -- the rest of the loop goes by that trial
    turned : leg_of h rest n p ≡ leg_on m (leg_of h rest m) t
    unfolding leg_of
    turned = rw (k, e)

    -- the trial is the end
    pub leg_ended : (o : Outcome) → t ≡ Break o → Leg.Ended o ≡ leg_of h rest n p
    leg_ended o f = rw (turned, f)

    -- it leaves the path
    pub leg_past : (q : Place) → t ≡ Continue q → q.mask ≡ 0 → Leg.On q m ≡ leg_of h rest n p
    unfolding when◌then◌else◌
    leg_past q f z = rw (turned, f, eq-eqb q.mask 0 z)

    -- it stays on the path: the loop goes on
    pub leg_again : (q : Place) → t ≡ Continue q → (q.mask ≡ 0 → ⊥) → leg_of h rest m q ≡ leg_of h rest n p
    unfolding when◌then◌else◌
    leg_again q f z = rw (turned, f, ne_eqb q.mask 0 z)

  -- a trial that goes on, not at mask 0, goes on at the path's next mask
  stayed : (q : Place) → trial h rest p ≡ Continue q → (q.mask ≡ 0 → ⊥) → (q ≡ next_mask p) × (p.mask + 1 < masks p.phase h)
  stayed q e z = go (turn_of h p)
    where
      go : Turn h p → (q ≡ next_mask p) × (p.mask + 1 < masks p.phase h)
      go (ends f) = let g = sym e ∙ trial_ended h rest p f in let y : ◌≡◌ {A = ℕ} 0 1 = cc in absurd (omega arith)
      go (leaves f l) = let g = sym e ∙ trial_last h rest p f l in let y : q ≡ past rest p = cc in absurd (z (ap (λ (x : Place). x.mask) y ∙ past_mask rest p))
      go (stays f l) = let g = sym e ∙ trial_on h rest p f l in (cc, l)

  -- the loop by what the trial is: the end
  leg_found : (n : ℕ) → truth p.phase h p.mask ≡ true → leg_of h rest (suc n) p ≡ Leg.Ended (outcome (found_verdict p.phase p.path h p.mask) p (p.count + 1))
  leg_found n f = sym (leg_ended (suc n) n refl (trial h rest p) refl _ (trial_ended h rest p f))

  -- the last of the path
  leg_left : (n : ℕ) → truth p.phase h p.mask ≡ false → masks p.phase h ≤ p.mask + 1 → leg_of h rest (suc n) p ≡ Leg.On (past rest p) n
  leg_left n f l = sym (leg_past (suc n) n refl (trial h rest p) refl (past rest p) (trial_last h rest p f l) (past_mask rest p))

  -- and one before it
  leg_next : (n : ℕ) → truth p.phase h p.mask ≡ false → p.mask + 1 < masks p.phase h → leg_of h rest (suc n) p ≡ leg_of h rest n (next_mask p)
  leg_next n f l = sym (leg_again (suc n) n refl (trial h rest p) refl (next_mask p) (trial_on h rest p f l) (λ z. omega arith))

-- where the trial t stays on the path, the place after it stands as the one before it
pub stretched : (code : List ℕ) (x : Facts) (limit n : ℕ) (p q : Place) (t : ControlFlow Outcome Place) → Stretch code x limit n p → ((rest : List Compiled) → n ≡ p.path + 1 + length rest → t ≡ trial (compiled_by code x) rest p)
    → t ≡ Continue q → (q.mask ≡ 0 → ⊥) → Stretch code x limit n q × (q.path ≡ p.path)
stretched code x limit n p q t s e f z =
    let h = compiled_by code x in
    let rest = replicate (n - (p.path + 1)) h in
    let r = s.ready in
    let g = stayed h rest p q (sym (e rest (omega (arith, r.path, length-replicate (n - (p.path + 1)) h))) ∙ f) z in
    let l : p.mask + 1 < limit = omega (arith, r.limit_is, g.1) in
    let c : p.count + 1 + limit < 2 ^ 64 + (p.mask + 1) = omega (arith, s.counts) in
    rw g.0 (record { ready = record { words = r.words; limit_is = r.limit_is; mask = l; count = omega arith; path = r.path; few = r.few }; counts = c }, refl)

-- ---- what the loop comes to

module _ (b : Bounds) (ps : List Compiled) (h : Compiled) (rest : List Compiled) where
  -- the slice, once it is resumed past the path
  pub leg_slice : (n : ℕ) (p : Place) → drop p.path ps ≡ h ∷ rest → is_over b p.phase h ≡ false → resumed b ps (leg_of h rest n p) ≡ slice b ps n p
  leg_slice zero p d u = rw (← leg_open h rest p 0 refl) (sym (slice_zero b ps p _ (view_tries b ps p h rest d u)))
  leg_slice (suc n) p d u = go (turn_of h p) (leg_slice n (next_mask p) d u)
    where
      v : view b ps p ≡ tries (trial h rest p)
      v = view_tries b ps p h rest d u

      go : Turn h p → resumed b ps (leg_of h rest n (next_mask p)) ≡ slice b ps n (next_mask p) → resumed b ps (leg_of h rest (suc n) p) ≡ slice b ps (suc n) p
      go (ends f) ih = rw (leg_found h rest p n f) (sym (slice_ended b ps n p _ (v ∙ ap tries (trial_ended h rest p f))))
      go (leaves f l) ih = rw (leg_left h rest p n f l) (sym (slice_next b ps n p _ (v ∙ ap tries (trial_last h rest p f l))))
      go (stays f l) ih = rw (leg_next h rest p n f l) (ih ∙ sym (slice_next b ps n p _ (v ∙ ap tries (trial_on h rest p f l))))

  -- past the path a place that fits, with less budget
  pub leg_on_lem : (n : ℕ) (p q : Place) (m : ℕ) → drop p.path ps ≡ h ∷ rest → is_over b p.phase h ≡ false → Fits b ps p → leg_of h rest n p ≡ Leg.On q m → Fits b ps q × (m < n)
  leg_on_lem zero p q m d u f e = let g = leg_open h rest p 0 refl ∙ e in let y : ◌≡◌ {A = ℕ} 0 1 = cc in absurd (omega arith)
  leg_on_lem (suc n) p q m d u f e = go (turn_of h p) (leg_on_lem n (next_mask p) q m d u)
    where
      v : view b ps p ≡ tries (trial h rest p)
      v = view_tries b ps p h rest d u

      go : Turn h p → (Fits b ps (next_mask p) → leg_of h rest n (next_mask p) ≡ Leg.On q m → Fits b ps q × (m < n)) → Fits b ps q × (m < suc n)
      go (ends g) ih = let k = sym (leg_found h rest p n g) ∙ e in let y : ◌≡◌ {A = ℕ} 0 1 = cc in absurd (omega arith)
      go (leaves g l) ih =
          let k = sym (leg_left h rest p n g l) ∙ e in
          let y : past rest p ≡ q = cc in
          let z : n ≡ m = cc in
          (rw y at (fits_next b ps p (past rest p) f (v ∙ ap tries (trial_last h rest p g l))), omega arith)
      go (stays g l) ih =
          let y = ih (fits_next b ps p (next_mask p) f (v ∙ ap tries (trial_on h rest p g l))) (sym (leg_next h rest p n g l) ∙ e) in
          (y.0, omega (arith, y.1))

-- an end that it comes to gives one of document 01's two reasons, where it gives one
pub leg_reasoned : (h : Compiled) (rest : List Compiled) (n : ℕ) (p : Place) (o : Outcome) → leg_of h rest n p ≡ Leg.Ended o → Reasoned o.verdict
leg_reasoned h rest zero p o e = let g = leg_open h rest p 0 refl ∙ e in let y : ◌≡◌ {A = ℕ} 0 1 = cc in absurd (omega arith)
leg_reasoned h rest (suc n) p o e = go (turn_of h p) (leg_reasoned h rest n (next_mask p) o)
  where
    go : Turn h p → (leg_of h rest n (next_mask p) ≡ Leg.Ended o → Reasoned o.verdict) → Reasoned o.verdict
    go (ends f) ih =
        let g = sym (leg_found h rest p n f) ∙ e in
        let y : outcome (found_verdict p.phase p.path h p.mask) p (p.count + 1) ≡ o = cc in
        trial_reasoned h rest p o (trial_ended h rest p f ∙ ap Break y)
    go (leaves f l) ih = let g = sym (leg_left h rest p n f l) ∙ e in let y : ◌≡◌ {A = ℕ} 0 1 = cc in absurd (omega arith)
    go (stays f l) ih = ih (sym (leg_next h rest p n f l) ∙ e)

-- the mask that the loop ended with, "the first that satisfies"
unfoldable pub found_by : Leg → Found
found_by (Leg.Ended o) = mask o.place.mask
found_by (Leg.Open p) = none
found_by (Leg.On p left) = none

-- from mask m on, k + 1 masks being left
least_from : (h : Compiled) (rest : List Compiled) (k n q i m c : ℕ) → m + suc k ≡ masks q h → suc k ≤ n → found_by (leg_of h rest n (place q i m c)) ≡ least (truth q h) m (suc k)
unfolding found_by least
least_from h rest k zero q i m c e l = absurd (omega arith)
least_from h rest zero (suc n) q i m c e l = go (turn_of h (place q i m c))
  where
    go : Turn h (place q i m c) → found_by (leg_of h rest (suc n) (place q i m c)) ≡ least (truth q h) m 1
    go (ends f) = rw (leg_found h rest (place q i m c) n f, least_here (truth q h) m 0 f)
    go (leaves f u) = rw (leg_left h rest (place q i m c) n f u, least_on (truth q h) m 0 f)
    go (stays f u) = absurd (omega arith)
least_from h rest (suc k) (suc n) q i m c e l = go (turn_of h (place q i m c)) (least_from h rest k n q i (m + 1) (c + 1) (omega arith) (omega arith))
  where
    go : Turn h (place q i m c) → found_by (leg_of h rest n (place q i (m + 1) (c + 1))) ≡ least (truth q h) (m + 1) (suc k) → found_by (leg_of h rest (suc n) (place q i m c)) ≡ least (truth q h) m (suc (suc k))
    go (ends f) ih = rw (leg_found h rest (place q i m c) n f, least_here (truth q h) m (suc k) f)
    go (leaves f u) ih = absurd (omega arith)
    go (stays f u) ih = rw (leg_next h rest (place q i m c) n f u, least_on (truth q h) m (suc k) f) ih

-- from mask 0 on with budget for all of them, the first mask that satisfies
pub leg_least : (h : Compiled) (rest : List Compiled) (n q i c : ℕ) → masks q h ≤ n → found_by (leg_of h rest n (place q i 0 c)) ≡ least (truth q h) 0 (masks q h)
leg_least h rest n q i c l =
    let k : masks q h ≡ suc (masks q h - 1) = omega (arith, pow_pos (atoms q h)) in
    least_from h rest (masks q h - 1) n q i 0 c (omega arith) (omega arith) ∙ ap (least (truth q h) 0) (sym k)
