-- Slices as a machine: it knows of paths only what `look` does to counts and places. A slice of a + b is a slice of a and then one
-- of b, and the run from a place comes to one end, by the end's total.
use Prim.Native.Nat.{ℕ, zero, suc, ◌+◌, ◌≤◌, ◌<◌}
use mathlib.Core.Path.{◌≡◌, refl, sym, ap, ◌∙◌}
use mathlib.Core.Bool.{Bool, true, false}
use mathlib.Core.List.{List, [], ◌∷◌}
use native.Mathlib.Omega.{arith}
use native.Mathlib.Nat.{zero-add, suc-add}
use lib.ListN.{drop}
use Rattle.definition.specs.declared.Bounds.{Bounds}
use Rattle.definition.specs.declared.Place.{Place}
use Rattle.definition.specs.declared.Outcome.{Outcome}
use Rattle.std.specs.declared.ops.ControlFlow.{ControlFlow}
use Rattle.std.specs.declared.ops.ControlFlow.TheVariants.{Break, Continue}
use Rattle.std.specs.Prelude.{Option, None, Some}
use Rattle.definition.specs.Bytes.{when◌then◌else◌}
use Rattle.definition.specs.Accepted.{Compiled}
use Rattle.definition.specs.Verdict.{is_over, truth}
use Rattle.definition.specs.Place.{trial, Seen, stop, tries, look, view, Standing, not_yet, done, slice}
use Rattle.definition.proofs.Run.{after_count, slice_stop, slice_zero, slice_ended, slice_next}

-- ---- what a look tells

if_stop : (x : Bool) (a o : Outcome) (t : ControlFlow Outcome Place) → (when x then stop a else tries t) ≡ stop o → a ≡ o
unfolding when◌then◌else◌
if_stop true a o t e = cc
if_stop false a o t e = cc

-- a trial is told by a test that fails
pub if_tries : (x : Bool) (a : Outcome) (t u : ControlFlow Outcome Place) → (when x then stop a else tries t) ≡ tries u → (x ≡ false) × (t ≡ u)
unfolding when◌then◌else◌
if_tries true a t u e = (cc, cc)
if_tries false a t u e = (refl, cc)

if_ended : (x : Bool) (a o : Outcome) (q : Place) → (when x then Break a else Continue q) ≡ Break o → a ≡ o
unfolding when◌then◌else◌
if_ended true a o q e = cc
if_ended false a o q e = cc

-- and so is the place after it
pub if_next : (x : Bool) (a : Outcome) (p q : Place) → (when x then Break a else Continue p) ≡ Continue q → (x ≡ false) × (p ≡ q)
unfolding when◌then◌else◌
if_next true a p q e = (cc, cc)
if_next false a p q e = (refl, cc)

module _ (b : Bounds) (ps : List Compiled) (p : Place) where
  -- an end without a trial: the count is the total, the place the end's
  pub look_stop : (o : Outcome) (l : List Compiled) → look b ps p l ≡ stop o → (o.total ≡ p.count) × (o.place ≡ p)
  unfolding look
  look_stop o [] e = (cc, cc)
  look_stop o (h ∷ t) e = let f = if_stop (is_over b p.phase h) _ o (trial h t p) e in (sym (ap (λ (o : Outcome). o.total) f), sym (ap (λ (o : Outcome). o.place) f))

  -- an end by a trial counts that trial and leaves the place
  pub look_ended : (o : Outcome) (l : List Compiled) → look b ps p l ≡ tries (Break o) → (o.total ≡ p.count + 1) × (o.place ≡ p)
  unfolding look trial
  look_ended o [] e = (cc, cc)
  look_ended o (h ∷ t) e = let f = if_ended (truth p.phase h p.mask) _ o _ (if_tries (is_over b p.phase h) _ _ _ e).1 in (sym (ap (λ (o : Outcome). o.total) f), sym (ap (λ (o : Outcome). o.place) f))

  -- a trial that is not the end counts one
  pub look_next : (q : Place) (l : List Compiled) → look b ps p l ≡ tries (Continue q) → q.count ≡ p.count + 1
  unfolding look trial
  look_next q [] e = cc
  look_next q (h ∷ t) e = sym (ap (λ (q : Place). q.count) (if_next (truth p.phase h p.mask) _ _ q (if_tries (is_over b p.phase h) _ _ _ e).1).1) ∙ after_count h t p

-- ---- slices, and the run from a place

-- what follows an answer: it goes on from the place of one that has not come to an end
unfoldable pub onward : (Place → Standing) → Place → Option Outcome → Standing
onward go p None = go p
onward go p (Some o) = done p o

-- a slice of n more
abbrev pub more : Bounds → List Compiled → ℕ → Standing → Standing
more b ps n a = onward (slice b ps n) a.place a.said

-- the run from a place comes to the end o
pub data Leads (b : Bounds) (ps : List Compiled) (o : Outcome) : Place → Type 0 where
  stops : {p : Place} → view b ps p ≡ stop o → Leads b ps o p
  ends : {p : Place} → view b ps p ≡ tries (Break o) → Leads b ps o p
  goes : {p q : Place} → view b ps p ≡ tries (Continue q) → Leads b ps o q → Leads b ps o p

-- from p to a place, by trials that do not satisfy
pub data Runs (b : Bounds) (ps : List Compiled) (p : Place) : Place → Type 0 where
  here : Runs b ps p p
  next : {q r : Place} → Runs b ps p q → view b ps q ≡ tries (Continue r) → Runs b ps p r

-- a slice of n at p that does not come to an end: where it stands
pub record Goes_on (b : Bounds) (ps : List Compiled) (p : Place) (n : ℕ) : Type 0 where
  pub at : Place
  pub is : slice b ps n p ≡ not_yet at
  pub count : at.count ≡ p.count + n
  pub runs : Runs b ps p at

module _ (b : Bounds) (ps : List Compiled) where
  -- a slice of m + n is a slice of m and then one of n
  pub compose : (m n : ℕ) (p : Place) → slice b ps (m + n) p ≡ more b ps n (slice b ps m p)
  unfolding onward
  compose zero n p = go (view b ps p) refl
    where
      go : (s : Seen) → view b ps p ≡ s → slice b ps (0 + n) p ≡ more b ps n (slice b ps 0 p)
      go (stop o) e = rw (zero-add, slice_stop b ps n p o e, slice_stop b ps 0 p o e)
      go (tries t) e = rw (zero-add, slice_zero b ps p t e)
  compose (suc m) n p = go (view b ps p) refl (compose m n)
    where
      go : (s : Seen) → view b ps p ≡ s → ((q : Place) → slice b ps (m + n) q ≡ more b ps n (slice b ps m q)) → slice b ps (suc m + n) p ≡ more b ps n (slice b ps (suc m) p)
      go (stop o) e ih = rw (slice_stop b ps (suc m + n) p o e, slice_stop b ps (suc m) p o e)
      go (tries (Break o)) e ih = rw (suc-add, slice_ended b ps (m + n) p o e, slice_ended b ps m p o e)
      go (tries (Continue q)) e ih = rw (suc-add, slice_next b ps (m + n) p q e, slice_next b ps m p q e) (ih q)

  -- one trial more at the front
  pub runs_from : {p q r : Place} → view b ps p ≡ tries (Continue q) → Runs b ps q r → Runs b ps p r
  runs_from e here = next here e
  runs_from e (next r f) = next (runs_from e r) f

  -- no count on the way exceeds the total
  lead_le : (o : Outcome) {p : Place} → Leads b ps o p → p.count ≤ o.total
  lead_le o {p} (stops e) = omega (arith, (look_stop b ps p o (drop p.path ps) e).0)
  lead_le o {p} (ends e) = omega (arith, (look_ended b ps p o (drop p.path ps) e).0)
  lead_le o {p} (goes {q = q} e l) = omega (arith, look_next b ps p q (drop p.path ps) e, lead_le o l)

  -- a slice whose budget reaches the total comes to the end
  pub slice_ends : (o : Outcome) {p : Place} → Leads b ps o p → (n : ℕ) → o.total ≤ p.count + n → slice b ps n p ≡ done o.place o
  slice_ends o {p} (stops e) n h = rw (slice_stop b ps n p o e, (look_stop b ps p o (drop p.path ps) e).1)
  slice_ends o {p} (ends e) zero h = absurd (omega (arith, (look_ended b ps p o (drop p.path ps) e).0))
  slice_ends o {p} (ends e) (suc n) h = rw (slice_ended b ps n p o e, (look_ended b ps p o (drop p.path ps) e).1)
  slice_ends o {p} (goes {q = q} e l) zero h = absurd (omega (arith, look_next b ps p q (drop p.path ps) e, lead_le o l))
  slice_ends o {p} (goes {q = q} e l) (suc n) h = rw (slice_next b ps n p q e) (slice_ends o l n (omega (arith, look_next b ps p q (drop p.path ps) e)))

  -- one whose budget does not stands on the way
  pub slice_goes_on : (o : Outcome) {p : Place} → Leads b ps o p → (n : ℕ) → p.count + n < o.total → Goes_on b ps p n
  slice_goes_on o {p} (stops e) n h = absurd (omega (arith, (look_stop b ps p o (drop p.path ps) e).0))
  slice_goes_on o {p} (ends e) zero h = record { at = p; is = slice_zero b ps p (Break o) e; count = omega arith; runs = here }
  slice_goes_on o {p} (ends e) (suc n) h = absurd (omega (arith, (look_ended b ps p o (drop p.path ps) e).0))
  slice_goes_on o {p} (goes {q = q} e l) zero h = record { at = p; is = slice_zero b ps p (Continue q) e; count = omega arith; runs = here }
  slice_goes_on o {p} (goes {q = q} e l) (suc n) h =
      let c = look_next b ps p q (drop p.path ps) e in
      let g = slice_goes_on o l n (omega arith) in
      record { at = g.at; is = slice_next b ps n p q e ∙ g.is; count = omega (arith, g.count); runs = runs_from e g.runs }

  -- what lies on the way to an end leads to it
  pub lead_on : {p q : Place} (o : Outcome) → Leads b ps o p → Runs b ps p q → Leads b ps o q
  lead_on o l here = l
  lead_on {q = q} o l (next {q = r} w e) = go (lead_on o l w)
    where
      go : Leads b ps o r → Leads b ps o q
      go (stops f) = let z : ◌≡◌ {A = ℕ} 0 1 = cc in absurd (omega arith)
      go (ends f) = let z : ◌≡◌ {A = ℕ} 0 1 = cc in absurd (omega arith)
      go (goes {q = s} f k) = let z : s ≡ q = cc in rw z at k

  same_end : (p q : Place) (x o : Outcome) (k : ℕ) → done p x ≡ done q o → slice b ps k p ≡ done p x → slice b ps k q ≡ done q o
  same_end p q x o k e f = let z : p ≡ q = ap (λ (a : Standing). a.place) e in rw z at f ∙ ap (λ (s : Option Outcome). record { place = q; said = s }) (ap (λ (a : Standing). a.said) e)

  open_not : {A : Type 0} (p q : Place) (o : Outcome) → not_yet p ≡ done q o → A
  open_not p q o e = let f : None ≡ Some o = ap (λ (a : Standing). a.said) e in let z : ◌≡◌ {A = ℕ} 0 1 = cc in absurd (omega arith)

  -- from any place: a slice that ended, given budget again, ends so again
  pub end_again : (n : ℕ) (p q : Place) (o : Outcome) → slice b ps n p ≡ done q o → (k : ℕ) → slice b ps (suc k) q ≡ done q o
  end_again zero p q o h k = go (view b ps p) refl
    where
      go : (s : Seen) → view b ps p ≡ s → slice b ps (suc k) q ≡ done q o
      go (stop x) e = let f = slice_stop b ps 0 p x e in let g = slice_stop b ps (suc k) p x e in same_end p q x o (suc k) (sym f ∙ h) g
      go (tries t) e = let f = slice_zero b ps p t e in open_not p q o (sym f ∙ h)
  end_again (suc n) p q o h k = go (view b ps p) refl (end_again n)
    where
      go : (s : Seen) → view b ps p ≡ s → ((p q : Place) (o : Outcome) → slice b ps n p ≡ done q o → (k : ℕ) → slice b ps (suc k) q ≡ done q o) → slice b ps (suc k) q ≡ done q o
      go (stop x) e ih = same_end p q x o (suc k) (sym (slice_stop b ps (suc n) p x e) ∙ h) (slice_stop b ps (suc k) p x e)
      go (tries (Break x)) e ih = same_end p q x o (suc k) (sym (slice_ended b ps n p x e) ∙ h) (slice_ended b ps k p x e)
      go (tries (Continue r)) e ih = ih r q o (sym (slice_next b ps n p r e) ∙ h) k
