-- Demand 3 through the public entries, over any list of slices, writings and restarts: an examination of an accepted image that was cut, written
-- down and taken up again in whatever way says at each slice what the unstopped run says. A history is a list of calls, each by its contract as
-- it is read from the source (`Post`): a are the call's arguments, r its answer, t its arguments afterwards.
use Rattle.std.specs.Prelude.{Ok, Err, None, Some}
use mathlib.Core.Path.{◌≡◌, refl, sym, ap, ◌∙◌}
use mathlib.Core.List.{List, [], ◌∷◌}
use Prim.Native.Nat.{ℕ, zero, suc, ◌+◌, ◌≤◌, ◌<◌}
use native.Mathlib.Omega.{arith}
use lib.ListN.{length, take, drop}
use Rattle.definition.specs.declared.Place.{Place}
use Rattle.definition.specs.declared.Refusal.{Refusal}
use Rattle.definition.specs.Fault.{◌>>=◌}
use Rattle.definition.specs.Table.{Told}
use Rattle.definition.specs.Accepted.{Compiled, accepted}
use Rattle.definition.specs.Verdict.{the_bounds, unstopped}
use Rattle.definition.specs.Place.{Standing, slice, fitting, sliced}
use Rattle.definition.specs.Place.{start as start_of}
use Rattle.definition.specs.Checkpoint.{head_length, checkpoint}
use Rattle.definition.proofs.Machine.{here}
use Rattle.definition.proofs.Slices.{OnRun, Right, not_yet_lem, the_end, right, end_on_run, on_run_fits}
use Rattle.definition.proofs.Keeping.{fitting_is}
use Rattle.examiner.specs.declared.Examination.{Examination}
use Rattle.examiner.specs.declared.Sliced.{Sliced}
use Rattle.examiner.specs.Answers.{examination_at, sliced_of}
use Rattle.examiner.proofs.start.Reads as start
use Rattle.examiner.proofs.Examination.slice.Reads as cut
use Rattle.examiner.proofs.Examination.write_checkpoint.Reads as write_checkpoint
use Rattle.examiner.proofs.read_checkpoint.Reads as read_checkpoint
use Rattle.examiner.proofs.checkpoint_image.Reads as checkpoint_image
use Rattle.theorems.proofs.Answers.{start_is}
use Rattle.theorems.proofs.Slices.{slice_held}
use Rattle.theorems.proofs.Checkpoints.{held, written, checkpoint_read, checkpoint_holds}
use Rattle.theorems.proofs.Checkpoints.{writes as writes_it}

-- a checkpoint that was written: its bytes, and the examination that was held
pub record Saved : Type 0 where
  pub bytes : List ℕ
  pub examination : Examination

-- the calls so far on the image s: the examination e is held, and these checkpoints were written, the last first
pub data History (s : List ℕ) : Examination → List Saved → Type 1 where
  starts : (κs : _) (a : _) (r : _) (t : _) → start.Post κs a r t → a.0.now ≡ s → {e : Examination} → r ≡ Ok e → History s e []
  slices : {d : Examination} {l : List Saved} → History s d l → (κs : _) (a : _) (r : _) (t : _) → cut.Post κs a r t → a.0 ≡ d → a.1.0.now ≡ s → {e : Examination} → r.examination ≡ e → History s e l
  writes : {d : Examination} {l : List Saved} → History s d l → (κs : _) (a : _) (r : _) (t : _) → write_checkpoint.Post κs a r t → a.0 ≡ d → a.1.0.now ≡ s → (n : ℕ) → r.said ≡ Ok n
      → {e : Examination} → r.examination ≡ e → {k : Saved} → k ≡ record { bytes = take n t.1.1.0.now; examination = e } → History s e (k ∷ l)
  -- a slice that was refused, of whatever image
  refused : {d : Examination} {l : List Saved} → History s d l → (κs : _) (a : _) (r : _) (t : _) → cut.Post κs a r t → a.0 ≡ d → (f : Refusal) → r.said ≡ Err f → {e : Examination} → r.examination ≡ e → History s e l
  -- a writing that is not restarted from: refused, or of another image
  writes_away : {d : Examination} {l : List Saved} → History s d l → (κs : _) (a : _) (r : _) (t : _) → write_checkpoint.Post κs a r t → a.0 ≡ d → {e : Examination} → r.examination ≡ e → History s e l
  restarts : {d : Examination} {l : List Saved} → History s d l → (i : ℕ) (k : Saved) (rest : List Saved) → drop i l ≡ k ∷ rest → (κs : _) (a : _) (r : _) (t : _) → read_checkpoint.Post κs a r t → a.0.now ≡ k.bytes
      → {e : Examination} → r ≡ Ok e → History s e l

-- what a slice of that budget, from that examination, has to answer: it ends exactly when the count and the budget reach the total of the
-- unstopped run, with that run's verdict, location, witness and total; otherwise it goes forward by exactly its budget, to a place that the
-- unstopped run comes by (there is one with that count: definition's `one_place`)
pub data Answers (ps : List Compiled) (e : Examination) (budget : ℕ) (r : Sliced) : Type 0 where
  goes_on : e.place.count + budget < (unstopped the_bounds ps).total → r.said ≡ Ok None → r.examination.place.count ≡ e.place.count + budget → OnRun the_bounds ps r.examination.place → Answers ps e budget r
  ends : (unstopped the_bounds ps).total ≤ e.place.count + budget → r.said ≡ Ok (Some (unstopped the_bounds ps)) → r.examination.place ≡ (unstopped the_bounds ps).place → Answers ps e budget r

-- ---- every examination that is held stands on the run, and so does every one that was written

-- a checkpoint of an examination of s that stands on the run
pub record Sound (s : List ℕ) (ps : List Compiled) (k : Saved) : Type 0 where
  pub bytes : k.bytes ≡ checkpoint k.examination.place s
  pub on_run : OnRun the_bounds ps k.examination.place

-- all of a list are
abbrev pub AllSound : List ℕ → List Compiled → List Saved → Type 0
AllSound s ps [] = Unit {0}
AllSound s ps (k ∷ l) = Sound s ps k × AllSound s ps l

-- so is each of it
sound_at : (s : List ℕ) (ps : List Compiled) (l : List Saved) (i : ℕ) (k : Saved) (rest : List Saved) → drop i l ≡ k ∷ rest → AllSound s ps l → Sound s ps k
sound_at s ps [] zero k rest d h = let z : ◌≡◌ {A = ℕ} 0 1 = cc in absurd (omega arith)
sound_at s ps [] (suc i) k rest d h = let z : ◌≡◌ {A = ℕ} 0 1 = cc in absurd (omega arith)
sound_at s ps (x ∷ l) zero k rest d h = let z : x ≡ k = cc in rw (← z) h.0
sound_at s ps (x ∷ l) (suc i) k rest d h = sound_at s ps l i k rest d h.1

module _ (s : List ℕ) (ps : List Compiled) (e : accepted s ≡ Ok ps) where
  -- a place on the run passes the test of a lent examination
  on_run_passes : (p : Place) → OnRun the_bounds ps p → fitting the_bounds s p ≡ Ok ps
  on_run_passes p w = fitting_is the_bounds s p ps e (on_run_fits the_bounds ps p w)

  -- so a slice there is not refused
  sliced_is : (p : Place) → OnRun the_bounds ps p → (n : ℕ) → sliced the_bounds s n p ≡ Ok (slice the_bounds ps n p)
  unfolding sliced ◌>>=◌
  sliced_is p w n = rw (on_run_passes p w)

  -- it is the definition's
  cut_is : (x : Examination) → OnRun the_bounds ps x.place → (κs : _) (a : _) (r : _) (t : _) → cut.Post κs a r t → a.0 ≡ x → a.1.0.now ≡ s → r ≡ sliced_of x (Ok (slice the_bounds ps a.1.1.0 x.place))
  cut_is x w κs a r t p q z = p ∙ rw (q, z) (ap (sliced_of x) (sliced_is x.place w a.1.1.0))

  -- and what it says is what it has to
  answers : (x : Examination) (n : ℕ) (y : Standing) → Right the_bounds ps x.place n y → Answers ps x n (sliced_of x (Ok y))
  answers x n y (not_yet_lem q h z c w) = rw z (goes_on h refl c w)
  answers x n y (the_end h z) = rw z (ends h refl refl)

  -- the place after it is on the run
  stays : (x : Examination) (n : ℕ) (y : Standing) → Right the_bounds ps x.place n y → OnRun the_bounds ps (sliced_of x (Ok y)).examination.place
  stays x n y (not_yet_lem q h z c w) = rw z w
  stays x n y (the_end h z) = rw z (end_on_run the_bounds ps)

  -- an answer has one examination
  same_opened : (x y : Examination) → ◌≡◌ {A = Told Examination} (Ok x) (Ok y) → x ≡ y
  same_opened x y z = cc

  -- a checkpoint that is sound is read as the examination that was written, and holds the image
  read_as : (k : Saved) → Sound s ps k → (κs : _) (a : _) (r : _) (t : _) → read_checkpoint.Post κs a r t → a.0.now ≡ k.bytes → r ≡ Ok k.examination
  read_as k h κs a r t p q = checkpoint_read s k.examination ps (on_run_passes k.examination.place h.on_run) κs a r t p (q ∙ h.bytes)

  -- whatever was done
  pub on_run : {x : Examination} {l : List Saved} → History s x l → OnRun the_bounds ps x.place × AllSound s ps l
  on_run (starts κs a r t p q {e = x} z) =
      let y : x ≡ examination_at (start_of ps) = same_opened x (examination_at (start_of ps)) (sym z ∙ start_is κs a r t p ps (ap accepted q ∙ e)) in
      (rw y here, tt)
  on_run (slices {d = d} h κs a r t p q z c) =
      let i = on_run h in
      let n = a.1.1.0 in
      (rw (← c, cut_is d i.0 κs a r t p q z) (stays d n (slice the_bounds ps n d.place) (right the_bounds ps d.place i.0 n)), i.1)
  on_run (writes {d = d} h κs a r t p q z n m {e = x} c {k = k} w) =
      let i = on_run h in
      let y : x ≡ d = sym c ∙ held κs a r t p ∙ q in
      let f : take n t.1.1.0.now ≡ checkpoint x.place s = (written κs a r t p n m).front ∙ rw (q, z, y) refl in
      (rw y i.0, (rw w (record { bytes = f; on_run = rw y i.0 }), i.1))
  on_run (refused h κs a r t p q f m c) = let i = on_run h in (rw (← c, slice_held κs a r t p f m, q) i.0, i.1)
  on_run (writes_away h κs a r t p q c) = let i = on_run h in (rw (← c, held κs a r t p, q) i.0, i.1)
  on_run (restarts h i k rest d κs a r t p q {e = x} z) =
      let g = on_run h in
      let o = sound_at s ps _ i k rest d g.1 in
      let y : x ≡ k.examination = same_opened x k.examination (sym z ∙ read_as k o κs a r t p q) in
      (rw y o.on_run, g.1)

  -- ---- demand 3

  -- each slice answers what it has to
  pub every_slice : (x : Examination) (l : List Saved) → History s x l → (κs : _) (a : _) (r : _) (t : _) → cut.Post κs a r t → a.0 ≡ x → a.1.0.now ≡ s → Answers ps x a.1.1.0 r
  every_slice x l h κs a r t p q z =
      let w = (on_run h).0 in
      let n = a.1.1.0 in
      rw (cut_is x w κs a r t p q z) (answers x n (slice the_bounds ps n x.place) (right the_bounds ps x.place w n))

  -- a writing with room says so
  pub every_writing : (x : Examination) (l : List Saved) → History s x l → (κs : _) (a : _) (r : _) (t : _) → write_checkpoint.Post κs a r t → a.0 ≡ x → a.1.0.now ≡ s → head_length + length s ≤ length a.1.1.0.now
      → r.said ≡ Ok (head_length + length s)
  every_writing x l h κs a r t p q z room =
      writes_it κs a r t p ps (rw (q, z) (on_run_passes x.place (on_run h).0)) (rw z room) ∙ rw z refl

  -- each checkpoint that was written is read as the examination that was held then
  pub every_restart : (x : Examination) (l : List Saved) → History s x l → (i : ℕ) (k : Saved) (rest : List Saved) → drop i l ≡ k ∷ rest → (κs : _) (a : _) (r : _) (t : _) → read_checkpoint.Post κs a r t → a.0.now ≡ k.bytes
      → r ≡ Ok k.examination
  every_restart x l h i k rest d κs a r t p q = read_as k (sound_at s ps l i k rest d (on_run h).1) κs a r t p q

  -- and holds the image
  pub every_image : (x : Examination) (l : List Saved) → History s x l → (i : ℕ) (k : Saved) (rest : List Saved) → drop i l ≡ k ∷ rest → (κs : _) (a : _) (r : _) (t : _) → checkpoint_image.Post κs a r t → a.0.now ≡ k.bytes → r.now ≡ s
  every_image x l h i k rest d κs a r t p q =
      let o = sound_at s ps l i k rest d (on_run h).1 in
      checkpoint_holds s k.examination ps (on_run_passes k.examination.place o.on_run) κs a r t p (q ∙ o.bytes)
