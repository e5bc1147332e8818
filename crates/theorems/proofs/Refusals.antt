-- Demand 1 through the public entries: a refusal is one of the table's, gives back the examination that was lent and writes no byte; which
-- refusal it is, in document 01's order; and a checkpoint's image is empty exactly where reading the checkpoint is refused. In the calls' contracts
-- a.0 is the examination, or the bytes that are read, a.1.0 the image, a.1.1.0 the buffer and t.1.1.0 the buffer afterwards.
use Rattle.std.specs.Prelude.{Ok, Err}
use mathlib.Core.Path.{◌≡◌, refl, sym, ap, ◌∙◌}
use mathlib.Core.Bool.{true, false}
use mathlib.Core.Logic.{◌↔◌}
use mathlib.Core.List.{List, []}
use Prim.Native.Nat.{ℕ, ◌+◌, ◌≤◌, ◌<◌}
use native.Mathlib.Omega.{arith}
use lib.ListN.{length, drop}
use borrow.Author.Tests.{lt-ltb, le-ltb, eq-eqb, ne_eqb}
use Rattle.definition.specs.declared.Kind.{Kind}
use Rattle.definition.specs.declared.Kind.TheVariants.{TooLong, NotMarked, OtherVersion, BadMode, LeftOver, TagMissing, TagUnknown, TooDeep, TooMany, CutShort, OpUnknown, BadFlag, BadBoolean, TooManyPaths, Overflows, CheckpointHead, CheckpointVersion, CheckpointPlace, BufferShort, NoSuchPath}
use Rattle.definition.specs.declared.Fault.{Fault}
use Rattle.definition.specs.declared.Place.{Place}
use Rattle.definition.specs.declared.Refusal.{Refusal}
use Rattle.definition.specs.Bytes.{be16}
use Rattle.definition.specs.Fault.{Read, fault, ◌>>=◌, ◌>>◌, refuse}
use Rattle.definition.specs.Table.{number_of, refusal_of, Told}
use Rattle.definition.specs.Reading.{marked}
use Rattle.definition.specs.Accepted.{Compiled, accepted}
use Rattle.definition.specs.Verdict.{the_bounds}
use Rattle.definition.specs.Place.{slice, fits, fitting, sliced}
use Rattle.definition.specs.Checkpoint.{head_length, place_in, read_checkpoint, image_part, checkpoint_image, write_checkpoint, overlaid, buffer_after}
use Rattle.definition.proofs.Steps.{bad_got, step_got, past, on_got, on_bad}
use Rattle.definition.proofs.Keeping.{fitting_is, fitting_refused, fitting_unfit, fitting_inv}
use Rattle.definition.proofs.Computing.{computing}
use Rattle.examiner.specs.declared.Examination.{Examination}
use Rattle.examiner.specs.declared.Sliced.{Sliced}
use Rattle.examiner.specs.declared.Written.{Written}
use Rattle.examiner.specs.Answers.{examination_at, opened_of, sliced_of, written_of}
use Rattle.examiner.proofs.Examination.slice.Reads as cut
use Rattle.examiner.proofs.Examination.write_checkpoint.Reads as write_checkpoint
use Rattle.examiner.proofs.read_checkpoint.Reads as read_checkpoint
use Rattle.examiner.proofs.checkpoint_image.Reads as checkpoint_image

-- ---- the table is closed

-- the number of every kind of fault is from 1 to 13
numbered : (k : Kind) → (1 ≤ number_of k) × (number_of k ≤ 13)
numbered TooLong = (omega arith, omega arith)
numbered NotMarked = (omega arith, omega arith)
numbered OtherVersion = (omega arith, omega arith)
numbered BadMode = (omega arith, omega arith)
numbered LeftOver = (omega arith, omega arith)
numbered TagMissing = (omega arith, omega arith)
numbered TagUnknown = (omega arith, omega arith)
numbered TooDeep = (omega arith, omega arith)
numbered TooMany = (omega arith, omega arith)
numbered CutShort = (omega arith, omega arith)
numbered OpUnknown = (omega arith, omega arith)
numbered BadFlag = (omega arith, omega arith)
numbered BadBoolean = (omega arith, omega arith)
numbered TooManyPaths = (omega arith, omega arith)
numbered Overflows = (omega arith, omega arith)
numbered CheckpointHead = (omega arith, omega arith)
numbered CheckpointVersion = (omega arith, omega arith)
numbered CheckpointPlace = (omega arith, omega arith)
numbered BufferShort = (omega arith, omega arith)
numbered NoSuchPath = (omega arith, omega arith)

-- and so is that of every refusal, since each is a fault's
pub closed : (f : Fault) → (1 ≤ (refusal_of f).number) × ((refusal_of f).number ≤ 13)
closed f = numbered f.kind

-- 11 at 5, 12 at 0
pub numbers : (refusal_of (fault CheckpointPlace 5 5) ≡ record { number = 11; place = 5 }) × (refusal_of (fault BufferShort 0 0) ≡ record { number = 12; place = 0 })
numbers = (refl, refl)

-- ---- a slice

-- refused: the examination that was lent, and the fault's number and place
abbrev pub slice_refused : Examination → Fault → Sliced
slice_refused e f = record { examination = e; said = Err (refusal_of f) }

slice_stops : (e : Examination) (s : List ℕ) (n : ℕ) (f : Fault) → fitting the_bounds s e.place ≡ Err f → sliced_of e (sliced the_bounds s n e.place) ≡ slice_refused e f
unfolding sliced
slice_stops e s n f q = ap (sliced_of e) (on_bad _ _ f q)

-- by the image's own fault
pub slice_image_refused : (κs : _) (a : _) (r : _) (t : _) → cut.Post κs a r t → (f : Fault) → accepted a.1.0.now ≡ Err f → r ≡ slice_refused a.0 f
slice_image_refused κs a r t p f e = p ∙ slice_stops a.0 a.1.0.now a.1.1.0 f (fitting_refused the_bounds a.1.0.now a.0.place f e)

-- by a place that does not fit the image: 11 at 5
pub slice_place_refused : (κs : _) (a : _) (r : _) (t : _) → cut.Post κs a r t → (ps : List Compiled) → accepted a.1.0.now ≡ Ok ps → fits the_bounds ps a.0.place ≡ false → r ≡ slice_refused a.0 (fault CheckpointPlace 5 5)
slice_place_refused κs a r t p ps e u = p ∙ slice_stops a.0 a.1.0.now a.1.1.0 _ (fitting_unfit the_bounds a.1.0.now a.0.place ps e u)

-- and nothing else refuses it: from any place that fits, reached by a run or not, it is that many trials from there on
pub slice_runs : (κs : _) (a : _) (r : _) (t : _) → cut.Post κs a r t → (ps : List Compiled) → accepted a.1.0.now ≡ Ok ps → fits the_bounds ps a.0.place ≡ true → r ≡ sliced_of a.0 (Ok (slice the_bounds ps a.1.1.0 a.0.place))
unfolding sliced ◌>>=◌
slice_runs κs a r t p ps e u = p ∙ rw (fitting_is the_bounds a.1.0.now a.0.place ps e u) refl

-- ---- writing a checkpoint

-- refused: the examination that was lent, the fault's number and place, and the buffer as it was
pub record WriteRefused (e : Examination) (f : Fault) (r : Written) (before after : List ℕ) : Type 0 where
  pub answer : r ≡ record { examination = e; said = Err (refusal_of f) }
  pub buffer : after ≡ before

module _ (e : Examination) (s buffer : List ℕ) (f : Fault) (q : write_checkpoint the_bounds s e.place (length buffer) ≡ Err f) where
  write_stops : (r : Written) (after : List ℕ) → r ≡ written_of e (write_checkpoint the_bounds s e.place (length buffer)) → after ≡ buffer_after the_bounds s e.place buffer → WriteRefused e f r buffer after
  unfolding buffer_after overlaid
  write_stops r after x y = record { answer = x ∙ ap (written_of e) q; buffer = y ∙ rw q refl }

-- by the image's own fault
pub write_image_refused : (κs : _) (a : _) (r : _) (t : _) → write_checkpoint.Post κs a r t → (f : Fault) → accepted a.1.0.now ≡ Err f → WriteRefused a.0 f r a.1.1.0.now t.1.1.0.now
unfolding write_checkpoint ◌>>=◌
write_image_refused κs a r t p f e = write_stops a.0 a.1.0.now a.1.1.0.now f (rw (fitting_refused the_bounds a.1.0.now a.0.place f e) refl) r t.1.1.0.now p.0 p.1

-- by a place that does not fit the image: 11 at 5
pub write_place_refused : (κs : _) (a : _) (r : _) (t : _) → write_checkpoint.Post κs a r t → (ps : List Compiled) → accepted a.1.0.now ≡ Ok ps → fits the_bounds ps a.0.place ≡ false
    → WriteRefused a.0 (fault CheckpointPlace 5 5) r a.1.1.0.now t.1.1.0.now
unfolding write_checkpoint ◌>>=◌
write_place_refused κs a r t p ps e u = write_stops a.0 a.1.0.now a.1.1.0.now _ (rw (fitting_unfit the_bounds a.1.0.now a.0.place ps e u) refl) r t.1.1.0.now p.0 p.1

-- by a buffer that is too short: 12 at 0
pub write_short_refused : (κs : _) (a : _) (r : _) (t : _) → write_checkpoint.Post κs a r t → (ps : List Compiled) → accepted a.1.0.now ≡ Ok ps → fits the_bounds ps a.0.place ≡ true
    → length a.1.1.0.now < head_length + length a.1.0.now → WriteRefused a.0 (fault BufferShort 0 0) r a.1.1.0.now t.1.1.0.now
unfolding write_checkpoint refuse ◌>>◌ ◌>>=◌
write_short_refused κs a r t p ps e u h =
    write_stops a.0 a.1.0.now a.1.1.0.now _ (rw (fitting_is the_bounds a.1.0.now a.0.place ps e u, lt-ltb _ _ h) refl) r t.1.1.0.now p.0 p.1

-- ---- reading a checkpoint

-- "16 bytes and mark": 11 at 0
pub read_short_refused : (κs : _) (a : _) (r : _) (t : _) → read_checkpoint.Post κs a r t → length a.0.now < head_length → r ≡ Err (record { number = 11; place = 0 })
unfolding read_checkpoint refuse ◌>>◌ ◌>>=◌
read_short_refused κs a r t p h = p ∙ rw (lt-ltb _ _ h) refl

pub read_mark_refused : (κs : _) (a : _) (r : _) (t : _) → read_checkpoint.Post κs a r t → head_length ≤ length a.0.now → marked 67 a.0.now ≡ false → r ≡ Err (record { number = 11; place = 0 })
unfolding read_checkpoint refuse ◌>>◌ ◌>>=◌
read_mark_refused κs a r t p h m = p ∙ rw (le-ltb _ _ h, m) refl

-- "version": 11 at 3
pub read_version_refused : (κs : _) (a : _) (r : _) (t : _) → read_checkpoint.Post κs a r t → head_length ≤ length a.0.now → marked 67 a.0.now ≡ true → (be16 a.0.now 3 ≡ 1 → ⊥) → r ≡ Err (record { number = 11; place = 3 })
unfolding read_checkpoint refuse ◌>>◌ ◌>>=◌
read_version_refused κs a r t p h m v = p ∙ rw (le-ltb _ _ h, m, ne_eqb _ _ v) refl

-- a head with mark and version
pub record Headed (s : List ℕ) : Type 0 where
  pub long : head_length ≤ length s
  pub mark : marked 67 s ≡ true
  pub version : be16 s 3 ≡ 1

-- behind it image and place decide
headed_is : (s : List ℕ) → Headed s → read_checkpoint the_bounds s ≡ (fitting the_bounds (drop head_length s) (place_in s) >>= λ ps. Ok (place_in s))
unfolding read_checkpoint refuse ◌>>◌ ◌>>=◌
headed_is s h = rw (le-ltb _ _ h.long, h.mark, eq-eqb _ _ h.version) refl

-- "the image (its own numbers, places counted in the image)"
pub read_image_refused : (κs : _) (a : _) (r : _) (t : _) → read_checkpoint.Post κs a r t → Headed a.0.now → (f : Fault) → accepted (drop head_length a.0.now) ≡ Err f → r ≡ Err (refusal_of f)
read_image_refused κs a r t p h f e = p ∙ ap opened_of (headed_is a.0.now h ∙ on_bad _ _ f (fitting_refused the_bounds _ _ f e))

-- "place fields (11)": at 5
pub read_place_refused : (κs : _) (a : _) (r : _) (t : _) → read_checkpoint.Post κs a r t → Headed a.0.now → (ps : List Compiled) → accepted (drop head_length a.0.now) ≡ Ok ps → fits the_bounds ps (place_in a.0.now) ≡ false
    → r ≡ Err (refusal_of (fault CheckpointPlace 5 5))
read_place_refused κs a r t p h ps e u = p ∙ ap opened_of (headed_is a.0.now h ∙ on_bad _ _ _ (fitting_unfit the_bounds _ _ ps e u))

-- and nothing else refuses it
pub read_is : (κs : _) (a : _) (r : _) (t : _) → read_checkpoint.Post κs a r t → Headed a.0.now → (ps : List Compiled) → accepted (drop head_length a.0.now) ≡ Ok ps → fits the_bounds ps (place_in a.0.now) ≡ true
    → r ≡ Ok (examination_at (place_in a.0.now))
read_is κs a r t p h ps e u = p ∙ ap opened_of (headed_is a.0.now h ∙ on_got _ _ ps (fitting_is the_bounds _ _ ps e u))

-- ---- the part of a checkpoint

-- no bytes are no image
nothing_accepted : accepted [] ≡ Err (fault NotMarked 0 0)
unfolding computing
nothing_accepted = refl

-- the image of a checkpoint that is read is not empty
not_empty : (s : List ℕ) (p : Place) → read_checkpoint the_bounds s ≡ Ok p → drop head_length s ≡ [] → ⊥
unfolding read_checkpoint
not_empty s p q z =
    let i = past _ _ _ _ q in
    let j = past _ _ _ _ i.1 in
    let k = past _ _ _ _ j.1 in
    let f = step_got _ _ _ k.1 in
    bad_got (fault NotMarked 0 0) f.0 (sym nothing_accepted ∙ ap accepted (sym z) ∙ (fitting_inv the_bounds _ _ f.0 f.1).0)

-- by what the reading comes to
by_reading : (s : List ℕ) (r : Told Examination) (part : List ℕ) → r ≡ opened_of (read_checkpoint the_bounds s) → part ≡ checkpoint_image the_bounds s → (x : Read Place) → read_checkpoint the_bounds s ≡ x
    → ((f : Refusal) × (r ≡ Err f)) ↔ (part ≡ [])
unfolding checkpoint_image image_part
by_reading s r part p q (Ok x) e = (
  λ g. (let y : Ok (examination_at x) ≡ Err g.0 = sym (p ∙ ap opened_of e) ∙ g.1 in let z : ◌≡◌ {A = ℕ} 0 1 = cc in absurd (omega arith)),
  λ g. absurd (not_empty s x e (sym (q ∙ ap (λ (y : Read Place). image_part y s) e) ∙ g)),
)
by_reading s r part p q (Err f) e = (λ g. q ∙ ap (λ (y : Read Place). image_part y s) e, λ g. (refusal_of f, p ∙ ap opened_of e))

-- the part of a checkpoint is empty exactly where reading it is refused
pub empty_exactly : (κs : _) (a : _) (r : _) (t : _) → read_checkpoint.Post κs a r t → (κs' : _) (a' : _) (r' : _) (t' : _) → checkpoint_image.Post κs' a' r' t' → a'.0.now ≡ a.0.now
    → ((f : Refusal) × (r ≡ Err f)) ↔ (r'.now ≡ [])
empty_exactly κs a r t p κs' a' r' t' p' z = by_reading a.0.now r r'.now p (p' ∙ ap (checkpoint_image the_bounds) z) (read_checkpoint the_bounds a.0.now) refl
