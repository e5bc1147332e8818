-- The round trip through the public entries: what is written at the front of a buffer is read as the same examination and the same image, and
-- the rest of the buffer is as before. In the calls' contracts a .0 is the examination, or the bytes that are read, a.1.0 the image,
-- a.1.1.0 the buffer and t.1.1.0 the buffer afterwards.
use Rattle.std.specs.Prelude.{Ok, Err}
use mathlib.Core.Path.{◌≡◌, refl, sym, ap, ◌∙◌}
use mathlib.Core.List.{List, ◌++◌}
use Prim.Native.Nat.{ℕ, ◌+◌, ◌≤◌}
use native.Mathlib.Omega.{arith}
use lib.ListN.{length, take, drop}
use lib.Seq.{take-append_seam, drop-append_seam}
use borrow.Author.Tests.{le-ltb}
use Rattle.definition.specs.declared.Place.{Place}
use Rattle.definition.specs.Fault.{Read, ◌>>=◌, ◌>>◌, refuse}
use Rattle.definition.specs.Accepted.{Compiled}
use Rattle.definition.specs.Verdict.{the_bounds}
use Rattle.definition.specs.Place.{fitting}
use Rattle.definition.specs.Checkpoint.{head_length, checkpoint, read_checkpoint, checkpoint_image, write_checkpoint, overlaid, buffer_after}
use Rattle.definition.proofs.Steps.{same_got, step_got, past}
use Rattle.definition.proofs.Keeping.{checkpoint_length_lem, checkpoint_back, image_back}
use Rattle.examiner.specs.declared.Examination.{Examination}
use Rattle.examiner.specs.declared.Written.{Written}
use Rattle.examiner.specs.Answers.{opened_of, written_of}
use Rattle.examiner.proofs.Examination.write_checkpoint.Reads as write_checkpoint
use Rattle.examiner.proofs.read_checkpoint.Reads as read_checkpoint
use Rattle.examiner.proofs.checkpoint_image.Reads as checkpoint_image

-- n bytes were written of the examination e of the image s: its checkpoint, before the rest of the buffer
pub record Keeps (s : List ℕ) (e : Examination) (n : ℕ) (before after : List ℕ) : Type 0 where
  pub paths : List Compiled
  pub fits : fitting the_bounds s e.place ≡ Ok paths
  pub long : n ≡ head_length + length s
  pub front : take n after ≡ checkpoint e.place s
  pub rest : drop n after ≡ drop n before

-- where there is a number, it is the checkpoint's length
module _ (s : List ℕ) (p : Place) (buffer : List ℕ) (n : ℕ) (w : write_checkpoint the_bounds s p (length buffer) ≡ Ok n) where
  passed : (ps : List Compiled) × (fitting the_bounds s p ≡ Ok ps) × (n ≡ head_length + length s)
  unfolding write_checkpoint
  passed = let i = step_got _ _ _ w in let j = past _ _ _ _ i.2 in (i.0, i.1, sym (same_got _ n j.1))

  after_is : buffer_after the_bounds s p buffer ≡ checkpoint p s ++ drop n buffer
  unfolding buffer_after overlaid
  after_is = rw w

  same_length : n ≡ length (checkpoint p s)
  same_length = passed.2 ∙ sym (checkpoint_length_lem p s)

  -- so it stands in the buffer
  pub keeps : (e : Examination) → e.place ≡ p → Keeps s e n buffer (buffer_after the_bounds s p buffer)
  keeps e z = rw (z, after_is) (record {
    paths = passed.0;
    fits = passed.1;
    long = passed.2;
    front = ap (λ (k : ℕ). take k (checkpoint p s ++ drop n buffer)) same_length ∙ take-append_seam (checkpoint p s) (drop n buffer);
    rest = ap (λ (k : ℕ). drop k (checkpoint p s ++ drop n buffer)) same_length ∙ drop-append_seam (checkpoint p s) (drop n buffer);
  })

-- a length that is said is what writing comes to
said_length : (e : Examination) (x : Read ℕ) (n : ℕ) → (written_of e x).said ≡ Ok n → x ≡ Ok n
said_length e (Ok m) n q = let z : m ≡ n = cc in ap Ok z
said_length e (Err f) n q = let z : ◌≡◌ {A = ℕ} 0 1 = cc in absurd (omega arith)

-- whatever is said, the examination that was lent comes back as it was
pub held : (κs : _) (a : _) (r : _) (t : _) → write_checkpoint.Post κs a r t → r.examination ≡ a.0
held κs a r t p = ap (λ (x : Written). x.examination) p.0

-- a writing that says how many bytes it wrote
pub written : (κs : _) (a : _) (r : _) (t : _) → write_checkpoint.Post κs a r t → (n : ℕ) → r.said ≡ Ok n → Keeps a.1.0.now a.0 n a.1.1.0.now t.1.1.0.now
written κs a r t p n q =
    let w = said_length a.0 (write_checkpoint the_bounds a.1.0.now a.0.place (length a.1.1.0.now)) n (sym (ap (λ (x : Written). x.said) p.0) ∙ q) in
    rw p.1 (keeps a.1.0.now a.0.place a.1.1.0.now n w a.0 refl)

-- it does so wherever the place fits the image and there is room
pub writes : (κs : _) (a : _) (r : _) (t : _) → write_checkpoint.Post κs a r t → (ps : List Compiled) → fitting the_bounds a.1.0.now a.0.place ≡ Ok ps → head_length + length a.1.0.now ≤ length a.1.1.0.now
    → r.said ≡ Ok (head_length + length a.1.0.now)
unfolding write_checkpoint refuse ◌>>◌ ◌>>=◌
writes κs a r t p ps f h =
    ap (λ (x : Written). x.said) (p.0 ∙ ap (written_of a.0) {y = Ok (head_length + length a.1.0.now)} (rw (f, le-ltb _ _ h) refl))

-- ---- reading

module _ (s : List ℕ) (e : Examination) (ps : List Compiled) (fits : fitting the_bounds s e.place ≡ Ok ps) where
  -- a checkpoint is read as its examination
  pub checkpoint_read : (κs : _) (a : _) (r : _) (t : _) → read_checkpoint.Post κs a r t → a.0.now ≡ checkpoint e.place s → r ≡ Ok e
  checkpoint_read κs a r t p q = p ∙ ap (λ (l : List ℕ). opened_of (read_checkpoint the_bounds l)) q ∙ ap opened_of (checkpoint_back the_bounds e.place s ps fits)

  -- and holds its image
  pub checkpoint_holds : (κs : _) (a : _) (r : _) (t : _) → checkpoint_image.Post κs a r t → a.0.now ≡ checkpoint e.place s → r.now ≡ s
  checkpoint_holds κs a r t p q = p ∙ ap (checkpoint_image the_bounds) q ∙ image_back the_bounds e.place s ps fits

-- the round trip: the bytes that were written are read as the examination that was lent
pub read_back : (s : List ℕ) (e : Examination) (n : ℕ) (before after : List ℕ) → Keeps s e n before after → (κs : _) (a : _) (r : _) (t : _) → read_checkpoint.Post κs a r t → a.0.now ≡ take n after → r ≡ Ok e
read_back s e n before after k κs a r t p q = checkpoint_read s e k.paths k.fits κs a r t p (q ∙ k.front)

-- and their part is the image
pub part_back : (s : List ℕ) (e : Examination) (n : ℕ) (before after : List ℕ) → Keeps s e n before after → (κs : _) (a : _) (r : _) (t : _) → checkpoint_image.Post κs a r t → a.0.now ≡ take n after → r.now ≡ s
part_back s e n before after k κs a r t p q = checkpoint_holds s e k.paths k.fits κs a r t p (q ∙ k.front)
