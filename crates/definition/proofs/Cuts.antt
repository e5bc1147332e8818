-- Slices and checkpoints on small contracts, from the bytes on: each table is one statement, proved by computing it.
use Rattle.std.specs.Prelude.{Ok, Err}
use mathlib.Core.Path.{◌≡◌, refl}
use mathlib.Core.List.{List, [], ◌∷◌, ◌++◌, map}
use Prim.Native.Nat.{ℕ}
use lib.ListN.{length, take, replicate}
use Rattle.definition.specs.declared.Bounds.{Bounds}
use Rattle.definition.specs.declared.Place.{Place}
use Rattle.definition.specs.declared.Kind.TheVariants.{NotMarked, BadMode, CheckpointHead, CheckpointVersion, CheckpointPlace, BufferShort}
use Rattle.definition.specs.declared.Reason.{Reason}
use Rattle.definition.specs.declared.Verdict.{Verdict}
use Rattle.definition.specs.declared.Verdict.TheVariants.{NoSigRequired, DeadPath}
use Rattle.definition.specs.Bytes.{put16, put32}
use Rattle.definition.specs.Tree.{done}
use Rattle.definition.specs.Fault.{Read, fault}
use Rattle.definition.specs.Verdict.{the_bounds, place, outcome}
use Rattle.definition.specs.Place.{Standing, not_yet, done as ends, sliced}
use Rattle.definition.specs.Checkpoint.{read_checkpoint, checkpoint_image, write_checkpoint, buffer_after}
use Rattle.definition.specs.Values.{nowhere}
use Rattle.definition.proofs.Computing.{computing}
use Rattle.definition.proofs.Contracts.{image, returns, c, x, c', no', and}

-- ---- slices

pub record Cut : Type 0 where
  pub bounds : Bounds
  pub bytes : List ℕ
  pub from : Place
  pub budget : ℕ
  pub gives : Read Standing

-- an end: the slice leaves the place at which it was found
abbrev end : Place → Verdict → ℕ → Read Standing
end p v t = Ok (ends p (outcome v p t))

abbrev cut : List ℕ → Place → ℕ → Read Standing → Cut
cut s p n g = record { bounds = the_bounds; bytes = s; from = p; budget = n; gives = g }

-- the same under the bounds 1 and 2
abbrev narrow : List ℕ → Place → ℕ → Read Standing → Cut
narrow s p n g = record { bounds = record { free = 1; all = 2 }; bytes = s; from = p; budget = n; gives = g }

abbrev unfit : Read Standing
unfit = Err (fault CheckpointPlace 5 5)

-- P1, P2 and P6; two variables and c; one variable, two checksigs and false
abbrev p1 : List ℕ
p1 = image done

abbrev p2 : List ℕ
p2 = image (returns c)

abbrev p6 : List ℕ
p6 = image (returns no')

abbrev wide : List ℕ
wide = image (returns (and x (and x c)))

abbrev broad : List ℕ
broad = image (returns (and x (and c (and c' no'))))

unfoldable pub cuts : List Cut
cuts =
    -- P6: 1 assignment in each phase, then an end that needs no trial
    cut p6 (place 0 0 0 0) 0 (Ok (not_yet (place 0 0 0 0)))
    ∷ cut p6 (place 0 0 0 0) 1 (Ok (not_yet (place 1 0 0 1)))
    ∷ cut p6 (place 0 0 0 0) 2 (end (place 1 1 0 2) (DeadPath nowhere) 2)
    ∷ cut p6 (place 0 0 0 0) 1000 (end (place 1 1 0 2) (DeadPath nowhere) 2)
    ∷ cut p6 (place 1 1 0 2) 0 (end (place 1 1 0 2) (DeadPath nowhere) 2)
    -- P2: an end by a trial leaves the place before it
    ∷ cut p2 (place 0 0 0 0) 2 (Ok (not_yet (place 1 0 1 2)))
    ∷ cut p2 (place 0 0 0 0) 3 (end (place 1 0 1 2) Verdict.Ok 3)
    ∷ cut p2 (place 1 0 1 2) 1 (end (place 1 0 1 2) Verdict.Ok 3)
    ∷ cut p2 (place 1 0 1 2) 0 (Ok (not_yet (place 1 0 1 2)))
    -- a place past a satisfying assignment fits: only the assignments from there on count
    ∷ cut p2 (place 1 1 0 3) 1 (end (place 1 1 0 3) (DeadPath nowhere) 3)
    -- a wrong count, path, mask or phase does not
    ∷ cut p2 (place 0 0 0 1) 1 unfit
    ∷ cut p2 (place 0 1 0 1) 1 unfit
    ∷ cut p2 (place 1 0 2 3) 1 unfit
    ∷ cut p2 (place 2 0 0 0) 1 unfit
    -- no paths: the one place is 1, 0, 0, 0
    ∷ cut p1 (place 1 0 0 0) 0 (end (place 1 0 0 0) Verdict.Ok 0)
    ∷ cut p1 (place 0 0 0 0) 0 unfit
    -- over the Free bound: an end without a trial, and no place after it
    ∷ narrow wide (place 0 0 0 0) 0 (end (place 0 0 0 0) (NoSigRequired Reason.OverBound 0 nowhere 0) 0)
    ∷ narrow wide (place 0 0 1 1) 1 unfit
    ∷ narrow wide (place 1 0 0 0) 1 unfit
    -- over the bound on all atoms: Ok without a trial
    ∷ narrow broad (place 0 0 0 0) 2 (end (place 1 0 0 2) Verdict.Ok 2)
    -- the image's own refusals come first
    ∷ cut [] (place 2 0 0 0) 1 (Err (fault NotMarked 0 0))
    ∷ []

pub cuts_hold : map (λ (r : Cut). sliced r.bounds r.bytes r.budget r.from) cuts ≡ map (λ (r : Cut). r.gives) cuts
unfolding computing cuts
cuts_hold = refl

-- ---- checkpoints

pub record Kept : Type 0 where
  pub bytes : List ℕ
  pub gives : Read Place
  pub holds : List ℕ

abbrev kept : List ℕ → Read Place → List ℕ → Kept
kept s g i = record { bytes = s; gives = g; holds = i }

-- the fields of a place, and an image
abbrev after : ℕ → ℕ → ℕ → ℕ → List ℕ → List ℕ
after q i m n r = q ∷ put16 i (put32 m (put32 n r))

unfoldable pub checkpoints : List Kept
checkpoints =
    kept (66 ∷ 86 ∷ 67 ∷ 0 ∷ 1 ∷ after 1 0 1 2 p2) (Ok (place 1 0 1 2)) p2
    ∷ kept (take 15 (66 ∷ 86 ∷ 67 ∷ 0 ∷ 1 ∷ after 1 0 1 2 p2)) (Err (fault CheckpointHead 0 0)) []
    ∷ kept (66 ∷ 86 ∷ 78 ∷ 0 ∷ 1 ∷ after 1 0 1 2 p2) (Err (fault CheckpointHead 0 0)) []
    ∷ kept (66 ∷ 86 ∷ 67 ∷ 0 ∷ 2 ∷ after 1 0 1 2 p2) (Err (fault CheckpointVersion 3 3)) []
    ∷ kept (66 ∷ 86 ∷ 67 ∷ 0 ∷ 1 ∷ after 9 0 0 0 []) (Err (fault NotMarked 0 0)) []
    ∷ kept (66 ∷ 86 ∷ 67 ∷ 0 ∷ 1 ∷ after 9 0 0 0 (66 ∷ 86 ∷ 78 ∷ 0 ∷ 1 ∷ 2 ∷ [])) (Err (fault BadMode 5 5)) []
    ∷ kept (66 ∷ 86 ∷ 67 ∷ 0 ∷ 1 ∷ after 1 0 1 3 p2) (Err (fault CheckpointPlace 5 5)) []
    ∷ []

pub checkpoints_hold : map (λ (r : Kept). kept r.bytes (read_checkpoint the_bounds r.bytes) (checkpoint_image the_bounds r.bytes)) checkpoints ≡ checkpoints
unfolding computing checkpoints
checkpoints_hold = refl

-- ---- a lent buffer

pub record Lent : Type 0 where
  pub from : Place
  pub buffer : List ℕ
  pub gives : Read ℕ
  pub leaves : List ℕ

abbrev lent : Place → List ℕ → Read ℕ → List ℕ → Lent
lent p b g l = record { from = p; buffer = b; gives = g; leaves = l }

-- P1's checkpoint has 24 bytes
unfoldable pub buffers : List Lent
buffers =
    lent (place 1 0 0 0) (replicate 26 7) (Ok 24) (66 ∷ 86 ∷ 67 ∷ 0 ∷ 1 ∷ after 1 0 0 0 p1 ++ (7 ∷ 7 ∷ []))
    ∷ lent (place 1 0 0 0) (replicate 24 7) (Ok 24) (66 ∷ 86 ∷ 67 ∷ 0 ∷ 1 ∷ after 1 0 0 0 p1)
    ∷ lent (place 1 0 0 0) (replicate 23 7) (Err (fault BufferShort 0 0)) (replicate 23 7)
    ∷ lent (place 0 0 0 0) [] (Err (fault CheckpointPlace 5 5)) []
    ∷ []

pub buffers_hold : map (λ (r : Lent). lent r.from r.buffer (write_checkpoint the_bounds p1 r.from (length r.buffer)) (buffer_after the_bounds p1 r.from r.buffer)) buffers ≡ buffers
unfolding computing buffers
buffers_hold = refl
