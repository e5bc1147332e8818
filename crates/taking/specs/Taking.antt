-- Taking up an examination: a new one, or one that was kept, and that only for the image that it is of.
use Rattle.std.specs.Prelude.{ℕ, ◌≡◌, List, Result, Err, Ok}
use Rattle.definition.specs.Table.{Told}
use Rattle.definition.specs.Verdict.{the_bounds}
use Rattle.definition.specs.Checkpoint.{read_checkpoint, checkpoint_image}
use Rattle.examiner.specs.declared.Examination.{Examination}
use Rattle.examiner.specs.Answers.{opened_of}
use Rattle.taking.specs.declared.NotTaken.{NotTaken}

-- an examination that is opened, as what there is to go on with
abbrev pub begun : Told Examination → Result Examination NotTaken
begun (Err r) = Err (NotTaken.Refused r)
begun (Ok e) = Ok e

-- what the bytes are when they are read as a checkpoint
abbrev pub read_back : List ℕ → Told Examination
read_back bytes = opened_of (read_checkpoint the_bounds bytes)

-- what there is to go on with from these bytes, for this image: what reading them gives, and an examination only where the image in them is this one
abbrev pub TakesUp : List ℕ → List ℕ → Result Examination NotTaken → Type 0
TakesUp bytes image (Err (NotTaken.Refused r)) = read_back bytes ≡ Err r
TakesUp bytes image (Ok e) = (read_back bytes ≡ Ok e) × (checkpoint_image the_bounds bytes ≡ image)
TakesUp bytes image (Err NotTaken.OtherImage) = ((e : Examination) × (read_back bytes ≡ Ok e)) × (checkpoint_image the_bounds bytes ≡ image → ⊥)
