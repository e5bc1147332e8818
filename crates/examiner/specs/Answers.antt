-- The answers that hold an examination, as pictures of what the definition comes to; and what the inner functions tell. Document 01: "A refusal
-- returns number and place, and a lent examination unchanged".
use Rattle.survey.specs.declared.Sight.{Sight}
use Rattle.std.specs.Prelude.{ℕ, List, Ok, Err}
use Rattle.definition.specs.declared.Bounds.{Bounds}
use Rattle.definition.specs.declared.Place.{Place}
use Rattle.definition.specs.Fault.{Read, ◌>>=◌}
use Rattle.definition.specs.Table.{refusal_of, Told, told}
use Rattle.definition.specs.Place.{Standing, fitting}
use Rattle.survey.specs.Sights.{sight_of}
use Rattle.examiner.specs.declared.Examination.{Examination}
use Rattle.examiner.specs.declared.Sliced.{Sliced}
use Rattle.examiner.specs.declared.Written.{Written}
use Rattle.examiner.specs.declared.running.Stood.{Stood}

-- ---- the public answers

-- the examination at a place
abbrev pub examination_at : Place → Examination
examination_at p = record { place = p }

-- `start` and `read_checkpoint`: the examination, or the refusal
abbrev pub opened_of : Read Place → Told Examination
opened_of (Ok p) = Ok (examination_at p)
opened_of (Err f) = Err (refusal_of f)

-- `slice`: "returns the examination at its new place with the answer"; refused, "a lent examination unchanged"
abbrev pub sliced_of : Examination → Read Standing → Sliced
sliced_of e (Ok a) = record { examination = examination_at a.place; said = Ok a.said }
sliced_of e (Err f) = record { examination = e; said = Err (refusal_of f) }

-- `write_checkpoint`: "a lent examination unchanged", and how many bytes are written
abbrev pub written_of : Examination → Read ℕ → Written
written_of e r = record { examination = e; said = told r }

-- ---- inside

-- an image that is accepted and that the place fits, or the first fault
abbrev pub judge_of : Bounds → List ℕ → Place → Read Sight
judge_of b s p = fitting b s p >>= λ ps. sight_of s

-- where a slice stands, and the end if it is come to
abbrev pub stood_of : Standing → Stood
stood_of a = record { place = a.place; end = a.said }
