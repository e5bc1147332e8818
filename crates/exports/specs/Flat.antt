-- The flat answers, field by field, as pictures of the paper's values (definition's and examiner's specs/Values.antt). Document 01: "A refusal returns
-- number and place, and a lent examination unchanged; other result fields are 0 and a returned part is empty."
use Rattle.std.specs.Prelude.{ℕ, List, [], ◌∷◌, length, take, drop, Ok, Err, Option, None, Some}
use Rattle.definition.specs.declared.Place.{Place}
use Rattle.definition.specs.declared.Outcome.{Outcome}
use Rattle.definition.specs.Table.{Told}
use Rattle.definition.specs.Verdict.{place}
use Rattle.definition.specs.Values.{Values, CountedValues, NumberedValues, SatisfiableValues}
use Rattle.definition.specs.Checkpoint.{head_length}
use Rattle.examiner.specs.declared.Sliced.{Sliced}
use Rattle.examiner.specs.Values.{OpenedValues, WrittenValues, sliced_values}
use Rattle.exports.specs.declared.Standing.{Standing}
use Rattle.exports.specs.declared.CountedAnswer.{CountedAnswer}
use Rattle.exports.specs.declared.NumberedAnswer.{NumberedAnswer}
use Rattle.exports.specs.declared.SatisfiableAnswer.{SatisfiableAnswer}
use Rattle.exports.specs.declared.OpenedAnswer.{OpenedAnswer}
use Rattle.exports.specs.declared.CheckedAnswer.{CheckedAnswer}
use Rattle.exports.specs.declared.SlicedAnswer.{SlicedAnswer}
use Rattle.exports.specs.declared.WrittenAnswer.{WrittenAnswer}
use Rattle.exports.specs.declared.ImagePart.{ImagePart}

-- ---- an examination

-- where an examination at a place stands
abbrev pub standing_at : Place → Standing
standing_at p = record { phase = p.phase; path = p.path; mask = p.mask; count = p.count }

-- the place of an examination that is handed over
abbrev pub place_at : Standing → Place
place_at e = place e.phase e.path e.mask e.count

-- ---- the answers

-- `count_paths`
abbrev pub counted_flat : CountedValues → CountedAnswer
counted_flat v = record { number = v.number; place = v.at; paths = v.paths }

-- `path_free_atoms`
abbrev pub numbered_flat : NumberedValues → NumberedAnswer
numbered_flat v = record { number = v.number; place = v.at; sigs = v.sigs; frees = v.frees }

-- both queries
abbrev pub satisfiable_flat : SatisfiableValues → SatisfiableAnswer
satisfiable_flat v = record { number = v.number; place = v.at; found = v.found; mask = v.mask }

-- `start` and `read_checkpoint`
abbrev pub opened_flat : OpenedValues → OpenedAnswer
opened_flat v = record { number = v.number; place = v.at; examination = standing_at v.place }

-- `check_necessity`
abbrev pub checked_flat : Values → CheckedAnswer
checked_flat v = record { number = v.number; place = v.at; verdict = v.verdict; reason = v.reason; path = v.path; start = v.location.start; end = v.location.end; line = v.location.line; column = v.location.column; mask = v.mask; total = v.total }

-- whether a slice came to an end: 1 there, 0 at a "not yet" and at a refusal
abbrev pub ended_of : Told (Option Outcome) → ℕ
ended_of (Err r) = 0
ended_of (Ok None) = 0
ended_of (Ok (Some o)) = 1

-- the answer of a slice from its parts
abbrev pub told_flat : ℕ → CheckedAnswer → Standing → SlicedAnswer
told_flat n v e = record { ended = n; said = v; examination = e }

-- `slice`
abbrev pub sliced_flat : Sliced → SlicedAnswer
sliced_flat r = told_flat (ended_of r.said) (checked_flat (sliced_values r).said) (standing_at (sliced_values r).place)

-- `write_checkpoint`
abbrev pub written_flat : WrittenValues → WrittenAnswer
written_flat v = record { number = v.number; place = v.at; length = v.length; examination = standing_at v.place }

-- `checkpoint_image`: where the image stands in the bytes, and how long it is; "a returned part is empty" at offset 0. An image that is accepted has
-- its head, so it is never empty.
abbrev pub part_flat : List ℕ → ImagePart
part_flat [] = record { offset = 0; length = 0 }
part_flat (x ∷ xs) = record { offset = head_length; length = length (x ∷ xs) }

-- the part of the bytes that an offset and a length tell
abbrev pub shown_part : ImagePart → List ℕ → List ℕ
shown_part p s = take p.length (drop p.offset s)
