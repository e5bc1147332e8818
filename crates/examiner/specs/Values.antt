-- The paper's numbers for each case of the answers that hold an examination; those of the others stand in definition's specs/Values.antt. Document
-- 01: "A refusal returns number and place, and a lent examination unchanged; other result fields are 0".
use Rattle.definition.specs.Table.{Told}
use Rattle.examiner.specs.declared.Examination.{Examination}
use Rattle.std.specs.Prelude.{ℕ, Err, Ok}
use Rattle.definition.specs.declared.Place.{Place}
use Rattle.definition.specs.Verdict.{place}
use Rattle.definition.specs.Values.{Values, ending, said_values}
use Rattle.examiner.specs.declared.numbers.Numbers.{Numbers}
use Rattle.examiner.specs.declared.Sliced.{Sliced}
use Rattle.examiner.specs.declared.Written.{Written}

-- the numbers of an end: "the verdict, its reason, path, return location, mask and total"
abbrev pub values_of : Numbers → Values
values_of n = ending n.verdict n.reason n.path n.location n.mask n.total

-- `start` and `read_checkpoint`: the refusal's number and place, and the examination's place
pub record OpenedValues : Type 0 where
  pub number : ℕ
  pub at : ℕ
  pub place : Place

-- refused, the examination is all zeros
abbrev pub opened_values : Told Examination → OpenedValues
opened_values (Err r) = record { number = r.number; at = r.place; place = place 0 0 0 0 }
opened_values (Ok e) = record { number = 0; at = 0; place = e.place }

-- `slice`: what is said, and the examination's place. "A "not yet" has zeros in every field but the examination."
pub record SlicedValues : Type 0 where
  pub said : Values
  pub place : Place

-- refused, the place is that of the examination that was lent
abbrev pub sliced_values : Sliced → SlicedValues
sliced_values r = record { said = said_values r.said; place = r.examination.place }

-- `write_checkpoint`: the refusal's number and place, how many bytes were written, and the examination's place
pub record WrittenValues : Type 0 where
  pub number : ℕ
  pub at : ℕ
  pub length : ℕ
  pub place : Place

-- what is said of the checkpoint, p being the examination's place: refused, no byte was written
abbrev pub kept_values : Place → Told ℕ → WrittenValues
kept_values p (Err r) = record { number = r.number; at = r.place; length = 0; place = p }
kept_values p (Ok n) = record { number = 0; at = 0; length = n; place = p }

-- the whole answer; the examination is the one that was lent
abbrev pub written_values : Written → WrittenValues
written_values r = kept_values r.examination.place r.said
