-- Document 01, "Numbers that come back": the number of each kind of fault, and which offset of a fault is its place. No other
-- definition knows the numbers.
use Rattle.std.specs.Prelude.{ℕ, Result, Ok, Err}
use Rattle.definition.specs.declared.Kind.{Kind}
use Rattle.definition.specs.declared.Kind.TheVariants.{TooLong, NotMarked, OtherVersion, BadMode, LeftOver, TagMissing, TagUnknown, TooDeep, TooMany, CutShort, OpUnknown, BadFlag, BadBoolean, TooManyPaths, Overflows, CheckpointHead, CheckpointVersion, CheckpointPlace, BufferShort, NoSuchPath}
use Rattle.definition.specs.declared.Fault.{Fault}
use Rattle.definition.specs.declared.Refusal.{Refusal}
use Rattle.definition.specs.Fault.{Read}

-- the column "No."
abbrev pub number_of : Kind → ℕ
number_of NotMarked = 1
number_of OtherVersion = 2
number_of TagMissing = 3
number_of CutShort = 3
number_of TagUnknown = 4
number_of OpUnknown = 4
number_of BadFlag = 4
number_of BadMode = 4
number_of BadBoolean = 4
number_of TooDeep = 5
number_of TooMany = 6
number_of LeftOver = 7
number_of TooLong = 8
number_of TooManyPaths = 9
number_of Overflows = 10
number_of CheckpointHead = 11
number_of CheckpointVersion = 11
number_of CheckpointPlace = 11
number_of BufferShort = 12
number_of NoSuchPath = 13

-- the column "Place": "the head field, or the item's tag". Where no place is named the fault has item 0
abbrev pub place_of : Fault → ℕ
place_of f = f.item

-- "A refusal returns number and place"
abbrev pub refusal_of : Fault → Refusal
refusal_of f = record { number = number_of f.kind; place = place_of f }

-- what a caller is told: a thing, or a refusal
abbrev pub Told : Type 0 → Type 0
Told A = Result A Refusal

-- "A refusal returns number and place": what is told of a judgement
abbrev pub told : {A : Type 0} → Read A → Told A
told (Ok x) = Ok x
told (Err f) = Err (refusal_of f)
