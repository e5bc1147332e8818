-- What can be wrong, and what comes of a judgement: a thing, or the first fault. A judgement is written as a list of steps,
-- `do`: each step is a test that refuses or lets pass, or gives a thing to the steps after it; the first that refuses ends it.
use Rattle.std.specs.Prelude.{ℕ, Bool, true, false, Result, Ok, Err}
use Rattle.definition.specs.declared.Kind.{Kind}
use Rattle.definition.specs.declared.Fault.{Fault}

infixr 20 ◌>>=◌
infixr 20 ◌>>◌
-- what comes of a judgement: a thing, or a fault, of which "A refusal returns number and place"
abbrev pub Read : Type 0 → Type 0
Read A = Result A Fault

-- a fault, from its parts: its kind, the offset of the item, the offset of the field
abbrev pub fault : Kind → ℕ → ℕ → Fault
fault k i f = record { kind = k; item = i; field = f }

-- "Order: 8, 1, 2, then reading order": the steps after one that gives a thing
unfoldable pub ◌>>=◌ : {A B : Type 0} → Read A → (A → Read B) → Read B
Ok x >>= k = k x
Err f >>= k = Err f

-- "Order: 8, 1, 2, then reading order": the steps after one that only tests
unfoldable pub ◌>>◌ : {B : Type 0} → Read (Unit {0}) → Read B → Read B
Ok x >> r = r
Err f >> r = Err f

-- one test of that order: refused with the fault if it holds
unfoldable pub refuse : Bool → Fault → Read (Unit {0})
refuse true f = Err f
refuse false f = Ok tt

-- what is told of a judgement, from what is said of a thing and what of a fault (no sentence of its own)
unfoldable pub answer : {A O : Type 0} → (A → O) → (Fault → O) → Read A → O
answer is wrong (Ok x) = is x
answer is wrong (Err f) = wrong f
