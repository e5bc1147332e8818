-- The laws that the proofs of functions with choices and `?` use.
use Rattle.std.specs.Prelude.{◌≡◌, Bool, true, false}
use borrow.Author.Tests.{eq-eqb, ne_eqb}
use Rattle.definition.specs.Bytes.{when◌then◌else◌}
use Rattle.definition.proofs.Steps.{on_got, on_bad, tests_on, tests_bad}

-- one choice
pub chosen : {A : Type 0} (b : Bool) (x y : A) → b ≡ true → (when b then x else y) ≡ x
unfolding when◌then◌else◌
chosen b x y e = rw e

pub other : {A : Type 0} (b : Bool) (x y : A) → b ≡ false → (when b then x else y) ≡ y
unfolding when◌then◌else◌
other b x y e = rw e

pub ruleset choices = (chosen, other, eq-eqb, ne_eqb)

-- past a step or a test, or at one that refuses
pub ruleset steps = (on_got, on_bad, tests_on, tests_bad)
