-- `compare`: each op by its test; equality of bits is equality of numbers (law in Halves.antt).
use mathlib.Core.Path.{ap}
use mathlib.Core.Bool.{not}
use borrow.Author.Tests.{ne_eqb}
use mir.Facts.{to_z-of_z}
use Rattle.definition.specs.Bytes.{when◌then◌else◌}
use Rattle.definition.specs.Folding.{compare_of}
use Rattle.ints.proofs.Halves.{same_bits}
use Rattle.ints.proofs.compare.Goals as goal

pub returns-in-0 : goal.returns-in-0
unfolding compare_of when◌then◌else◌
returns-in-0 c = rw c.in-0.is (same_bits c.ranges.a c.ranges.b)

pub returns-in-1 : goal.returns-in-1
unfolding compare_of when◌then◌else◌
returns-in-1 c = rw c.in-1.is (ap not (same_bits c.ranges.a c.ranges.b))

pub returns-in-2 : goal.returns-in-2
unfolding compare_of when◌then◌else◌
returns-in-2 c = rw c.in-2.is (simp (to_z-of_z c.ranges.a, to_z-of_z c.ranges.b))

pub returns-in-3 : goal.returns-in-3
unfolding compare_of when◌then◌else◌
returns-in-3 c = rw c.in-3.is (simp (to_z-of_z c.ranges.a, to_z-of_z c.ranges.b))

pub returns-in-4 : goal.returns-in-4
unfolding compare_of when◌then◌else◌
returns-in-4 c = rw c.in-4.is (simp (to_z-of_z c.ranges.a, to_z-of_z c.ranges.b))

pub returns-in-5 : goal.returns-in-5
unfolding compare_of when◌then◌else◌
returns-in-5 c = rw c.in-5.is (simp (to_z-of_z c.ranges.a, to_z-of_z c.ranges.b))

pub returns-in-6 : goal.returns-in-6
unfolding compare_of when◌then◌else◌
returns-in-6 c = rw c.in-6.is (same_bits c.ranges.a c.ranges.b)

pub returns-in_default : goal.returns-in_default
unfolding compare_of when◌then◌else◌
returns-in_default c = let r = c.in_default.in_default-own.rest in rw (ne_eqb _ _ r.0.0.0.0.0.0.1, ne_eqb _ _ r.0.0.0.0.0.1, ne_eqb _ _ r.0.0.0.0.1, ne_eqb _ _ r.0.0.0.1, ne_eqb _ _ r.0.0.1, ne_eqb _ _ r.0.1, ne_eqb _ _ r.1) (ap not (same_bits c.ranges.a c.ranges.b))
