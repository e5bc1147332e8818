-- `logical`: each op by what `is_zero` says of both numbers.
use mathlib.Core.Path.{◌≡◌, sym}
use borrow.Author.Tests.{ne_eqb}
use mir.Facts.{to_z-of_z}
use Rattle.definition.specs.Bytes.{when◌then◌else◌}
use Rattle.definition.specs.Folding.{is_zero, logical_of}
use Rattle.ints.proofs.logical.Goals as goal
use Rattle.ints.proofs.logical.Goals.{After-is_zero-y}

-- what both calls say
zero_a : (c : After-is_zero-y) → is_zero c.args.a ≡ c.is_zero-x.result
zero_a c = sym (simp (to_z-of_z c.ranges.a) at c.is_zero-x.ensures)

zero-b : (c : After-is_zero-y) → is_zero c.args.b ≡ c.is_zero-y.result
zero-b c = sym (simp (to_z-of_z c.ranges.b) at c.is_zero-y.ensures)

pub returns-then-x : goal.returns-then-x
unfolding logical_of when◌then◌else◌
returns-then-x c = rw (c.in-0.is, zero_a (goal.at.returns-then-x c).After-is_zero-y, zero-b (goal.at.returns-then-x c).After-is_zero-y, c.if-x.true-raw)

pub returns-else-x : goal.returns-else-x
unfolding logical_of when◌then◌else◌
returns-else-x c = rw (c.in-0.is, zero_a (goal.at.returns-else-x c).After-is_zero-y, zero-b (goal.at.returns-else-x c).After-is_zero-y, c.if-x.false-raw)

pub returns-then-x-2 : goal.returns-then-x-2
unfolding logical_of when◌then◌else◌
returns-then-x-2 c = rw (ne_eqb _ _ c.in_default.in_default-own.rest.1, zero_a (goal.at.returns-then-x-2 c).After-is_zero-y, zero-b (goal.at.returns-then-x-2 c).After-is_zero-y, c.if-x-2.true-raw)

pub returns-else-x-2 : goal.returns-else-x-2
unfolding logical_of when◌then◌else◌
returns-else-x-2 c = rw (ne_eqb _ _ c.in_default.in_default-own.rest.1, zero_a (goal.at.returns-else-x-2 c).After-is_zero-y, zero-b (goal.at.returns-else-x-2 c).After-is_zero-y, c.if-x-2.false-raw)
