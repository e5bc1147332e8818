-- `binary`: each op by what `sum` or std's method says of it.
use mathlib.Core.Path.{◌≡◌, ap, ◌∙◌}
use borrow.Author.Tests.{ne_eqb}
use borrow.Author.Rules.{rules}
use mir.Syntax.{w64}
use mir.Val.{to_z, of_z}
use mir.Facts.{to_z-of_z}
use Rattle.definition.specs.Bytes.{when◌then◌else◌}
use Rattle.definition.specs.declared.Folded.TheVariants.{Value}
use Rattle.definition.specs.Folding.{binary_of}
use Rattle.ints.proofs.Ranges.{max_is, min_is}
use Rattle.ints.proofs.binary.Goals as goal

pub returns-in-0 : goal.returns-in-0
unfolding binary_of when◌then◌else◌
returns-in-0 c = rw c.in-0.is (simp (to_z-of_z c.ranges.a, to_z-of_z c.ranges.b) at c.sum.ensures)

pub returns-in-1 : goal.returns-in-1
unfolding binary_of when◌then◌else◌
returns-in-1 c = rw c.in-1.is (c.kept.ensures _ (simp (to_z-of_z c.ranges.a, to_z-of_z c.ranges.b) at c.checked_sub.ensures))

pub returns-in-2 : goal.returns-in-2
unfolding binary_of when◌then◌else◌
returns-in-2 c = rw c.in-2.is (let f : to_z w64 (of_z w64 c.max.result) ≡ c.max.result = search rules in ap Value (f ∙ (simp (to_z-of_z c.ranges.a, to_z-of_z c.ranges.b) at c.max.ensures.value) ∙ max_is c.args.a c.args.b))

pub returns-in_default : goal.returns-in_default
unfolding binary_of when◌then◌else◌
returns-in_default c = let r = c.in_default.in_default-own.rest in rw (ne_eqb _ _ r.0.0.1, ne_eqb _ _ r.0.1, ne_eqb _ _ r.1) (let f : to_z w64 (of_z w64 c.min.result) ≡ c.min.result = search rules in ap Value (f ∙ (simp (to_z-of_z c.ranges.a, to_z-of_z c.ranges.b) at c.min.ensures.value) ∙ min_is c.args.a c.args.b))
