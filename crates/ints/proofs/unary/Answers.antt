-- `unary`: each op by what `sum` or std's checked method says of it.
use mathlib.Core.Path.{ap, ◌∙◌}
use mathlib.Core.Bool.{Bool}
use borrow.Author.Tests.{ne_eqb}
use mir.Facts.{to_z-of_z}
use Rattle.definition.specs.Bytes.{when◌then◌else◌}
use Rattle.definition.specs.declared.Folded.TheVariants.{Value}
use Rattle.definition.specs.Folding.{flag, unary_of}
use Rattle.ints.proofs.Ranges.{absolute_is}
use Rattle.ints.proofs.unary.Goals as goal

pub returns-in-0 : goal.returns-in-0
unfolding unary_of when◌then◌else◌
returns-in-0 c = rw c.in-0.is (simp (to_z-of_z c.ranges.v) at c.sum.ensures)

pub returns-in-1 : goal.returns-in-1
unfolding unary_of when◌then◌else◌
returns-in-1 c = rw c.in-1.is (c.kept.ensures _ (simp (to_z-of_z c.ranges.v) at c.checked_sub.ensures))

pub returns-in-2 : goal.returns-in-2
unfolding unary_of when◌then◌else◌
returns-in-2 c = rw c.in-2.is (c.kept-in-2.ensures _ (simp (to_z-of_z c.ranges.v) at c.checked_neg.ensures))

pub returns-in-3 : goal.returns-in-3
unfolding unary_of when◌then◌else◌
returns-in-3 c = rw c.in-3.is (c.kept-in-3.ensures _ (absolute_is _ c.args.v c.ranges.v (simp (to_z-of_z c.ranges.v) at c.checked_abs.ensures)))

pub returns-in_default : goal.returns-in_default
unfolding unary_of when◌then◌else◌
returns-in_default c = let r = c.in_default.in_default-own.rest in rw (ne_eqb _ _ r.0.0.0.1, ne_eqb _ _ r.0.0.1, ne_eqb _ _ r.0.1, ne_eqb _ _ r.1) (c.truth.ensures ∙ ap (λ (t : Bool). Value (flag t)) (simp (to_z-of_z c.ranges.v) at c.is_zero.ensures))
