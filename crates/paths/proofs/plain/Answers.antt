-- `plain`: a locktime, a verify or a return by its tag (laws in Statements.antt and Counting.antt).
use native.Mathlib.Omega.{arith}
use Rattle.paths.proofs.Statements.{held_at, check_tag, fits_s, least_s}
use Rattle.paths.proofs.Counting.{one_lock, one_final, one_check}
use Rattle.paths.proofs.plain.Goals as goal

pub bounds-part-0 : goal.bounds-part-0
bounds-part-0 c = omega (arith, fits_s c.requires.1.1.begins, least_s c.requires.1.1.stmt)

pub returns-then-tag-eq2 : goal.returns-then-tag-eq2
returns-then-tag-eq2 c x l h = one_lock h c.if-tag-eq2.true

pub at-requires : goal.at-requires
at-requires c = let h = c.requires.1.1.begins in let o = held_at h c.requires.0 c.if-tag-eq2.false in (omega (arith, fits_s h, least_s c.requires.1.1.stmt), record { expr = o.expr; begins = o.begins })

pub overflow_add-size : goal.overflow_add-size
overflow_add-size c = let h = c.requires.1.1.begins in let o = held_at h c.requires.0 c.if-tag-eq2.false in omega (arith, fits_s h, o.size_is, c.size-size.ensures o.expr (rw c.at.ensures o.begins))

pub returns-then-tag-eq4 : goal.returns-then-tag-eq4
returns-then-tag-eq4 c x l h = let o = held_at h c.requires.0 c.if-tag-eq2.false in one_final h (omega (arith, o.size_is, c.size-size.ensures o.expr (rw c.at.ensures o.begins))) c.if-tag-eq4.true

pub returns : goal.returns
returns c x l h = let o = held_at h c.requires.0 c.if-tag-eq2.false in one_check h (omega (arith, o.size_is, c.size-size.ensures o.expr (rw c.at.ensures o.begins))) (check_tag h c.requires.0 c.if-tag-eq2.false c.if-tag-eq4.false)
