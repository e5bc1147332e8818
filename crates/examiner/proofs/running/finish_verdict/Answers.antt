-- By whether there is a path; the first path's return is what is told of it (Slices.antt).
use native.Mathlib.Omega.{arith}
use Rattle.survey.proofs.Loading.{sees_asked}
use Rattle.examiner.proofs.Slices.{finish_none, finish_first}
use Rattle.examiner.proofs.running.finish_verdict.Goals as goal

pub returns-then-sight-eq0 : goal.returns-then-sight-eq0
returns-then-sight-eq0 c = finish_none _ _ c.requires c.if-sight-eq0.true

pub enumerate-first-requires : goal.enumerate-first-requires
enumerate-first-requires c = sees_asked _ _ c.requires.sees _ (omega (arith, c.if-sight-eq0.false))

pub returns : goal.returns
returns c = finish_first _ _ c.requires c.if-sight-eq0.false c.enumerate-first.result _ _ c.enumerate-first.ensures
