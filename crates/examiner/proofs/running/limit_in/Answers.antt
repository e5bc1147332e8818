-- A bound is at most 26 (Judging.antt).
use native.Mathlib.Omega.{arith}
use Rattle.examiner.proofs.Judging.{bound_few}
use Rattle.examiner.proofs.running.limit_in.Goals as goal

pub limit_of-requires : goal.limit_of-requires
limit_of-requires c = omega (arith, bound_few c.args.b c.requires.0 c.args.phase, c.if-bound_of-atoms.false, c.bound_of.ensures)
