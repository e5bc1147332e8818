-- A fault of the image, a number that is not below its path count, or its path (Queries.antt).
use Rattle.std.proofs.lemmas.Result.{err_from_is_err_and}
use native.Mathlib.Omega.{arith}
use Rattle.survey.proofs.Sighting.{sighted}
use Rattle.examiner.proofs.Queries.{unrouted, none_routed, path_routed}
use Rattle.examiner.proofs.asking.route.Goals as goal

pub returns-in_err-sight : goal.returns-in_err-sight
returns-in_err-sight c =
    let p = err_from_is_err_and c.from_residual.result c.from_residual.ensures.1 in rw (p.1, p.2) (unrouted _ _ _ _ c.in_err-sight.ensures)

pub returns-then-sight-path : goal.returns-then-sight-path
returns-then-sight-path c = rw c.new.ensures (none_routed _ _ _ _ c.in_ok-sight.ensures (omega (arith, c.if-sight-path.true)))

pub load-requires : goal.load-requires
load-requires c = ((sighted _ _ c.in_ok-sight.ensures).sees, omega (arith, c.if-sight-path.false))

pub returns : goal.returns
returns c = path_routed _ _ _ _ c.in_ok-sight.ensures (omega (arith, c.if-sight-path.false)) _ c.load.ensures
