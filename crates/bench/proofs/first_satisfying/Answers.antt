-- The words of the path fit the area (the crate survey's Compiling.antt).
use Rattle.std.proofs.Common.{arith}
use Rattle.survey.proofs.Compiling.{turn_within}
use Rattle.bench.proofs.first_satisfying.Goals as goal

pub slice_bounds-satisfying-end : goal.slice_bounds-satisfying-end
slice_bounds-satisfying-end c =
    let k = turn_within _ _ c.requires.0 _ c.requires.1 _ _ c.load.ensures _ c.in_ok-facts.was in
    omega (arith, k.1, k.2)
