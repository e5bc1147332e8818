-- An image of which a sight is told is accepted (the crate survey's Sighting.antt).
use Rattle.std.proofs.Common.{sym, ◌∙◌}
use Rattle.survey.proofs.Sighting.{sighted}
use Rattle.bench.proofs.assignments.Goals as goal

pub first_satisfying-requires : goal.first_satisfying-requires
first_satisfying-requires c =
    ((sighted _ _ (sym c.in_ok-sight.was ∙ c.accept.ensures)).sees, c.if-sight-gt0.true)
