-- An image of which a sight is told is accepted (the crate survey's Sighting.antt).
use Rattle.survey.proofs.Sighting.{sighted}
use Rattle.recorded.proofs.formulas.same_formulas.Goals as goal

pub same_sound-requires : goal.same_sound-requires
same_sound-requires c = (sighted _ _ c.in-Ok.ensures).sees
