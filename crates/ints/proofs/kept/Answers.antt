-- `kept`: by the two cases (laws in Ranges.antt).
use Rattle.ints.proofs.Ranges.{kept_some, kept_none}
use Rattle.ints.proofs.kept.Goals as goal

pub returns-in-Some : goal.returns-in-Some
returns-in-Some c z h = kept_some z c.in-Some.is h

pub returns-in-None : goal.returns-in-None
returns-in-None c z h = kept_none z c.in-None.is h
