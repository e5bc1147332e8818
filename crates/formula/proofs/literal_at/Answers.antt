-- `literal_at`: by the tag (laws in Plans.antt).
use Rattle.formula.proofs.Plans.{literal_no}
use Rattle.formula.proofs.literal_at.Goals as goal

pub returns : goal.returns
returns c e h = literal_no e _ h c.if-part-eq18.false
