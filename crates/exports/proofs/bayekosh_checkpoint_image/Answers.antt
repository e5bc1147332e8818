-- By whether the part is empty (Parts.antt).
use mathlib.Core.Path.{sym, ap, ◌∙◌}
use Rattle.exports.specs.Flat.{part_flat}
use Rattle.exports.proofs.Parts.{none, some}
use Rattle.exports.proofs.bayekosh_checkpoint_image.Goals as goal

pub returns-then-is_empty : goal.returns-then-is_empty
returns-then-is_empty c =
    none c.checkpoint_image-part.result.now (sym c.is_empty.ensures ∙ c.if-is_empty.true) ∙ ap part_flat c.checkpoint_image-part.ensures

pub returns : goal.returns
returns c =
    some c.checkpoint_image-part.result.now (sym c.is_empty.ensures ∙ c.if-is_empty.false) ∙ ap part_flat c.checkpoint_image-part.ensures
