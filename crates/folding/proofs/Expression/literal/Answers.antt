-- `literal`: by the tag (laws in Values.antt).
use mathlib.Core.Path.{◌≡◌, ap, ◌∙◌}
use borrow.Author.Rules.{rules}
use mir.Syntax.{w64}
use mir.Val.{to_z, of_z}
use Rattle.definition.specs.Bytes.{signed}
use Rattle.definition.specs.declared.Folded.TheVariants.{Value}
use Rattle.folding.proofs.View.{leaf_size, leaf_room}
use Rattle.folding.proofs.Values.{number_fold, boolean_fold, other_fold}
use Rattle.folding.proofs.Expression.literal.Goals as goal

pub eight-requires : goal.eight-requires
unfolding leaf_size
eight-requires c = let z = leaf_room _ c.args.self.holds c.requires in rw c.in-17.is at z

pub bounds-self-17 : goal.bounds-self-17
unfolding leaf_size
bounds-self-17 c = let z = leaf_room _ c.args.self.holds c.requires in rw c.in-18.is at z

pub returns-in-17 : goal.returns-in-17
returns-in-17 c e h = let f : to_z w64 (of_z w64 c.signed.result) ≡ c.signed.result = search rules in ap Value (f ∙ c.signed.ensures ∙ ap signed c.eight.ensures) ∙ number_fold _ c.requires c.in-17.is e h

pub returns-in-18 : goal.returns-in-18
returns-in-18 c e h = c.truth.ensures ∙ boolean_fold _ c.requires c.in-18.is e h

pub returns-in_default : goal.returns-in_default
returns-in_default c = other_fold _ c.requires (search rules) (search rules)
