-- `rest`: a part that runs to the end is what is left behind its offset.
use borrow.Author.Rules.{part_to_end}
use Rattle.folding.proofs.rest.Goals as goal

pub returns : goal.returns
returns c = part_to_end c.args.part.now c.args.n
