-- `atoms_in`: the path's own counts.
use Rattle.trials.proofs.atoms_in.Goals as goal

pub returns : goal.returns
returns c code = c.tried.ensures _ (c.counts.ensures code)
