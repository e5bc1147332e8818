-- The path's fault, or its atoms (Queries.antt).
use Rattle.examiner.proofs.Leaving.{leaves}
use Rattle.examiner.proofs.Queries.{atoms_refused, atoms_told}
use Rattle.examiner.proofs.path_free_atoms.Goals as goal

pub returns-in_err-facts : goal.returns-in_err-facts
returns-in_err-facts c = leaves _ _ _ c.from_residual.ensures.1 (atoms_refused _ _ _ _ c.route.ensures _ c.in_err-facts.was)

pub returns : goal.returns
returns c = atoms_told _ _ _ _ c.route.ensures _ c.in_ok-facts.was
