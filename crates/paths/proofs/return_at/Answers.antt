-- `return_at`: its one path ends there, or it is passed (laws in Gathering.antt).
use native.Mathlib.Omega.{arith}
use Rattle.paths.proofs.Statements.{fits_s, least_s}
use Rattle.paths.proofs.Gathering.{return_found, return_passed}
use Rattle.paths.proofs.return_at.Goals as goal

pub location_of-requires : goal.location_of-requires
location_of-requires c = let k = c.requires.1.1 in omega (arith, fits_s k.begins, least_s k.stmt)

pub returns-then-wanted-eq0 : goal.returns-then-wanted-eq0
returns-then-wanted-eq0 c x l h w = rw c.location_of.ensures (return_found h c.requires.0 c.args.at w c.if-wanted-eq0.true)

pub returns : goal.returns
returns c x l h w = return_passed h c.requires.0 c.args.at w c.if-wanted-eq0.false (c.plain.ensures x l h).size
