-- `forks_at`: the fields that were judged, by the flag (laws in Statements.antt).
use native.Mathlib.Omega.{arith}
use Rattle.definition.proofs.Fields.{if_is, else_is}
use Rattle.paths.proofs.Statements.{fields_long, fields_else}
use Rattle.paths.proofs.forks_at.Goals as goal

pub two-yes-requires : goal.two-yes-requires
two-yes-requires c = omega (arith, fields_long c.args.part.now _ c.requires.1)

pub bounds-part-17 : goal.bounds-part-17
bounds-part-17 c = omega (arith, fields_long c.args.part.now _ c.requires.1)

pub returns-then-part-eq0 : goal.returns-then-part-eq0
returns-then-part-eq0 c = rw c.two-yes.ensures.0 (if_is 0 c.args.part.now (fields_long c.args.part.now _ c.requires.1) c.if-part-eq0.true)

pub two-requires : goal.two-requires
two-requires c = omega (arith, (fields_else c.args.part.now _ c.requires.1 c.if-part-eq0.false).1)

pub returns : goal.returns
returns c = let o = fields_else c.args.part.now _ c.requires.1 c.if-part-eq0.false in rw (c.two-yes.ensures.0, c.two.ensures.0) (else_is 0 c.args.part.now o.1 o.0)
