-- `run_path`: what is left of the budget comes to what the whole does; a law for each return.
use Rattle.std.proofs.Common.{◌+◌, ◌-◌, ◌∙◌, arith}
use Rattle.trials.proofs.Legs.{leg_open, leg_ended, leg_past, leg_again, stretched}
use Rattle.trials.proofs.run_path.Goals as goal

pub returns-in-Break : goal.returns-in-Break
returns-in-Break c rest e =
    let o = c.loop-tried in
    let i = o.invariant in
    leg_ended _ rest o.p (c.args.budget - o.tried) (c.args.budget - (o.tried + 1)) (omega arith) _ (c.step.ensures rest (omega (arith, i.path))) _ c.in-Break.is ∙ i.same rest e

pub returns-in-Continue : goal.returns-in-Continue
returns-in-Continue c rest e =
    let o = c.loop-tried in
    let i = o.invariant in
    leg_past _ rest o.p (c.args.budget - o.tried) _ (omega arith) _ (c.step.ensures rest (omega (arith, i.path))) _ c.in-Continue.is c.if-q-eq0.true ∙ i.same rest e

pub loop-tried-preserved : goal.loop-tried-preserved
loop-tried-preserved c =
    let o = c.loop-tried in
    let i = o.invariant in
    let s = stretched _ _ _ _ o.p _ _ i.stands c.step.ensures c.in-Continue.is c.if-q-eq0.false in
    record {
      same = λ rest e. leg_again _ rest o.p (c.args.budget - o.tried) _ (omega arith) _ (c.step.ensures rest (omega (arith, i.path))) _ c.in-Continue.is c.if-q-eq0.false ∙ i.same rest e;
      stands = s.0;
      path = s.1 ∙ i.path;
    }

pub returns : goal.returns
returns c rest e = let o = c.loop-tried in leg_open _ rest o.p (c.args.budget - o.tried) (omega arith) ∙ o.invariant.same rest e
