-- Each turn tells one path more (Compiling.antt).
use Rattle.std.proofs.lemmas.Result.{err_from_is_err_and}
use Rattle.survey.proofs.Compiling.{turn_within, turn_again, turn_stops, turns_none, turns_all}
use Rattle.survey.proofs.survey_paths.Goals as goal

pub loop-i-init : goal.loop-i-init
loop-i-init c = turns_none _ _

pub returns-in_err-facts : goal.returns-in_err-facts
returns-in_err-facts c =
    let e = err_from_is_err_and c.from_residual.result c.from_residual.ensures.1 in
    rw (e.1, e.2) (turn_stops _ _ c.requires.0 _ c.loop-i-test.true _ _ c.load.ensures _ c.in_err-facts.was _ _ c.loop-i.invariant)

pub counts-requires : goal.counts-requires
counts-requires c = (turn_within _ _ c.requires.0 _ c.loop-i-test.true _ _ c.load.ensures _ c.in_ok-facts.was).0

pub loop-i-preserved : goal.loop-i-preserved
loop-i-preserved c =
    turn_again _ _ c.requires.0 _ c.loop-i-test.true _ _ c.load.ensures _ c.in_ok-facts.was _ _ c.loop-i.invariant _ c.counts.ensures

pub returns : goal.returns
returns c = turns_all _ _ c.requires.0 _ c.loop-i-test.false _ _ c.loop-i.invariant
