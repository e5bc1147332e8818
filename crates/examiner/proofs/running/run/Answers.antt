-- The loop comes to the slice, place by place (Slices.antt).
use mathlib.Core.Path.{refl}
use Rattle.examiner.proofs.Slices.{run_finished, run_ended, run_open, run_judged, run_less, run_again}
use Rattle.examiner.proofs.running.run.Goals as goal

pub loop-p-init : goal.loop-p-init
loop-p-init c = (λ ps a. refl, c.requires.1)

pub finish_verdict-requires : goal.finish_verdict-requires
finish_verdict-requires c = c.loop-p.invariant.1.sight

pub leg-requires : goal.leg-requires
leg-requires c = (c.requires.0, c.loop-p.invariant.1, c.loop-p-test.true)

pub returns-in-Ended : goal.returns-in-Ended
returns-in-Ended c =
    let l = c.loop-p.invariant in run_ended _ _ _ _ _ _ _ l.1.sight l.0 _ c.leg.ensures _ c.in-Ended.is

pub returns-in-Open : goal.returns-in-Open
returns-in-Open c =
    let l = c.loop-p.invariant in run_open _ _ _ _ _ _ _ l.1.sight l.0 _ c.leg.ensures _ c.in-Open.is

pub loop-p-smaller : goal.loop-p-smaller
loop-p-smaller c =
    let l = c.loop-p.invariant in run_less _ _ _ _ _ _ _ l.1.sight l.0 _ c.leg.ensures _ _ c.in-On.is

pub loop-p-preserved : goal.loop-p-preserved
loop-p-preserved c =
    let l = c.loop-p.invariant in (
      run_again _ _ _ _ _ _ _ l.1.sight l.0 _ c.leg.ensures _ _ c.in-On.is,
      run_judged _ _ _ _ _ _ _ l.1.sight l.0 _ c.leg.ensures _ _ c.in-On.is,
    )

pub returns : goal.returns
returns c =
    let l = c.loop-p.invariant in
    run_finished _ _ _ _ _ _ _ l.1.sight l.0 c.loop-p-test.false _ c.finish_verdict.ensures _ c.outcome_of-end.ensures
