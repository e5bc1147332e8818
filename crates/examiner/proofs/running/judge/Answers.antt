-- The front of the table is the paths' counts of atoms, so the test of the place decides (Judging.antt).
use Rattle.examiner.proofs.Leaving.{leaves}
use mathlib.Core.Path.{refl}
use native.Mathlib.Omega.{arith}
use lib.ListN.{length-take}
use Rattle.survey.proofs.Sighting.{sighted}
use Rattle.examiner.proofs.Judging.{sighted_few, judge_faulty, front_few, judge_fits, judge_unfit}
use Rattle.examiner.proofs.running.judge.Goals as goal

pub returns-in_err-sight : goal.returns-in_err-sight
returns-in_err-sight c = leaves _ _ _ c.from_residual.ensures.1 (judge_faulty _ _ _ _ c.in_err-sight.ensures.value)

pub slice_bounds-table-end : goal.slice_bounds-table-end
slice_bounds-table-end c = omega (arith, sighted_few _ _ (sighted _ _ c.in_ok-sight.ensures.value))

pub place_fits-requires : goal.place_fits-requires
place_fits-requires c =
    (front_few _ _ c.in_ok-sight.ensures.value _ _ refl c.in_ok-sight.ensures.stored, c.requires.free, c.requires.all)

pub returns-then-not-place_fits : goal.returns-then-not-place_fits
returns-then-not-place_fits c =
    rw c.new.ensures (judge_unfit _ _ c.in_ok-sight.ensures.value _ _ refl c.in_ok-sight.ensures.stored _ _ _ c.place_fits.ensures c.if-not-place_fits.true)

pub returns : goal.returns
returns c =
    judge_fits _ _ c.in_ok-sight.ensures.value _ _ refl c.in_ok-sight.ensures.stored _ _ _ c.place_fits.ensures c.if-not-place_fits.false

pub slice_bounds-place_fits-end : goal.slice_bounds-place_fits-end
slice_bounds-place_fits-end c =
    omega (arith, sighted_few _ _ (sighted _ _ c.in_ok-sight.ensures.value), length-take c.in_ok-sight.sight.paths c.survey.new.table)
