-- The place's own path is told, and the loop over it, or its end, is the slice's (Slices.antt).
use Rattle.examiner.proofs.Slices.{leg_fault, leg_within, leg_words, leg_over, leg_stretch, leg_run}
use Rattle.examiner.proofs.running.leg.Goals as goal

pub returns-in_default : goal.returns-in_default
returns-in_default c ps a = leg_fault _ _ _ _ c.requires.1 c.requires.2 _ _ c.load.ensures _ c.in_default.is

pub limit_in-requires : goal.limit_in-requires
limit_in-requires c = (c.requires.0, leg_within _ _ _ _ c.requires.1 c.requires.2 _ _ c.load.ensures _ c.in-Ok.is)

pub returns-in_default-limit_in : goal.returns-in_default-limit_in
returns-in_default-limit_in c =
    leg_over _ _ _ _ c.requires.1 c.requires.2 _ _ c.load.ensures _ c.in-Ok.is _ c.limit_in.ensures c.in_default-limit_in.is _ c.over_verdict.ensures _ c.outcome_of.ensures _

pub shared_ref_as_front-run_path : goal.shared_ref_as_front-run_path
shared_ref_as_front-run_path c = leg_words _ _ _ _ c.requires.1 c.requires.2 _ _ c.load.ensures _ c.in-Ok.is

pub run_path-requires : goal.run_path-requires
run_path-requires c = leg_stretch _ _ _ _ c.requires.1 c.requires.2 _ _ c.load.ensures _ c.in-Ok.is _ c.limit_in.ensures _ c.in-Some.is c.requires.0

pub returns : goal.returns
returns c = leg_run _ _ _ _ c.requires.1 c.requires.2 _ _ c.load.ensures _ c.in-Ok.is _ c.limit_in.ensures _ c.in-Some.is _ _ c.run_path.ensures
