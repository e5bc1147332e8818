-- The path is over its bound, or the first mask that the loop over it ends with (Queries.antt).
use mathlib.Core.Logic.{inl, inr}
use Rattle.examiner.proofs.Queries.{query_over, query_stretch, query_ended, query_open, query_on}
use Rattle.examiner.proofs.asking.query.Goals as goal

pub returns-in_default : goal.returns-in_default
returns-in_default c = query_over _ _ c.args.code.now c.args.facts _ (c.limit_in.ensures _) c.in_default.is

pub run_path-requires : goal.run_path-requires
run_path-requires c = query_stretch _ _ c.args.code.now c.args.facts _ (c.limit_in.ensures _) _ c.in-Some.is c.requires.0 c.requires.2

pub returns-in-Ended : goal.returns-in-Ended
returns-in-Ended c = query_ended _ _ c.args.code.now c.args.facts _ (c.limit_in.ensures _) _ c.in-Some.is _ c.run_path.ensures _ c.in-Ended.is

pub returns-in-Open : goal.returns-in-Open
returns-in-Open c =
    elim c.in-Open.is [
      | inl w ↦ query_open _ _ c.args.code.now c.args.facts _ (c.limit_in.ensures _) _ c.in-Some.is _ c.run_path.ensures _ w.1
      | inr w ↦ query_on _ _ c.args.code.now c.args.facts _ (c.limit_in.ensures _) _ c.in-Some.is _ c.run_path.ensures _ _ w.2
    ]
