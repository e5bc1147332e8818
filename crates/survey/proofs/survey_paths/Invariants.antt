-- Each turn tells one path more (Compiling.antt).
use Rattle.survey.proofs.Compiling.{Reached}
use Rattle.survey.proofs.survey_paths.Given as goal

abbrev pub invariant-loop-i : goal.invariant-loop-i
invariant-loop-i l = Reached l.image l.i l.initial.table l.table
