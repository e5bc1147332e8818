-- Each turn writes one line more (Laws.antt).
use Rattle.lines.proofs.Laws.{Reached}
use Rattle.lines.proofs.path_lines.Given as goal

abbrev pub invariant-loop-path : goal.invariant-loop-path
invariant-loop-path l = Reached l.image l.initial.text.items l.text.items l.path
