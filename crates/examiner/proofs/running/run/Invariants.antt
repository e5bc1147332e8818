-- The loop comes to the slice, place by place (Slices.antt).
use Rattle.examiner.specs.Standing.{Judged}
use Rattle.examiner.proofs.Slices.{Reached}
use Rattle.examiner.proofs.running.run.Given as goal

abbrev pub invariant-loop-p : goal.invariant-loop-p
invariant-loop-p l = Reached l.b l.image l.initial.p l.initial.left l.p l.left × Judged l.b l.image l.sight l.p

abbrev pub decreases-loop-p : goal.decreases-loop-p
decreases-loop-p l = l.left
