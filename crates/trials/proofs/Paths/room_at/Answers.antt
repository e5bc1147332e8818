-- `room_at`: a law of Weighing.antt for each return.
use Rattle.std.proofs.Common.{◌∙◌}
use Rattle.trials.proofs.Weighing.{room_at_path, room_past}
use Rattle.trials.proofs.Paths.room_at.Goals as goal

pub returns-in-Some : goal.returns-in-Some
returns-in-Some c ps f =
    let k = c.in-Some.ensures.lookup in
    c.unwrap_or.ensures ∙ room_at_path _ _ ps _ f _ _ _ k.3.0 (λ p e. c.assignments.ensures.value p (k.1 ∙ e))

pub returns-in-None : goal.returns-in-None
returns-in-None c ps f = room_past _ _ ps _ f _ (c.in-None.ensures.lookup).3
