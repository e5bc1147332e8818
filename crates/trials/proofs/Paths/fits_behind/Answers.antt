-- `fits_behind`: the mask has no room.
use Rattle.std.proofs.Common.{sym, ◌∙◌}
use borrow.Author.Tests.{le-ltb}
use Rattle.trials.proofs.Weighing.{first_counts, behind_full}
use Rattle.trials.proofs.Paths.fits_behind.Goals as goal

pub returns-else-p-room_at : goal.returns-else-p-room_at
returns-else-p-room_at c ps f g =
    le-ltb _ _ c.if-p-room_at.false ∙ sym (behind_full _ _ ps _ _ _ _ (c.in-Some.ensures.value _ (first_counts ps _ f _)) (c.room_at.ensures ps f) g c.if-p-room_at.false)
