-- What a checkpoint is tested for, in order (Checkpoints.antt).
use Rattle.examiner.proofs.Leaving.{leaves}
use Rattle.examiner.proofs.Checkpoints.{restore_short, restore_unmarked, restore_version, restore_refused, restore_is}
use Rattle.examiner.proofs.keeping.restore.Goals as goal
use Rattle.examiner.proofs.keeping.restore.Goals.{then-bytes-lt-HEAD-via-then-bytes-lt-HEAD, then-bytes-lt-HEAD-via-else-bytes-lt-HEAD+then-not-marked}

pub returns-then-bytes-lt-HEAD : goal.returns-then-bytes-lt-HEAD
returns-then-bytes-lt-HEAD c =
    rw c.new.ensures (elim c.then-bytes-lt-HEAD.branch [
      | then-bytes-lt-HEAD-via-then-bytes-lt-HEAD w ↦ restore_short _ _ w.if-bytes-lt-HEAD.true
      | then-bytes-lt-HEAD-via-else-bytes-lt-HEAD+then-not-marked w ↦ restore_unmarked _ _ w.if-bytes-lt-HEAD.false _ w.marked.ensures w.if-not-marked.true
    ])

pub returns-then-two-ne1 : goal.returns-then-two-ne1
returns-then-two-ne1 c = rw c.new-then-two-ne1.ensures (restore_version _ _ c.if-bytes-lt-HEAD.false _ c.marked.ensures c.if-not-marked.false _ c.two.ensures.0 c.if-two-ne1.true)

pub returns-in_err-judge : goal.returns-in_err-judge
returns-in_err-judge c = leaves _ _ _ c.from_residual.ensures.1 (restore_refused _ _ c.if-bytes-lt-HEAD.false _ c.marked.ensures c.if-not-marked.false _ c.two.ensures.0 c.if-two-ne1.false _ (rw c.place_in-place.ensures at c.in_err-judge.ensures))

pub returns : goal.returns
returns c =
    rw c.place_in-place.ensures (restore_is _ _ c.if-bytes-lt-HEAD.false _ c.marked.ensures c.if-not-marked.false _ c.two.ensures.0 c.if-two-ne1.false _ (rw c.place_in-place.ensures at c.in_ok-judge.ensures))
