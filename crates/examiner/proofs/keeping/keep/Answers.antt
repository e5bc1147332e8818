-- A fault of the image or of the place, no room, or two copies (Checkpoints.antt).
use Rattle.std.proofs.lemmas.Result.{err_from_is_err_and}
use mathlib.Core.Path.{refl, ◌∙◌}
use Rattle.examiner.proofs.Judging.{fair}
use Rattle.examiner.proofs.Checkpoints.{keep_refused, keep_count, keep_short, keep_filled}
use Rattle.examiner.proofs.keeping.keep.Goals as goal

pub judge-requires : goal.judge-requires
judge-requires c = fair _ refl

pub returns-in_err-judge : goal.returns-in_err-judge
returns-in_err-judge c =
    let p = err_from_is_err_and c.from_residual.result c.from_residual.ensures.1 in
    let k = keep_refused c.args.image.now c.args.p c.args.buffer.now _ c.in_err-judge.ensures in
    record { value = rw (p.1, p.2) k.0; left_behind = k.1 }

pub returns-then-buffer-long : goal.returns-then-buffer-long
returns-then-buffer-long c =
    let k = keep_short c.args.image.now c.args.p c.args.buffer.now _ c.in_ok-judge.ensures c.if-buffer-long.true in record { value = rw c.new.ensures k.0; left_behind = k.1 }

pub head_of-requires : goal.head_of-requires
head_of-requires c = keep_count c.args.image.now c.args.p c.args.buffer.now _ c.in_ok-judge.ensures

pub returns : goal.returns
returns c =
    let k = keep_filled c.args.image.now c.args.p c.args.buffer.now _ c.in_ok-judge.ensures c.if-buffer-long.false _ _ (c.copy_from_slice.ensures.after ∙ c.head_of.ensures) c.copy_from_slice-2.ensures.after in
    record { value = k.0; left_behind = k.1 }
