-- `path_formula`: what the pieces that are left make completes the formula (laws in Joining.antt).
use native.Mathlib.Omega.{arith}
use Rattle.std.proofs.lemmas.Result.{err_from_is_err_and}
use Rattle.formula.proofs.Pieces.{piece_within}
use Rattle.formula.proofs.Joining.{going_start, last_returns, piece_ready, piece_far, piece_stops, end_words, piece_goes}
use Rattle.formula.proofs.path_formula.Goals as goal

pub loop-piece-init : goal.loop-piece-init
loop-piece-init c ps h = going_start _ ps _ (omega arith)

pub rest-part-requires : goal.rest-part-requires
rest-part-requires c = piece_within _ _ _ c.requires c.loop-piece-test.true

pub sided-requires : goal.sided-requires
sided-requires c = rw (c.rest-part.ensures, c.one_more.ensures) (piece_ready _ _ _ c.requires _ c.loop-piece-test.true _ _ _ c.loop-piece.invariant)

pub further-requires : goal.further-requires
further-requires c d o = omega (arith, piece_far _ _ _ c.requires _ c.loop-piece-test.true _ _ _ c.loop-piece.invariant _ _ _ c.rest-part.ensures _ c.one_more.ensures c.sided.ensures d o)

pub returns-in_err-end-clause-made : goal.returns-in_err-end-clause-made
returns-in_err-end-clause-made c ps h =
    let p = err_from_is_err_and c.from_residual.result c.from_residual.ensures.1 in
    rw (p.1, p.2) (piece_stops _ _ _ c.requires _ c.loop-piece-test.true _ _ _ c.loop-piece.invariant _ _ _ c.rest-part.ensures _ c.one_more.ensures c.sided.ensures _ c.further.ensures _ c.in_err-end.was ps h)

pub overflow_sub-end : goal.overflow_sub-end
overflow_sub-end c = (end_words _ _ _ c.requires _ c.loop-piece-test.true _ _ _ c.loop-piece.invariant _ _ _ c.rest-part.ensures _ c.one_more.ensures c.sided.ensures _ _ c.further.ensures c.in_ok-end.was).0

pub join_word-requires : goal.join_word-requires
join_word-requires c = omega (arith, (end_words _ _ _ c.requires _ c.loop-piece-test.true _ _ _ c.loop-piece.invariant _ _ _ c.rest-part.ensures _ c.one_more.ensures c.sided.ensures _ _ c.further.ensures c.in_ok-end.was).1)

pub loop-piece-preserved : goal.loop-piece-preserved
loop-piece-preserved c = piece_goes _ _ _ c.requires _ c.loop-piece-test.true _ _ _ c.loop-piece.invariant _ _ _ c.rest-part.ensures _ c.one_more.ensures c.sided.ensures _ _ c.further.ensures c.in_ok-end.was _ c.join_word.ensures

pub returns-clause-made : goal.returns-clause-made
returns-clause-made c ps h = rw c.one_more-2.ensures (last_returns _ _ _ ps h _ _ _ _ (c.loop-piece.invariant ps h) (omega (arith, c.loop-piece-test.false)))
