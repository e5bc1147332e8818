-- `count_if` and `count_list`, which call each other with the level falling (laws in Counting.antt).
use Prim.Native.Nat.{◌+◌, ◌-◌, ◌<◌}
use mathlib.Core.Path.{◌≡◌}
use native.Mathlib.Omega.{arith}
use Rattle.paths.specs.Walking.{IsOne}
use Rattle.paths.proofs.Statements.{fields_at}
use Rattle.paths.proofs.Left.{in_slice, now_cut, now_holds, there, within}
use Rattle.paths.proofs.Counting.{the_fork, cond_at, cond_holds, yes_at, yes_begins, yes_holds, no_at, no_begins, no_holds, if_at, count_fits, one_fork, start, over, turn}
use Rattle.paths.proofs.+count_if_count_list.Goals as goal
use Rattle.paths.proofs.+count_if_count_list.Goals.{count_list-then-here-eq1, count_list-else-here-eq1}

pub count_if-forks_at-forks-requires : goal.count_if-forks_at-forks-requires
count_if-forks_at-forks-requires t c = fields_at c.requires.1.begins c.requires.0

pub count_if-at-requires : goal.count_if-at-requires
count_if-at-requires t c = let h = c.requires.1.begins in (cond_at h c.requires.0 c.forks_at-forks.ensures, cond_holds h c.requires.0 c.forks_at-forks.ensures)

pub count_if-overflow_add-head : goal.count_if-overflow_add-head
count_if-overflow_add-head t c = let h = c.requires.1.begins in omega (arith, yes_at h c.requires.0 c.forks_at-forks.ensures c.at.ensures c.size.ensures)

pub count_if-rest-requires : goal.count_if-rest-requires
count_if-rest-requires t c = let h = c.requires.1.begins in yes_at h c.requires.0 c.forks_at-forks.ensures c.at.ensures c.size.ensures

pub count_if-count_list-yes-requires : goal.count_if-count_list-yes-requires
count_if-count_list-yes-requires t c = let h = c.requires.1.begins in (omega (arith), rw c.rest.ensures (yes_holds h c.requires.0 c.forks_at-forks.ensures c.at.ensures c.size.ensures))

pub count_if-overflow_add-mid : goal.count_if-overflow_add-mid
count_if-overflow_add-mid t c = let h = c.requires.1.begins in let i = c.count_list-yes.ensures (the_fork h c.requires.0 c.forks_at-forks.ensures).yes (rw c.rest.ensures (yes_begins h c.requires.0 c.forks_at-forks.ensures c.at.ensures c.size.ensures)) in omega (arith, no_at h c.requires.0 c.forks_at-forks.ensures c.at.ensures c.size.ensures i.size)

pub count_if-rest-requires-2 : goal.count_if-rest-requires-2
count_if-rest-requires-2 t c = let h = c.requires.1.begins in let i = c.count_list-yes.ensures (the_fork h c.requires.0 c.forks_at-forks.ensures).yes (rw c.rest.ensures (yes_begins h c.requires.0 c.forks_at-forks.ensures c.at.ensures c.size.ensures)) in no_at h c.requires.0 c.forks_at-forks.ensures c.at.ensures c.size.ensures i.size

pub count_if-count_list-no-requires : goal.count_if-count_list-no-requires
count_if-count_list-no-requires t c = let h = c.requires.1.begins in let i = c.count_list-yes.ensures (the_fork h c.requires.0 c.forks_at-forks.ensures).yes (rw c.rest.ensures (yes_begins h c.requires.0 c.forks_at-forks.ensures c.at.ensures c.size.ensures)) in (omega (arith), rw c.rest-2.ensures (no_holds h c.requires.0 c.forks_at-forks.ensures c.at.ensures c.size.ensures i.size))

pub count_if-overflow_add-result : goal.count_if-overflow_add-result
count_if-overflow_add-result t c = let h = c.requires.1.begins in let i = c.count_list-yes.ensures (the_fork h c.requires.0 c.forks_at-forks.ensures).yes (rw c.rest.ensures (yes_begins h c.requires.0 c.forks_at-forks.ensures c.at.ensures c.size.ensures)) in let j = c.count_list-no.ensures (the_fork h c.requires.0 c.forks_at-forks.ensures).no (rw c.rest-2.ensures (no_begins h c.requires.0 c.forks_at-forks.ensures c.at.ensures c.size.ensures i.size)) in omega (arith, count_fits h c.requires.0 c.forks_at-forks.ensures c.at.ensures c.size.ensures i j)

pub count_if-overflow_add-result-2 : goal.count_if-overflow_add-result-2
count_if-overflow_add-result-2 t c = let h = c.requires.1.begins in let i = c.count_list-yes.ensures (the_fork h c.requires.0 c.forks_at-forks.ensures).yes (rw c.rest.ensures (yes_begins h c.requires.0 c.forks_at-forks.ensures c.at.ensures c.size.ensures)) in let j = c.count_list-no.ensures (the_fork h c.requires.0 c.forks_at-forks.ensures).no (rw c.rest-2.ensures (no_begins h c.requires.0 c.forks_at-forks.ensures c.at.ensures c.size.ensures i.size)) in omega (arith, if_at h c.requires.0 c.forks_at-forks.ensures c.at.ensures c.size.ensures i.size j.size)

pub count_if-returns : goal.count_if-returns
count_if-returns t c x h = let i = c.count_list-yes.ensures (the_fork h c.requires.0 c.forks_at-forks.ensures).yes (rw c.rest.ensures (yes_begins h c.requires.0 c.forks_at-forks.ensures c.at.ensures c.size.ensures)) in let j = c.count_list-no.ensures (the_fork h c.requires.0 c.forks_at-forks.ensures).no (rw c.rest-2.ensures (no_begins h c.requires.0 c.forks_at-forks.ensures c.at.ensures c.size.ensures i.size)) in one_fork h c.requires.0 c.forks_at-forks.ensures c.at.ensures c.size.ensures i j

pub count_list-loop-init : goal.count_list-loop-init
count_list-loop-init t c b h = start h (omega arith)

pub count_list-rest-here-requires : goal.count_list-rest-here-requires
count_list-rest-here-requires t c = let h = c.requires.begins in let w = (c.loop.invariant c.requires.block h).rest in in_slice w h

pub count_list-bounds-here-0 : goal.count_list-bounds-here-0
count_list-bounds-here-0 t c = let w = (c.loop.invariant c.requires.block c.requires.begins).rest in rw c.rest-here.ensures (omega (arith, there w (omega arith)))

pub count_list-overflow_sub-level : goal.count_list-overflow_sub-level
count_list-overflow_sub-level t c = let w = (c.loop.invariant c.requires.block c.requires.begins).rest in (now_cut w (omega arith)).low

pub count_list-count_if-one-requires : goal.count_list-count_if-one-requires
count_list-count_if-one-requires t c =
    let w = (c.loop.invariant c.requires.block c.requires.begins).rest in
    (omega (arith, (now_cut w (omega arith)).low), (c.if-here-eq1.true, rw c.rest-here.ensures (now_holds w (omega arith))))

pub count_list-plain-one-requires : goal.count_list-plain-one-requires
count_list-plain-one-requires t c = let w = (c.loop.invariant c.requires.block c.requires.begins).rest in (c.if-here-eq1.false, (c.args.level - 1, rw c.rest-here.ensures (now_holds w (omega arith))))

pub count_list-overflow_add-off : goal.count_list-overflow_add-off
count_list-overflow_add-off t c =
    let h = c.requires.begins in
    let w = (c.loop.invariant c.requires.block h).rest in
    let p : 0 < c.args.count - c.loop.counter = omega arith in
    let k = now_cut w p in
    let o : IsOne k.stmt c.if-here-eq1.one = elim c.if-here-eq1.branch [
      | count_list-then-here-eq1 u ↦ rw u.one-is (u.count_if-one.ensures k.stmt (rw c.rest-here.ensures k.first))
      | count_list-else-here-eq1 u ↦ rw u.one-is (u.plain-one.ensures k.stmt (c.args.level - 1) (rw c.rest-here.ensures k.first))
    ] in
    omega (arith, within w p h, o.size)

pub count_list-loop-preserved : goal.count_list-loop-preserved
count_list-loop-preserved t c b h =
    let w = c.loop.invariant b h in
    let p : 0 < c.args.count - c.loop.counter = omega arith in
    let k = now_cut w.rest p in
    let o : IsOne k.stmt c.if-here-eq1.one = elim c.if-here-eq1.branch [
      | count_list-then-here-eq1 u ↦ rw u.one-is (u.count_if-one.ensures k.stmt (rw c.rest-here.ensures k.first))
      | count_list-else-here-eq1 u ↦ rw u.one-is (u.plain-one.ensures k.stmt (c.args.level - 1) (rw c.rest-here.ensures k.first))
    ] in
    let e : c.args.count - (c.loop.counter + 1) ≡ c.args.count - c.loop.counter - 1 = omega arith in
    rw (e, c.or-paths.ensures) (turn w p o)

pub count_list-returns : goal.count_list-returns
count_list-returns t c b h = rw c.unwrap_or.ensures (over (c.loop.invariant b h) (omega arith))
