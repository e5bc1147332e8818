-- `gather_if` and `gather_list`, which call each other with the level falling (laws in Gathering.antt).
use Prim.Native.Nat.{◌+◌, ◌-◌, ◌<◌}
use mathlib.Core.Path.{◌≡◌, ap}
use native.Mathlib.Omega.{arith}
use lib.ListN.{length, length-take}
use Rattle.definition.specs.Begins.{BeginsS}
use Rattle.paths.proofs.Statements.{fields_at, lock_tag, check_at}
use Rattle.paths.proofs.Left.{in_slice, now_cut, now_holds, there, within}
use Rattle.paths.proofs.Counting.{the_fork, cond_at, cond_holds, yes_at, yes_begins, no_begins}
use Rattle.paths.proofs.Gathering.{start, over, fork_last, return_last, found, ahead, past_walks, lock_on, check_on, at_fits, held_fits, if_room, verify_room, no_conditioned, yes_found, no_found, none_found, condition_room, condition_fits, yes_fits, yes_room, mid_at, mid_fits, no_room, paths_fit, size_fits}
use Rattle.paths.proofs.+gather_if_gather_list.Goals as goal
use Rattle.paths.proofs.+gather_if_gather_list.Goals.{gather_list-then-tag-eq3, gather_list-else-tag-eq3}

pub gather_if-forks_at-forks-requires : goal.gather_if-forks_at-forks-requires
gather_if-forks_at-forks-requires t c = fields_at c.requires.begins c.requires.fork

pub gather_if-at-requires : goal.gather_if-at-requires
gather_if-at-requires t c = let g = c.requires in let f = c.forks_at-forks.ensures in (cond_at g.begins g.fork f, cond_holds g.begins g.fork f)

pub gather_if-overflow_add-head : goal.gather_if-overflow_add-head
gather_if-overflow_add-head t c =
    let g = c.requires in
    let f = c.forks_at-forks.ensures in
    omega (arith, yes_at g.begins g.fork f c.at.ensures c.size.ensures)

pub gather_if-overflow_add-at : goal.gather_if-overflow_add-at
gather_if-overflow_add-at t c =
    let g = c.requires in
    let f = c.forks_at-forks.ensures in
    omega (arith, condition_fits g f c.at.ensures c.size.ensures)

pub gather_if-condition-requires : goal.gather_if-condition-requires
gather_if-condition-requires t c =
    let g = c.requires in
    let f = c.forks_at-forks.ensures in
    (condition_room g, condition_fits g f c.at.ensures c.size.ensures)

pub gather_if-rest-here-requires : goal.gather_if-rest-here-requires
gather_if-rest-here-requires t c =
    let g = c.requires in
    let f = c.forks_at-forks.ensures in
    yes_at g.begins g.fork f c.at.ensures c.size.ensures

pub gather_if-overflow_add-at-2 : goal.gather_if-overflow_add-at-2
gather_if-overflow_add-at-2 t c =
    let g = c.requires in
    let f = c.forks_at-forks.ensures in
    omega (arith, yes_fits g f c.at.ensures c.size.ensures)

pub gather_if-gather_list-requires : goal.gather_if-gather_list-requires
gather_if-gather_list-requires t c =
    let g = c.requires in
    let f = c.forks_at-forks.ensures in
    (omega arith, rw c.rest-here.ensures (yes_room g f c.at.ensures c.size.ensures c.condition.ensures))

pub gather_if-returns-in_err-first : goal.gather_if-returns-in_err-first
gather_if-returns-in_err-first t c x h =
    let g = c.requires in
    let f = c.forks_at-forks.ensures in
    rw c.from_residual.ensures (yes_found h g.fork f c.at.ensures c.size.ensures c.args.at c.condition.ensures (c.in_err-first.ensures (the_fork h g.fork f).yes (rw c.rest-here.ensures (yes_begins h g.fork f c.at.ensures c.size.ensures))))

pub gather_if-overflow_add-at-3 : goal.gather_if-overflow_add-at-3
gather_if-overflow_add-at-3 t c =
    let g = c.requires in
    let f = c.forks_at-forks.ensures in
    omega (arith, condition_fits g f c.at.ensures c.size.ensures)

pub gather_if-condition-requires-2 : goal.gather_if-condition-requires-2
gather_if-condition-requires-2 t c =
    let g = c.requires in
    let f = c.forks_at-forks.ensures in
    (omega (arith, condition_room g, c.len-conditions.ensures.value, ap length c.back.ensures.0, length-take c.len-conditions.result c.gather_list.new.trail.conditions.items), condition_fits g f c.at.ensures c.size.ensures)

pub gather_if-overflow_add-mid : goal.gather_if-overflow_add-mid
gather_if-overflow_add-mid t c =
    let g = c.requires in
    let f = c.forks_at-forks.ensures in
    let i = c.in_ok-first.ensures (the_fork g.begins g.fork f).yes (rw c.rest-here.ensures (yes_begins g.begins g.fork f c.at.ensures c.size.ensures)) in
    omega (arith, mid_fits g f c.at.ensures c.size.ensures i)

pub gather_if-rest-there-requires : goal.gather_if-rest-there-requires
gather_if-rest-there-requires t c =
    let g = c.requires in
    let f = c.forks_at-forks.ensures in
    let i = c.in_ok-first.ensures (the_fork g.begins g.fork f).yes (rw c.rest-here.ensures (yes_begins g.begins g.fork f c.at.ensures c.size.ensures)) in
    mid_at g f c.at.ensures c.size.ensures i

pub gather_if-overflow_add-at-4 : goal.gather_if-overflow_add-at-4
gather_if-overflow_add-at-4 t c =
    let g = c.requires in
    let f = c.forks_at-forks.ensures in
    let i = c.in_ok-first.ensures (the_fork g.begins g.fork f).yes (rw c.rest-here.ensures (yes_begins g.begins g.fork f c.at.ensures c.size.ensures)) in
    omega (arith, mid_fits g f c.at.ensures c.size.ensures i)

pub gather_if-overflow_sub-more : goal.gather_if-overflow_sub-more
gather_if-overflow_sub-more t c =
    let g = c.requires in
    let f = c.forks_at-forks.ensures in
    let i = c.in_ok-first.ensures (the_fork g.begins g.fork f).yes (rw c.rest-here.ensures (yes_begins g.begins g.fork f c.at.ensures c.size.ensures)) in
    omega (arith, i.beyond, i.paths)

pub gather_if-gather_list-requires-2 : goal.gather_if-gather_list-requires-2
gather_if-gather_list-requires-2 t c =
    let g = c.requires in
    let f = c.forks_at-forks.ensures in
    let i = c.in_ok-first.ensures (the_fork g.begins g.fork f).yes (rw c.rest-here.ensures (yes_begins g.begins g.fork f c.at.ensures c.size.ensures)) in
    let v = no_conditioned g.begins g.fork f c.at.ensures c.size.ensures c.args.at c.condition.ensures i c.len-conditions.ensures.value c.len-verifies.ensures.value c.back.ensures.0 c.back.ensures.1 c.condition-2.ensures in
    (omega arith, rw c.rest-there.ensures (no_room g f c.at.ensures c.size.ensures v i.size))

pub gather_if-returns-in_err-second : goal.gather_if-returns-in_err-second
gather_if-returns-in_err-second t c x h =
    let g = c.requires in
    let f = c.forks_at-forks.ensures in
    let i = c.in_ok-first.ensures (the_fork h g.fork f).yes (rw c.rest-here.ensures (yes_begins h g.fork f c.at.ensures c.size.ensures)) in
    let v = no_conditioned h g.fork f c.at.ensures c.size.ensures c.args.at c.condition.ensures i c.len-conditions.ensures.value c.len-verifies.ensures.value c.back.ensures.0 c.back.ensures.1 c.condition-2.ensures in
    rw c.from_residual-in_err-second.ensures (no_found h g.fork f c.at.ensures c.size.ensures c.args.at c.condition.ensures i v (c.in_err-second.ensures (the_fork h g.fork f).no (rw c.rest-there.ensures (no_begins h g.fork f c.at.ensures c.size.ensures i.size))))

pub gather_if-overflow_add-result : goal.gather_if-overflow_add-result
gather_if-overflow_add-result t c =
    let g = c.requires in
    let f = c.forks_at-forks.ensures in
    let i = c.in_ok-first.ensures (the_fork g.begins g.fork f).yes (rw c.rest-here.ensures (yes_begins g.begins g.fork f c.at.ensures c.size.ensures)) in
    let j = c.in_ok-second.ensures (the_fork g.begins g.fork f).no (rw c.rest-there.ensures (no_begins g.begins g.fork f c.at.ensures c.size.ensures i.size)) in
    omega (arith, paths_fit g f c.at.ensures c.size.ensures i j)

pub gather_if-overflow_add-result-2 : goal.gather_if-overflow_add-result-2
gather_if-overflow_add-result-2 t c =
    let g = c.requires in
    let f = c.forks_at-forks.ensures in
    let i = c.in_ok-first.ensures (the_fork g.begins g.fork f).yes (rw c.rest-here.ensures (yes_begins g.begins g.fork f c.at.ensures c.size.ensures)) in
    let j = c.in_ok-second.ensures (the_fork g.begins g.fork f).no (rw c.rest-there.ensures (no_begins g.begins g.fork f c.at.ensures c.size.ensures i.size)) in
    omega (arith, size_fits g f c.at.ensures c.size.ensures i j)

pub gather_if-returns : goal.gather_if-returns
gather_if-returns t c x h =
    let g = c.requires in
    let f = c.forks_at-forks.ensures in
    let i = c.in_ok-first.ensures (the_fork h g.fork f).yes (rw c.rest-here.ensures (yes_begins h g.fork f c.at.ensures c.size.ensures)) in
    let v = no_conditioned h g.fork f c.at.ensures c.size.ensures c.args.at c.condition.ensures i c.len-conditions.ensures.value c.len-verifies.ensures.value c.back.ensures.0 c.back.ensures.1 c.condition-2.ensures in
    let j = c.in_ok-second.ensures (the_fork h g.fork f).no (rw c.rest-there.ensures (no_begins h g.fork f c.at.ensures c.size.ensures i.size)) in
    none_found h g.fork f c.at.ensures c.size.ensures c.args.at c.condition.ensures i v j

pub gather_list-loop-i-init : goal.gather_list-loop-i-init
gather_list-loop-i-init t c b h = start c.args.at _ h (omega arith)

pub gather_list-rest-here-requires : goal.gather_list-rest-here-requires
gather_list-rest-here-requires t c =
    let w = c.loop-i.invariant c.requires.block c.requires.begins in
    in_slice w.rest c.requires.begins

pub gather_list-bounds-here-0 : goal.gather_list-bounds-here-0
gather_list-bounds-here-0 t c =
    let w = c.loop-i.invariant c.requires.block c.requires.begins in
    let p : 0 < c.args.count - c.loop-i.i = omega arith in
    rw c.rest-here.ensures (omega (arith, there w.rest p))

pub gather_list-overflow_sub-level : goal.gather_list-overflow_sub-level
gather_list-overflow_sub-level t c =
    let w = c.loop-i.invariant c.requires.block c.requires.begins in
    let p : 0 < c.args.count - c.loop-i.i = omega arith in
    (now_cut w.rest p).low

pub gather_list-gather_if-requires : goal.gather_list-gather_if-requires
gather_list-gather_if-requires t c =
    let w = c.loop-i.invariant c.requires.block c.requires.begins in
    let p : 0 < c.args.count - c.loop-i.i = omega arith in
    let e = c.rest-here.ensures in
    (omega (arith, (now_cut w.rest p).low), rw e (if_room c.requires w p (rw e at c.if-tag-eq1.true)))

pub gather_list-returns-in_err-own : goal.gather_list-returns-in_err-own
gather_list-returns-in_err-own t c b h =
    let w = c.loop-i.invariant b h in
    let p : 0 < c.args.count - c.loop-i.i = omega arith in
    let e = c.rest-here.ensures in
    let k = now_cut w.rest p in
    rw c.from_residual.ensures (found w p (fork_last w p (rw e at c.if-tag-eq1.true)) _ _ (c.in_err-own.ensures k.stmt (rw e k.first)))

pub gather_list-past-requires : goal.gather_list-past-requires
gather_list-past-requires t c =
    let w = c.loop-i.invariant c.requires.block c.requires.begins in
    let p : 0 < c.args.count - c.loop-i.i = omega arith in
    let e = c.rest-here.ensures in
    let k = now_cut w.rest p in
    ahead w p (c.in_ok-own.ensures k.stmt (rw e k.first)) c.requires.begins

pub gather_list-returns-then-tag-eq1 : goal.gather_list-returns-then-tag-eq1
gather_list-returns-then-tag-eq1 t c b h =
    let w = c.loop-i.invariant b h in
    let p : 0 < c.args.count - c.loop-i.i = omega arith in
    let e = c.rest-here.ensures in
    let k = now_cut w.rest p in
    past_walks w p (c.in_ok-own.ensures k.stmt (rw e k.first)) (fork_last w p (rw e at c.if-tag-eq1.true)) _ c.past.ensures

pub gather_list-return_at-requires : goal.gather_list-return_at-requires
gather_list-return_at-requires t c =
    let w = c.loop-i.invariant c.requires.block c.requires.begins in
    let p : 0 < c.args.count - c.loop-i.i = omega arith in
    let e = c.rest-here.ensures in
    rw e (rw e at c.if-tag-eq4.true, (c.args.level - 1, now_holds w.rest p), at_fits c.requires w p)

pub gather_list-returns-in_err-own-2 : goal.gather_list-returns-in_err-own-2
gather_list-returns-in_err-own-2 t c b h =
    let w = c.loop-i.invariant b h in
    let p : 0 < c.args.count - c.loop-i.i = omega arith in
    let e = c.rest-here.ensures in
    let k = now_cut w.rest p in
    rw c.from_residual-in_err-own-2.ensures (found w p (return_last w p (rw e at c.if-tag-eq4.true)) _ _ (c.in_err-own-2.ensures k.stmt (c.args.level - 1) (rw e k.first) _))

pub gather_list-past-requires-then-tag-eq4 : goal.gather_list-past-requires-then-tag-eq4
gather_list-past-requires-then-tag-eq4 t c =
    let w = c.loop-i.invariant c.requires.block c.requires.begins in
    let p : 0 < c.args.count - c.loop-i.i = omega arith in
    let e = c.rest-here.ensures in
    let k = now_cut w.rest p in
    ahead w p (c.in_ok-own-2.ensures k.stmt (c.args.level - 1) (rw e k.first) c.loop-i.trail) c.requires.begins

pub gather_list-returns-then-tag-eq4 : goal.gather_list-returns-then-tag-eq4
gather_list-returns-then-tag-eq4 t c b h =
    let w = c.loop-i.invariant b h in
    let p : 0 < c.args.count - c.loop-i.i = omega arith in
    let e = c.rest-here.ensures in
    let k = now_cut w.rest p in
    past_walks w p (c.in_ok-own-2.ensures k.stmt (c.args.level - 1) (rw e k.first) c.loop-i.trail) (return_last w p (rw e at c.if-tag-eq4.true)) _ c.past-then-tag-eq4.ensures

pub gather_list-verify-requires : goal.gather_list-verify-requires
gather_list-verify-requires t c =
    let w = c.loop-i.invariant c.requires.block c.requires.begins in
    let p : 0 < c.args.count - c.loop-i.i = omega arith in
    let e = c.rest-here.ensures in
    let k = now_cut w.rest p in
    (verify_room c.requires w p, held_fits c.requires w p (check_at k.first (rw e at c.if-tag-eq3.true)).held)

pub gather_list-plain-off-requires : goal.gather_list-plain-off-requires
gather_list-plain-off-requires t c =
    let w = c.loop-i.invariant c.requires.block c.requires.begins in
    let p : 0 < c.args.count - c.loop-i.i = omega arith in
    let e = c.rest-here.ensures in
    (c.if-tag-eq1.false, (c.args.level - 1, rw e (now_holds w.rest p)))

pub gather_list-overflow_add-off : goal.gather_list-overflow_add-off
gather_list-overflow_add-off t c =
    let w = c.loop-i.invariant c.requires.block c.requires.begins in
    let p : 0 < c.args.count - c.loop-i.i = omega arith in
    let e = c.rest-here.ensures in
    let k = now_cut w.rest p in
    omega (arith, within w.rest p c.requires.begins, (c.plain-off.ensures k.stmt (c.args.level - 1) (rw e k.first)).size)

pub gather_list-loop-i-preserved : goal.gather_list-loop-i-preserved
gather_list-loop-i-preserved t c b h =
    let w = c.loop-i.invariant b h in
    let p : 0 < c.args.count - c.loop-i.i = omega arith in
    let e = c.rest-here.ensures in
    let k = now_cut w.rest p in
    let f : BeginsS k.stmt (c.args.level - 1) c.rest-here.result.now = rw e k.first in
    let z = (c.plain-off.ensures k.stmt _ f).size in
    let n : c.args.count - (c.loop-i.i + 1) ≡ c.args.count - c.loop-i.i - 1 = omega arith in
    elim c.if-tag-eq3.branch [
      | gather_list-then-tag-eq3 u ↦ rw (n, u.trail-is) (check_on w p z (rw e at u.if-tag-eq3.true) u.verify.ensures)
      | gather_list-else-tag-eq3 u ↦ rw (n, u.trail-is) (lock_on w p z (rw e at (lock_tag f c.if-tag-eq1.false c.if-tag-eq4.false u.if-tag-eq3.false)))
    ]

pub gather_list-returns : goal.gather_list-returns
gather_list-returns t c b h = let w = c.loop-i.invariant b h in over w (omega arith)
