-- `enumerate`: the wanted path of an image that was read, its conditions, verifies and return written one behind the other (laws in Whole.antt).
use Rattle.std.specs.Prelude.{Ok}
use mathlib.Core.Path.{◌≡◌, ap}
use mathlib.Core.Bool.{true}
use mathlib.Core.List.{[]}
use Prim.Native.Nat.{◌+◌, ◌≤◌, ◌<◌}
use native.Mathlib.Omega.{arith}
use lib.ListN.{length, get_or}
use lib.Seq.{length-sets}
use Rattle.definition.specs.Bytes.{Bytes}
use Rattle.definition.specs.declared.Location.{Location}
use Rattle.definition.specs.Tree.{variable, Contract}
use Rattle.definition.specs.Reading.{read}
use Rattle.definition.specs.Paths.{Path, piece, paths_b}
use Rattle.paths.specs.Gathering.{Adds}
use Rattle.paths.proofs.Whole.{headed, top_begins, room_top, ended_fits, enumerated}
use Rattle.paths.proofs.enumerate.Goals as goal
use Rattle.paths.proofs.enumerate.Goals.{In-Break}

-- a path, for a place at which there is none
abbrev some : Path
some =
    let p : Location = record { start = 0; end = 0; line = 0; column = 0 } in
    record { conditions = []; verifies = []; ret = piece 0 (variable p) true; location = p }

-- the path was added to an empty trail
found : (c : In-Break) (d : Contract) → read c.args.image.now ≡ Ok d → (q : Path) → Adds c.new-trail.result (get_or (paths_b d.block 8) c.args.wanted q) c.in-Break.end c.gather_list.new.trail
unfolding Bytes
found c d e q = (c.in-Break.ensures d.block (rw c.rest-part.ensures (top_begins c.args.image.now _ (λ i. omega (arith, c.type_inv.image i)) c.requires.given d e))).adds q

-- what was gathered leaves room for the return
fits : (c : In-Break) → (length c.gather_list.new.trail.conditions.items + length c.gather_list.new.trail.verifies.items + 1 ≤ 512) × (c.in-Break.end.ret < 32768)
unfolding Bytes
fits c =
    let g = c.requires in
    let n = c.new-trail.ensures in
    ended_fits c.args.image.now _ _ (λ i. omega (arith, c.type_inv.image i)) g c.new-trail.result n.0 n.1 some _ _ (found c g.given.contract g.given.is some)

pub rest-part-requires : goal.rest-part-requires
unfolding Bytes
rest-part-requires c = headed c.args.image.now _ (λ i. omega (arith, c.type_inv.image i)) c.requires.given

pub gather_list-requires : goal.gather_list-requires
unfolding Bytes
gather_list-requires c = let n = c.new-trail.ensures in rw c.rest-part.ensures (room_top c.args.image.now _ _ (λ i. omega (arith, c.type_inv.image i)) c.requires _ n.0 n.1)

pub append-requires-in-Break : goal.append-requires-in-Break
append-requires-in-Break c = let f = fits (goal.at.append-requires-in-Break c).In-Break in omega (arith, f.0, c.len-k.ensures.value, ap length c.deref-in-Break.ensures.0, ap length c.append.ensures, length-sets c.args.pieces.now 0 c.deref.result.now)

pub word-requires : goal.word-requires
word-requires c = (fits (goal.at.word-requires c).In-Break).1

pub bounds-pieces-n : goal.bounds-pieces-n
bounds-pieces-n c = let f = fits (goal.at.bounds-pieces-n c).In-Break in omega (arith, f.0, c.len-k.ensures.value, c.len-v.ensures.value)

pub returns-in-Break : goal.returns-in-Break
unfolding Bytes
returns-in-Break c d e p ps q =
    let n = c.new-trail.ensures in
    let z = enumerated c.args.image.now _ _ (λ i. omega (arith, c.type_inv.image i)) c.requires c.new-trail.result n.0 n.1 some c.in-Break.end c.gather_list.new.trail d e p ps q (found (goal.at.returns-in-Break c).In-Break d e some) c.args.pieces.now _ c.word.ensures in
    rw (c.len-k.ensures.value, c.len-v.ensures.value, c.append-in-Break.ensures, c.append.ensures, c.deref.ensures.0, c.deref-in-Break.ensures.0, c.len-k.ensures.value) z

pub returns-in-Continue : goal.returns-in-Continue
unfolding Bytes
returns-in-Continue c d e p ps q =
    let g = c.requires in
    absurd (omega (arith, g.below, (c.in-Continue.ensures g.given.contract.block (rw c.rest-part.ensures (top_begins c.args.image.now _ (λ i. omega (arith, c.type_inv.image i)) g.given g.given.contract g.given.is))).beyond))
