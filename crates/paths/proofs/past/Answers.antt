-- `past`: a passed statement is moved behind what follows it.
use Prim.Native.Nat.{◌+◌}
use native.Mathlib.Omega.{arith}
use lib.ListN.{length-drop}
use Rattle.paths.proofs.Statements.{fits_b}
use Rattle.paths.proofs.past.Goals as goal

pub overflow_add-result : goal.overflow_add-result
overflow_add-result c =
    let g = c.requires in
    omega (arith, g.within, fits_b g.holds.begins, length-drop (c.args.off + c.args.one.size) c.args.part.now, (c.count_list-behind.ensures g.holds.block (rw c.rest.ensures g.holds.begins)).size)
