-- The part that is handed on holds the path's pieces (the crate formula's Holding.antt), and what is told of it is told of the path (Loading.antt).
use mathlib.Core.Path.{refl}
use native.Mathlib.Nat.{sub-zero}
use native.Mathlib.Omega.{arith}
use Rattle.definition.specs.Bytes.{Bytes}
use Rattle.formula.proofs.Holding.{enumerated_fits, enumerated_holds}
use Rattle.survey.proofs.Loading.{sees_asked, path_loads}
use Rattle.survey.proofs.load.Goals as goal

pub enumerate-g-requires : goal.enumerate-g-requires
enumerate-g-requires c = let p = c.requires in sees_asked _ _ p.0 _ p.1

pub slice_bounds-load_pieces-end : goal.slice_bounds-load_pieces-end
unfolding Bytes
slice_bounds-load_pieces-end c =
    let p = c.requires in
    enumerated_fits _ _ _ ((λ i. omega (arith, c.type_inv.image i))) (sees_asked _ _ p.0 _ p.1) c.enumerate-g.result _ _ refl c.enumerate-g.ensures

pub load_pieces-requires : goal.load_pieces-requires
unfolding Bytes
load_pieces-requires c =
    let p = c.requires in
    rw sub-zero (enumerated_holds _ _ _ ((λ i. omega (arith, c.type_inv.image i))) (sees_asked _ _ p.0 _ p.1) c.enumerate-g.result _ _ refl c.enumerate-g.ensures)

pub returns : goal.returns
unfolding Bytes
returns c =
    let p = c.requires in
    path_loads _ _ ((λ i. omega (arith, c.type_inv.image i))) p.0 _ p.1 c.enumerate-g.result _ _ refl c.enumerate-g.ensures _ _ c.load_pieces.ensures
