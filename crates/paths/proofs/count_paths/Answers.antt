-- `count_paths`: the top list of an image that was read (laws in Whole.antt).
use native.Mathlib.Omega.{arith}
use Rattle.definition.specs.Bytes.{Bytes}
use Rattle.paths.proofs.Whole.{headed, top_begins, top_holds}
use Rattle.paths.proofs.count_paths.Goals as goal

pub rest-requires : goal.rest-requires
unfolding Bytes
rest-requires c = let w : Bytes c.args.image.now = λ i. omega (arith, c.type_inv.image i) in headed c.args.image.now _ w c.requires

pub count_list-requires : goal.count_list-requires
unfolding Bytes
count_list-requires c = let w : Bytes c.args.image.now = λ i. omega (arith, c.type_inv.image i) in rw c.rest.ensures (top_holds c.args.image.now _ w c.requires)

pub returns : goal.returns
unfolding Bytes
returns c d e = let w : Bytes c.args.image.now = λ i. omega (arith, c.type_inv.image i) in (c.count_list.ensures d.block (rw c.rest.ensures (top_begins c.args.image.now _ w c.requires d e))).paths 8
