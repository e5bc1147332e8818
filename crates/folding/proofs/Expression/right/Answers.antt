-- `right`: the part is the operand behind the first (laws in View.antt).
use mathlib.Core.Path.{ap, ◌∙◌}
use native.Mathlib.Omega.{arith}
use lib.ListN.{length, drop, length-drop}
use lib.Seq.{drop-drop}
use Rattle.folding.proofs.View.{IsSize, right_room, right_part}
use Rattle.folding.proofs.Expression.right.Goals as goal

pub rest-requires : goal.rest-requires
rest-requires c =
    let q = c.requires in
    let k : IsSize c.args.n (drop 18 c.args.self.bytes.now) = rw q.1 at q.2 in
    omega (arith, right_room _ c.args.self.holds q.0 c.args.n k, ap length q.1, length-drop 18 c.args.self.bytes.now)

pub invariant_of-result : goal.invariant_of-result
invariant_of-result c =
    let q = c.requires in
    let k : IsSize c.args.n (drop 18 c.args.self.bytes.now) = rw q.1 at q.2 in
    let e = c.rest.ensures ∙ ap (drop c.args.n) q.1 ∙ drop-drop c.args.n 18 c.args.self.bytes.now in
    record { holds = (right_part _ c.args.self.holds q.0 c.args.n k e).holds }

pub returns : goal.returns
returns c =
    let q = c.requires in
    let k : IsSize c.args.n (drop 18 c.args.self.bytes.now) = rw q.1 at q.2 in
    let e = c.rest.ensures ∙ ap (drop c.args.n) q.1 ∙ drop-drop c.args.n 18 c.args.self.bytes.now in
    let p = right_part _ c.args.self.holds q.0 c.args.n k e in
    (e, p.long, p.shorter)
