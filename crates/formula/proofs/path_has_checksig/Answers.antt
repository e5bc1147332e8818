-- `path_has_checksig`: by what `any` says of each piece's expression (laws in Checksigs.antt).
use Prim.Native.Nat.{◌/◌, ◌≤◌}
use mathlib.Core.Path.{◌≡◌, ◌∙◌}
use mathlib.Core.Bool.{true, false}
use lib.ListN.{length, get_or, drop}
use borrow.Author.Rules.{rules}
use Rattle.std.proofs.lemmas.Grind.{get_or_default_zero}
use Rattle.std.proofs.lemmas.Iterator.{YieldsList-from_slice, cases_from_any}
use Rattle.std.proofs.lemmas.Iterator.Adapters.{serves_from_places}
use Rattle.definition.specs.Begins.{Holds}
use Rattle.formula.proofs.Pieces.{piece_holds, piece_within}
use Rattle.formula.proofs.Checksigs.{Says, any_says}
use Rattle.formula.proofs.path_has_checksig.Goals as goal

pub any-requires-clause-callable : goal.any-requires-clause-callable
any-requires-clause-callable c =
    serves_from_places (YieldsList-from_slice c.args.pieces.now cc) (λ x q k. search rules)
    (λ x k l e.
    let z : x.now ≡ get_or c.args.pieces.now k 0 = e ∙ get_or_default_zero c.args.pieces.now k x.now l in
    let w : x.now / 2 ≤ length c.args.image.now = rw z (piece_within _ _ _ c.requires l) in
    let h : Holds (drop (x.now / 2) c.args.image.now) = rw z (piece_holds _ _ _ c.requires l) in
    search (rules, w, h))

pub returns : goal.returns
returns c ps h =
    any_says _ _ ps h _
    (cases_from_any _ _ _ (Says c.args.image.now true) (Says c.args.image.now false) c.any.ensures.ran (YieldsList-from_slice c.args.pieces.now cc) (λ x q k e b. search rules) (λ x q k. (search rules, λ e b. search rules)))
