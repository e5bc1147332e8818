-- What the formula's translation tells is told of the path (Loading.antt).
use Rattle.std.proofs.Common.{rules, ◌≡◌}
use Rattle.std.proofs.lemmas.Result.{err_from_is_err_and}
use Rattle.definition.specs.declared.Kind.TheVariants.{Overflows}
use Rattle.definition.specs.Fault.{fault}
use Rattle.survey.proofs.Loading.{load_stops, loads, mapped_got, mapped_bad}
use Rattle.survey.proofs.load_pieces.Goals as goal

pub returns-in_err-n : goal.returns-in_err-n
returns-in_err-n c p are e =
    let k = mapped_bad _ _ _ c.map_err.ensures.cases _ c.in_err-n.was in
    let d = err_from_is_err_and c.from_residual.result c.from_residual.ensures.1 in
    let q : c.in_err-n.field-0.0 ≡ fault Overflows k.0.at k.0.at = search rules in
    rw (d.1, d.2) (load_stops _ _ _ c.requires _ _ _ c.path_formula-formed.ensures.made k.0 k.1 _ q p are)

pub returns : goal.returns
returns c p are e =
    loads _ _ _ c.requires _ _ _ c.path_formula-formed.ensures.made c.path_formula-formed.ensures.full.0 c.path_formula-formed.ensures.full.1 _ (mapped_got _ _ _ c.map_err.ensures.cases _ c.in_ok-n.was) _ c.path_has_checksig.ensures _ p are e
