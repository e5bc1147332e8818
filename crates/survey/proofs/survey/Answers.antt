-- A fault of reading is the image's; too many paths, or what comes of every one (Sighting.antt).
use Rattle.std.proofs.Common.{Err, ap, sym, ◌∙◌}
use Rattle.std.proofs.lemmas.Result.{err_from_is_err_and}
use Rattle.paths.proofs.Whole.{seen_accepted}
use Rattle.survey.proofs.Sighting.{seen_sees, unread_told, many_told, all_told}
use Rattle.survey.proofs.survey.Goals as goal

pub returns-in_err-head : goal.returns-in_err-head
returns-in_err-head c =
    let e = err_from_is_err_and c.from_residual.result c.from_residual.ensures.1 in
    let k = unread_told c.args.image.now c.args.table.now c.args.table.now _ (sym c.in_err-head.was ∙ c.read.ensures) in
    record { value = e.1 ∙ ap Err e.2 ∙ k.0; stored = k.1 }

pub count_paths-requires : goal.count_paths-requires
count_paths-requires c = seen_accepted _ _ (sym c.in_ok-head.was ∙ c.read.ensures)

pub returns-then-sight-gt-MOST_PATHS : goal.returns-then-sight-gt-MOST_PATHS
returns-then-sight-gt-MOST_PATHS c =
    let g = seen_sees _ _ (sym c.in_ok-head.was ∙ c.read.ensures) _ c.count_paths.ensures in
    let k = many_told _ _ _ _ g c.if-sight-gt-MOST_PATHS.true _ c.new.ensures in
    record { value = k.0; stored = k.1 }

pub survey_paths-requires : goal.survey_paths-requires
survey_paths-requires c = (seen_sees _ _ (sym c.in_ok-head.was ∙ c.read.ensures) _ c.count_paths.ensures, c.if-sight-gt-MOST_PATHS.false)

pub returns : goal.returns
returns c =
    let g = seen_sees _ _ (sym c.in_ok-head.was ∙ c.read.ensures) _ c.count_paths.ensures in
    let k = all_told _ _ _ _ g c.if-sight-gt-MOST_PATHS.false _ c.survey_paths.ensures in
    record { value = k.0; stored = k.1 }
