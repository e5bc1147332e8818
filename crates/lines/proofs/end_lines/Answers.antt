-- The lines of the paths and that of the end, in a text that was empty (Laws.antt).
use mathlib.Core.Path.{◌≡◌, sym, ap, ◌∙◌}
use mathlib.Core.List.{◌++◌}
use Rattle.lines.specs.Lines.{end_lines}
use Rattle.lines.proofs.Laws.{end_told}
use Rattle.lines.proofs.end_lines.Goals as goal

pub returns : goal.returns
returns c =
    let all = end_lines c.args.image.now c.args.outcome in
    let told : all ≡ c.as_slice.result.now =
    ap (λ l. l ++ all) (sym c.new-text.ensures) ∙ end_told _ _ _ c.requires _ _ c.path_lines.ensures.wrote ∙ sym c.verdict_line.ensures ∙ sym c.as_slice.ensures.value in
    rw told c.copy_out.ensures
