-- `pushed_truth`: by the mode (laws in Strings.antt).
use mathlib.Core.Path.{ap, ◌∙◌}
use mathlib.Core.Bool.{not}
use lib.Dec.{eqb}
use borrow.Author.Rules.{rules}
use borrow.Author.Tests.{tests}
use Rattle.std.proofs.lemmas.Iterator.{YieldsList-from_slice}
use Rattle.std.proofs.lemmas.Iterator.Search.{any_from_yields_List}
use Rattle.formula.proofs.Strings.{pushed_zero, any_byte, pushed_other}
use Rattle.formula.proofs.pushed_truth.Goals as goal

pub returns-then-mode-eq0 : goal.returns-then-mode-eq0
returns-then-mode-eq0 c = ap not c.is_empty.ensures ∙ pushed_zero _ _ c.if-mode-eq0.true

pub returns : goal.returns
returns c =
    any_from_yields_List (λ b. not (eqb b 0)) _ _ _ c.any.ensures.ran (YieldsList-from_slice c.args.bytes.now cc) (λ x b q k. search (rules, tests))
    ∙ any_byte _
    ∙ pushed_other _ _ c.if-mode-eq0.false
