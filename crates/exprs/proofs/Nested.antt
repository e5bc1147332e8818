-- Laws of an expression: what is told of it, from what its beginning and its fields come to.
use Rattle.std.specs.Prelude.{◌≡◌, ℕ, ◌+◌, ◌-◌, List, Ok, Err, refl}
use mathlib.Core.Path.{sym, ap, ◌∙◌}
use Rattle.definition.specs.declared.Fault.{Fault}
use Rattle.definition.specs.declared.Tag.{Tag}
use Rattle.definition.specs.declared.Tally.{Tally}
use Rattle.definition.specs.Tree.{Expr}
use Rattle.definition.specs.Fault.{answer}
use Rattle.definition.specs.Reading.{tally, begin, expr_tag, fields, Node, leaf, of_one, of_two, node_of, Reader, operands, by_tag, expr}
use Rattle.definition.proofs.Steps.{on_got, on_bad}
use Rattle.definition.proofs.Fields.{expr_is}
use Rattle.definition.proofs.Refused.{expr_refused}
use Rattle.definition.proofs.Inverse.{begun}
use Rattle.exprs.specs.Answers.{extent, part_of, behind, sequence, arity_of}
use Rattle.exprs.proofs.Telling.{told_bad}
use Rattle.exprs.proofs.Sequences.{behind_then, none_left, next_bad, next_read}

-- the operands of a node are so many expressions
operands_told : (n : Node) (operand : Reader Expr) (from : ℕ) (t : Tally) (at : ℕ) (s : List ℕ) → part_of (operands n operand from t at s) ≡ sequence operand (arity_of n) (extent t from) at s
unfolding operands sequence behind answer
operands_told (leaf e) operand from t at s = refl
operands_told (of_one make) operand from t at s = behind_then from _ _ _ (λ x. refl)
operands_told (of_two make) operand from t at s = behind_then from _ _ _ (λ x. behind_then (from + x.size) _ _ _ (λ y. refl))

module _ (l : ℕ) (t : Tally) (at : ℕ) (s : List ℕ) where
  module _ (k : Tag) (e : begin expr_tag 1024 l t.nodes at s ≡ Ok k) where
    goes_on : part_of (expr l t at s) ≡ part_of (by_tag k (expr (l - 1)) (tally t.stmts (t.nodes + 1)) at s)
    goes_on = ap part_of (expr_is l t at s k (begun expr_tag 1024 l t.nodes at s k e).deep e)

    pub expr_fields_bad : (f : Fault) → fields k at s ≡ Err f → Err f ≡ part_of (expr l t at s)
    unfolding by_tag
    expr_fields_bad f d = told_bad _ _ (on_bad _ _ f d) ∙ sym goes_on

    pub expr_fields : (from n : ℕ) → fields k at s ≡ Ok from → n ≡ arity_of (node_of k s) → part_of (expr l t at s) ≡ sequence (expr (l - 1)) n (extent (tally t.stmts (t.nodes + 1)) from) at s
    unfolding by_tag
    expr_fields from n d a = goes_on ∙ (ap part_of (on_got _ _ from d) ∙ (operands_told (node_of k s) (expr (l - 1)) from _ at s ∙ rw a))

pub ruleset nested = (expr_refused, told_bad, expr_fields_bad, expr_fields, none_left, next_bad, next_read)
