-- Laws of statements and lists of them: what is told of each, from what its parts come to.
use Rattle.std.specs.Prelude.{◌≡◌, ℕ, zero, suc, ◌+◌, ◌-◌, List, Ok, Err, refl}
use mathlib.Core.Path.{sym, ap, ◌∙◌}
use Rattle.definition.specs.declared.Fault.{Fault}
use Rattle.definition.specs.declared.Forks.{Forks}
use Rattle.definition.specs.declared.Sort.{Sort}
use Rattle.definition.specs.declared.Sort.TheVariants.{If, Locktime, Verify, Return}
use Rattle.definition.specs.declared.Tally.{Tally}
use Rattle.definition.specs.Tree.{Stmt, next}
use Rattle.definition.specs.Fault.{◌>>=◌, answer}
use Rattle.definition.specs.Reading.{tally, Reader, begin, expr, stmt_tag, items, if_fields, if_stmt, lock_stmt, expr_stmt, by_sort, stmt}
use Rattle.definition.proofs.Steps.{on_got, on_bad}
use Rattle.definition.proofs.Fields.{stmt_is}
use Rattle.definition.proofs.Refused.{stmt_refused}
use Rattle.definition.proofs.Inverse.{begun}
use Rattle.exprs.specs.declared.Extent.{Extent}
use Rattle.exprs.specs.Answers.{extent, part_of, behind, sequence}
use Rattle.exprs.proofs.Telling.{told_bad}
use Rattle.exprs.proofs.Sequences.{part_then, behind_then, made_part, none_left, next_bad, next_read}

-- ---- a statement
module _ (l : ℕ) (t : Tally) (at : ℕ) (s : List ℕ) where
  goes_on : (k : Sort) → begin stmt_tag 512 l t.stmts at s ≡ Ok k → part_of (stmt l t at s) ≡ part_of (by_sort k (stmt (l - 1)) (tally (t.stmts + 1) t.nodes) at s)
  goes_on k e = ap part_of (stmt_is l t at s k (begun stmt_tag 512 l t.stmts at s k e).deep e)

  pub stmt_if : begin stmt_tag 512 l t.stmts at s ≡ Ok If → part_of (stmt l t at s) ≡ part_of (if_stmt (stmt (l - 1)) (tally (t.stmts + 1) t.nodes) at s)
  unfolding by_sort
  stmt_if e = goes_on If e

  pub stmt_locktime : begin stmt_tag 512 l t.stmts at s ≡ Ok Locktime → part_of (stmt l t at s) ≡ part_of (lock_stmt (tally (t.stmts + 1) t.nodes) at s)
  unfolding by_sort
  stmt_locktime e = goes_on Locktime e

  pub stmt_verify : begin stmt_tag 512 l t.stmts at s ≡ Ok Verify → part_of (stmt l t at s) ≡ behind (expr 32) (extent (tally (t.stmts + 1) t.nodes) 17) at s
  unfolding by_sort expr_stmt behind answer
  stmt_verify e = goes_on Verify e ∙ part_then _ _ _ (λ x. refl)

  pub stmt_return : begin stmt_tag 512 l t.stmts at s ≡ Ok Return → part_of (stmt l t at s) ≡ behind (expr 32) (extent (tally (t.stmts + 1) t.nodes) 17) at s
  unfolding by_sort expr_stmt behind answer
  stmt_return e = goes_on Return e ∙ part_then _ _ _ (λ x. refl)

-- ---- an if
module _ (item : Reader Stmt) (t : Tally) (at : ℕ) (s : List ℕ) where
  pub if_bad : (f : Fault) → if_fields at s ≡ Err f → Err f ≡ part_of (if_stmt item t at s)
  unfolding if_stmt
  if_bad f e = told_bad _ _ (on_bad _ _ f e)

  module _ (k : Forks) (e : if_fields at s ≡ Ok k) where
    -- its condition, then its blocks
    forked : part_of (if_stmt item t at s) ≡ behind (expr 32) (extent t k.from) at s >>= (λ c. part_of (items item k.yes c.tally c.size at s) >>= (λ a. part_of (items item k.no a.tally a.size at s)))
    unfolding if_stmt behind
    forked = ap part_of (on_got _ _ k e) ∙ behind_then k.from _ _ _ (λ c. part_then _ _ _ (λ a. made_part _ _))

    pub if_condition : (f : Fault) → behind (expr 32) (extent t k.from) at s ≡ Err f → Err f ≡ part_of (if_stmt item t at s)
    if_condition f d = sym (forked ∙ on_bad _ _ f d)

    module _ (c : Extent) (d : behind (expr 32) (extent t k.from) at s ≡ Ok c) where
      pub if_yes : (f : Fault) → part_of (items item k.yes c.tally c.size at s) ≡ Err f → Err f ≡ part_of (if_stmt item t at s)
      if_yes f y = sym (forked ∙ (on_got _ _ c d ∙ on_bad _ _ f y))

      pub if_no : (a : Extent) → part_of (items item k.yes c.tally c.size at s) ≡ Ok a → part_of (if_stmt item t at s) ≡ part_of (items item k.no a.tally a.size at s)
      if_no a y = forked ∙ (on_got _ _ c d ∙ on_got _ _ a y)

-- ---- a list is so many statements
told : (item : Reader Stmt) (many : ℕ) (t : Tally) (off at : ℕ) (s : List ℕ) → part_of (items item many t off at s) ≡ sequence item many (extent t off) at s
unfolding items sequence behind answer
told item zero t off at s = refl
told item (suc many) t off at s = behind_then off _ _ _ (λ x. made_part (next x.tree) _ ∙ told item many x.tally (off + x.size) at s)

pub items_told : (item : Reader Stmt) (many left : ℕ) (t : Tally) (off at : ℕ) (s : List ℕ) → left ≡ many → part_of (items item many t off at s) ≡ sequence item left (extent t off) at s
items_told item many left t off at s e = told item many t off at s ∙ rw e

pub ruleset listing = (stmt_refused, told_bad, stmt_if, stmt_locktime, stmt_verify, stmt_return, if_bad, if_condition, if_yes, if_no, items_told, none_left, next_bad, next_read)
