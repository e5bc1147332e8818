-- Every refusal that a public entry answers with is a fault's, so its number is one of the table's, 1 to 13. In the calls' contracts r is the
-- answer, x the refusal in it.
use Rattle.std.specs.Prelude.{Ok, Err}
use mathlib.Core.Path.{◌≡◌, sym, ap, ◌∙◌}
use mathlib.Core.List.{List}
use Prim.Native.Nat.{ℕ, ◌≤◌}
use native.Mathlib.Omega.{arith}
use Rattle.definition.specs.declared.Fault.{Fault}
use Rattle.definition.specs.declared.Place.{Place}
use Rattle.definition.specs.declared.Refusal.{Refusal}
use Rattle.definition.specs.Fault.{Read}
use Rattle.definition.specs.Table.{refusal_of}
use Rattle.definition.specs.Accepted.{Compiled, accepted, path_of, counted, count_paths, numbered, path_free_atoms}
use Rattle.definition.specs.Verdict.{the_bounds, queried, satisfiable, checked, check_necessity}
use Rattle.definition.specs.Place.{Standing, started, sliced}
use Rattle.definition.specs.Checkpoint.{read_checkpoint}
use Rattle.examiner.specs.declared.Examination.{Examination}
use Rattle.examiner.specs.declared.Sliced.{Sliced}
use Rattle.examiner.specs.declared.Written.{Written}
use Rattle.examiner.specs.Answers.{opened_of, sliced_of, written_of}
use Rattle.examiner.proofs.count_paths.Reads as count_paths
use Rattle.examiner.proofs.path_free_atoms.Reads as path_free_atoms
use Rattle.examiner.proofs.satisfiable_without_signatures.Reads as satisfiable_without_signatures
use Rattle.examiner.proofs.satisfiable_at_all.Reads as satisfiable_at_all
use Rattle.examiner.proofs.start.Reads as start
use Rattle.examiner.proofs.check_necessity.Reads as check_necessity
use Rattle.examiner.proofs.Examination.slice.Reads as cut
use Rattle.examiner.proofs.Examination.write_checkpoint.Reads as write_checkpoint
use Rattle.examiner.proofs.read_checkpoint.Reads as read_checkpoint
use Rattle.theorems.proofs.Refusals.{closed}
use Rattle.theorems.proofs.Slices.{not_refused}

-- a refusal that the table has: that of some fault, with a number from 1 to 13
pub record Named (x : Refusal) : Type 0 where
  pub fault : Fault
  pub is : x ≡ refusal_of fault
  pub least : 1 ≤ x.number
  pub most : x.number ≤ 13

-- each fault's refusal is
named : (f : Fault) (x : Refusal) → x ≡ refusal_of f → Named x
named f x e = let c = closed f in record { fault = f; is = e; least = rw e c.0; most = rw e c.1 }

-- ---- what the definition comes to is refused by a fault alone

counted_named : (m : Read (List Compiled)) (x : Refusal) → counted m ≡ Err x → Named x
unfolding counted
counted_named (Ok ps) x e = let z : ◌≡◌ {A = ℕ} 0 1 = cc in absurd (omega arith)
counted_named (Err f) x e = named f x cc

numbered_named : (m : Read Compiled) (x : Refusal) → numbered m ≡ Err x → Named x
unfolding numbered
numbered_named (Ok p) x e = let z : ◌≡◌ {A = ℕ} 0 1 = cc in absurd (omega arith)
numbered_named (Err f) x e = named f x cc

checked_named : (m : Read (List Compiled)) (x : Refusal) → checked the_bounds m ≡ Err x → Named x
unfolding checked
checked_named (Ok ps) x e = let z : ◌≡◌ {A = ℕ} 0 1 = cc in absurd (omega arith)
checked_named (Err f) x e = named f x cc

opened_named : (m : Read Place) (x : Refusal) → opened_of m ≡ Err x → Named x
opened_named (Ok p) x e = let z : ◌≡◌ {A = ℕ} 0 1 = cc in absurd (omega arith)
opened_named (Err f) x e = named f x cc

written_named : (d : Examination) (m : Read ℕ) (x : Refusal) → (written_of d m).said ≡ Err x → Named x
written_named d (Ok n) x e = let z : ◌≡◌ {A = ℕ} 0 1 = cc in absurd (omega arith)
written_named d (Err f) x e = named f x cc

sliced_named : (d : Examination) (m : Read Standing) (x : Refusal) → (sliced_of d m).said ≡ Err x → Named x
sliced_named d (Ok y) x e = absurd (not_refused d y x e)
sliced_named d (Err f) x e = named f x cc

queried_named : (q : ℕ) (m : Read Compiled) (x : Refusal) → queried the_bounds q m ≡ Err x → Named x
unfolding queried
queried_named q (Err f) x e = named f x cc
queried_named q (Ok p) x e = let z : ◌≡◌ {A = ℕ} 0 1 = cc in absurd (omega arith)

-- ---- so are the entries

pub count_paths_named : (κs : _) (a : _) (r : _) (t : _) → count_paths.Post κs a r t → (x : Refusal) → r ≡ Err x → Named x
unfolding count_paths
count_paths_named κs a r t p x e = counted_named (accepted a.0.now) x (sym p ∙ e)

pub path_free_atoms_named : (κs : _) (a : _) (r : _) (t : _) → path_free_atoms.Post κs a r t → (x : Refusal) → r ≡ Err x → Named x
unfolding path_free_atoms
path_free_atoms_named κs a r t p x e = numbered_named (path_of a.1.0 a.0.now) x (sym p ∙ e)

pub without_signatures_named : (κs : _) (a : _) (r : _) (t : _) → satisfiable_without_signatures.Post κs a r t → (x : Refusal) → r ≡ Err x → Named x
unfolding satisfiable
without_signatures_named κs a r t p x e = queried_named 0 (path_of a.1.0 a.0.now) x (sym p ∙ e)

pub at_all_named : (κs : _) (a : _) (r : _) (t : _) → satisfiable_at_all.Post κs a r t → (x : Refusal) → r ≡ Err x → Named x
unfolding satisfiable
at_all_named κs a r t p x e = queried_named 1 (path_of a.1.0 a.0.now) x (sym p ∙ e)

pub start_named : (κs : _) (a : _) (r : _) (t : _) → start.Post κs a r t → (x : Refusal) → r ≡ Err x → Named x
start_named κs a r t p x e = opened_named (started a.0.now) x (sym p ∙ e)

pub check_necessity_named : (κs : _) (a : _) (r : _) (t : _) → check_necessity.Post κs a r t → (x : Refusal) → r ≡ Err x → Named x
unfolding check_necessity
check_necessity_named κs a r t p x e = checked_named (accepted a.0.now) x (sym p ∙ e)

pub slice_named : (κs : _) (a : _) (r : _) (t : _) → cut.Post κs a r t → (x : Refusal) → r.said ≡ Err x → Named x
slice_named κs a r t p x e =
    sliced_named a.0 (sliced the_bounds a.1.0.now a.1.1.0 a.0.place) x (sym (ap (λ (y : Sliced). y.said) p) ∙ e)

pub write_checkpoint_named : (κs : _) (a : _) (r : _) (t : _) → write_checkpoint.Post κs a r t → (x : Refusal) → r.said ≡ Err x → Named x
write_checkpoint_named κs a r t p x e = written_named a.0 _ x (sym (ap (λ (y : Written). y.said) p.0) ∙ e)

pub read_checkpoint_named : (κs : _) (a : _) (r : _) (t : _) → read_checkpoint.Post κs a r t → (x : Refusal) → r ≡ Err x → Named x
read_checkpoint_named κs a r t p x e = opened_named (read_checkpoint the_bounds a.0.now) x (sym p ∙ e)
