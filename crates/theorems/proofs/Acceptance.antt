-- Which images are accepted, in both directions: exactly the bytes of a contract within the sizes, with at most 128 paths, on which no literal
-- arithmetic leaves 64 bits.
use Rattle.std.specs.Prelude.{Ok, Err}
use mathlib.Core.Path.{◌≡◌, refl, sym, ap, ◌∙◌}
use mathlib.Core.Logic.{◌↔◌}
use mathlib.Core.List.{List}
use Prim.Native.Nat.{ℕ, ◌≤◌}
use native.Mathlib.Omega.{arith}
use lib.ListN.{length}
use borrow.Author.Tests.{le-ltb}
use Rattle.definition.specs.Bytes.{Bytes}
use Rattle.definition.specs.Tree.{Contract}
use Rattle.definition.specs.Writing.{write, Sized}
use Rattle.definition.specs.Fault.{Read, ◌>>=◌, ◌>>◌, refuse}
use Rattle.definition.specs.Table.{refusal_of, Told}
use Rattle.definition.specs.Reading.{read}
use Rattle.definition.specs.Paths.{paths_b}
use Rattle.definition.specs.Accepted.{Compiled, compile, accepted}
use Rattle.definition.specs.Place.{start, started}
use Rattle.definition.proofs.Steps.{bad_got}
use Rattle.definition.proofs.Back.{read_write}
use Rattle.definition.proofs.Sound.{read_sound}
use Rattle.definition.proofs.Acceptance.{accepted_passed}
use Rattle.examiner.specs.declared.Examination.{Examination}
use Rattle.examiner.specs.Answers.{examination_at, opened_of}
use Rattle.examiner.proofs.start.Reads as begin

-- the image s may be examined, ps being its paths with their formulas
pub record Acceptable (s : List ℕ) (ps : List Compiled) : Type 0 where
  pub contract : Contract
  pub bytes : s ≡ write contract
  pub sized : Sized contract
  pub few : length (paths_b contract.block 8) ≤ 128
  pub compiles : compile contract.mode (paths_b contract.block 8) ≡ Ok ps

-- it is accepted
pub is_accepted : (s : List ℕ) (ps : List Compiled) → Acceptable s ps → accepted s ≡ Ok ps
unfolding accepted refuse ◌>>◌ ◌>>=◌
is_accepted s ps a = rw (ap read a.bytes ∙ read_write a.contract a.sized, le-ltb _ _ a.few) a.compiles

-- and so are no other bytes
pub is_acceptable : (s : List ℕ) (ps : List Compiled) → Bytes s → accepted s ≡ Ok ps → Acceptable s ps
is_acceptable s ps w e =
    let p = accepted_passed s ps e in
    let g = read_sound s p.contract w p.was_read in
    record { contract = p.contract; bytes = g.bytes; sized = g.sized; few = p.few; compiles = p.made }

-- by what acceptance comes to
opens : (s : List ℕ) → Bytes s → (r : Told Examination) → r ≡ opened_of (started s) → (x : Read (List Compiled)) → accepted s ≡ x → ((e : Examination) × (r ≡ Ok e)) ↔ ((ps : List Compiled) × Acceptable s ps)
unfolding started ◌>>=◌
opens s w r p (Ok ps) q = (λ g. (ps, is_acceptable s ps w q), λ g. (examination_at (start ps), p ∙ rw q refl))
opens s w r p (Err f) q = (
  λ g. (let y : Err (refusal_of f) ≡ Ok g.0 = sym (p ∙ rw q refl) ∙ g.1 in let z : ◌≡◌ {A = ℕ} 0 1 = cc in absurd (omega arith)),
  λ g. bad_got f g.0 (sym q ∙ is_accepted s g.0 g.1),
)

-- acceptance in both directions, through an entry: `start` gives an examination exactly where the bytes that it is lent may be examined. (What a
-- `&[u8]` shows are bytes.)
pub accepts : (κs : _) (a : _) (r : _) (t : _) → begin.Post κs a r t → Bytes a.0.now → ((e : Examination) × (r ≡ Ok e)) ↔ ((ps : List Compiled) × Acceptable a.0.now ps)
accepts κs a r t p w = opens a.0.now w r p (accepted a.0.now) refl
