-- What an answer of `read` says of the definition, and which bytes are accepted.
use Rattle.std.specs.Prelude.{Ok, Err}
use mathlib.Core.Path.{◌≡◌, refl, sym, ◌∙◌}
use mathlib.Core.Logic.{◌↔◌}
use mathlib.Core.List.{List}
use Prim.Native.Nat.{ℕ}
use Rattle.definition.specs.declared.Fault.{Fault}
use Rattle.definition.specs.declared.Head.{Head}
use Rattle.definition.specs.Bytes.{Bytes}
use Rattle.definition.specs.Tree.{Contract}
use Rattle.definition.specs.Writing.{count, write, Sized}
use Rattle.definition.specs.Fault.{Read, answer}
use Rattle.definition.specs.Reading.{read}
use Rattle.definition.proofs.Exactly.{exactly}
use Rattle.exprs.proofs.Telling.{told_got}
use Rattle.reader.specs.Answers.{head_of, seen_of}

-- of a contract its head, of a fault itself
seen_was : (r : Read Contract) (h : Head) → Ok h ≡ seen_of r → (c : Contract) × (r ≡ Ok c) × (h ≡ head_of c)
unfolding answer
seen_was (Ok c) h e = (c, refl, cc)
seen_was (Err f) h e = cc

seen_bad : (r : Read Contract) (f : Fault) → Err f ≡ seen_of r → r ≡ Err f
unfolding answer
seen_bad (Ok c) f e = cc
seen_bad (Err g) f e = cc

-- a head is that of the contract that the bytes are
pub seen_head : (s : List ℕ) (h : Head) → Ok h ≡ seen_of (read s) → (c : Contract) × (read s ≡ Ok c) × (h ≡ record { mode = c.mode; count = count c.block })
seen_head s h e = seen_was (read s) h e

-- a fault is the one that the definition finds
pub seen_fault : (s : List ℕ) (f : Fault) → Err f ≡ seen_of (read s) → read s ≡ Err f
seen_fault s f e = seen_bad (read s) f e

-- `read` answers with a head exactly for the bytes of a contract within the sizes
pub accepts : (s : List ℕ) → Bytes s → (r : Read Head) → r ≡ seen_of (read s) → ((h : Head) × (r ≡ Ok h)) ↔ ((c : Contract) × (s ≡ write c) × Sized c)
accepts s w r e = (
  λ g. let i = seen_head s g.0 (sym g.1 ∙ e) in let x = (exactly s i.0 w).0 i.1 in (i.0, x.0, x.1),
  λ c. (head_of c.0, e ∙ sym (told_got _ _ ((exactly s c.0 w).1 (c.1, c.2)))),
)
