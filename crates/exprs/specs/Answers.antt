-- The code's answers as pictures of what the definition's judgements come to: a part that was read is told without its tree, by the
-- counts with it and the offset at which it ends.
use Rattle.std.specs.Prelude.{ℕ, zero, suc, ◌+◌, List, drop, Ok, Err}
use Rattle.definition.specs.declared.Tally.{Tally}
use Rattle.definition.specs.Fault.{Read, ◌>>=◌, answer}
use Rattle.definition.specs.Reading.{Part, Reader, Node, leaf, of_one, of_two}
use Rattle.exprs.specs.declared.Extent.{Extent}

-- counts and an offset, from their parts
abbrev pub extent : Tally → ℕ → Extent
extent t z = record { tally = t; size = z }

-- of a part, by the counts with it and where it ends
abbrev pub part_of : {A : Type 0} → Read (Part A) → Read Extent
part_of r = answer (λ x. Ok (extent x.tally x.size)) Err r

-- one item behind what was read: what was read with it
unfoldable pub behind : {A : Type 0} → Reader A → Extent → ℕ → List ℕ → Read Extent
behind item read at s = do
  e ← part_of (item read.tally (at + read.size) (drop read.size s))
  Ok (extent e.tally (read.size + e.size))

-- so many items behind what was read: what was read with them
unfoldable pub sequence : {A : Type 0} → Reader A → ℕ → Extent → ℕ → List ℕ → Read Extent
sequence item zero read at s = Ok read
sequence item (suc many) read at s = do
  e ← behind item read at s
  sequence item many e at s

-- how many operands a node wants
abbrev pub arity_of : Node → ℕ
arity_of (leaf e) = 0
arity_of (of_one make) = 1
arity_of (of_two make) = 2
