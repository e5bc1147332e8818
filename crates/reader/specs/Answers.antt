-- The answer for a whole image as a picture of what the definition's judgement comes to, as in crate `exprs`: a contract that was read
-- is told by what its head says.
use Rattle.std.specs.Prelude.{Err, Ok}
use Rattle.definition.specs.declared.Head.{Head}
use Rattle.definition.specs.Tree.{Contract}
use Rattle.definition.specs.Writing.{count}
use Rattle.definition.specs.Fault.{Read, answer}

-- the head of a contract
abbrev pub head_of : Contract → Head
head_of c = record { mode = c.mode; count = count c.block }

-- of a whole image, by its head
abbrev pub seen_of : Read Contract → Read Head
seen_of r = answer (λ c. Ok (head_of c)) Err r
