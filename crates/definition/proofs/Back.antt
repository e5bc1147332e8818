-- A contract within the sizes that was written is read back.
use Rattle.std.specs.Prelude.{Ok}
use mathlib.Core.Path.{◌≡◌, refl, ap, ◌∙◌}
use mathlib.Core.List.{List, []}
use Prim.Native.Nat.{ℕ, ◌+◌, ◌≤◌}
use native.Mathlib.Nat.{div-add-mod'}
use native.Mathlib.Omega.{arith}
use lib.ListN.{length}
use borrow.Author.Tests.{le-ltb}
use Rattle.definition.specs.declared.Tally.{Tally}
use Rattle.definition.specs.Bytes.{be16}
use Rattle.definition.specs.Fault.{◌>>=◌, ◌>>◌, refuse}
use Rattle.definition.specs.Tree.{Block, Contract}
use Rattle.definition.specs.Writing.{count, write, size_b, stmts_b, nodes_b, Sized}
use Rattle.definition.specs.Reading.{tally, part, items, stmt, marked, head, read}
use Rattle.definition.proofs.Lengths.{length_write}
use Rattle.definition.proofs.Fields.{head_is}
use Rattle.definition.proofs.BackS.{whole_b}

-- the head of a written contract
head_back : (c : Contract) → Sized c → head (write c) ≡ Ok (record { mode = c.mode; count = count c.block })
unfolding write marked be16
head_back c z =
    head_is (write c) (omega (arith, length_write c, z.bytes)) (omega (arith, length_write c)) refl refl z.modes
    ∙ ap (λ (n : ℕ). Ok (record { mode = c.mode; count = n })) (div-add-mod' (count c.block) 256)

-- an image: its head, its statements, and nothing left over
pub read_is : (s : List ℕ) (m n : ℕ) (b : Block) (t : Tally) (z : ℕ) → head s ≡ Ok (record { mode = m; count = n }) → items (stmt 16) n (tally 0 0) 8 0 s ≡ Ok (part b t z) → length s ≤ z → read s ≡ Ok (record { mode = m; block = b })
unfolding read refuse ◌>>◌ ◌>>=◌
read_is s m n b t z h e g = rw (h, e, le-ltb z (length s) g)

-- what was written within the sizes is read back
pub read_write : (c : Contract) → Sized c → read (write c) ≡ Ok c
unfolding write
read_write c z =
    read_is (write c) c.mode (count c.block) c.block (tally (0 + stmts_b c.block) (0 + nodes_b c.block)) (8 + size_b c.block) (head_back c z)
    (whole_b c.block 16 (tally 0 0) 8 0 (write c) [] refl z.fits (omega (arith, z.stmts)) (omega (arith, z.nodes)))
    (omega (arith, length_write c))
