-- Reading accepts exactly the images of contracts within the sizes, and an image has one contract.
use Rattle.std.specs.Prelude.{Ok}
use mathlib.Core.Path.{◌≡◌, sym, ap, ◌∙◌}
use mathlib.Core.Logic.{◌↔◌}
use mathlib.Core.List.{List}
use Prim.Native.Nat.{ℕ}
use Rattle.definition.specs.Bytes.{Bytes}
use Rattle.definition.specs.Tree.{Contract}
use Rattle.definition.specs.Writing.{write, Sized}
use Rattle.definition.specs.Reading.{read}
use Rattle.definition.proofs.Steps.{same_got}
use Rattle.definition.proofs.Back.{read_write}
use Rattle.definition.proofs.Sound.{read_sound}

-- what is read was so written within the sizes, and what was so written is read
pub exactly : (s : List ℕ) (c : Contract) → Bytes s → (read s ≡ Ok c) ↔ ((s ≡ write c) × Sized c)
exactly s c w = (λ e. let g = read_sound s c w e in (g.bytes, g.sized), λ h. ap read h.0 ∙ read_write c h.1)

-- two contracts within the sizes do not share an image
pub one_contract : (c d : Contract) → Sized c → Sized d → write c ≡ write d → c ≡ d
one_contract c d p q e = same_got c d (sym (read_write c p) ∙ ap read e ∙ read_write d q)
