-- What was read lies within the bytes that were given.
use Rattle.std.specs.Prelude.{Ok}
use mathlib.Core.Path.{◌≡◌, ap}
use mathlib.Core.List.{List}
use Prim.Native.Nat.{ℕ, ◌≤◌}
use native.Mathlib.Omega.{arith}
use lib.ListN.{length, drop, length-drop}
use Rattle.definition.specs.declared.Tally.{Tally}
use Rattle.definition.specs.Bytes.{Bytes}
use Rattle.definition.specs.Tree.{Expr, Stmt, Block}
use Rattle.definition.specs.Reading.{Part, expr, items, stmt}
use Rattle.definition.proofs.Lengths.{length_e, length_s, length_b}
use Rattle.definition.proofs.SoundE.{SoundE, sound_e}
use Rattle.definition.proofs.SoundS.{SoundS, sound_s, list_sound}

-- an expression
pub expr_within : (l : ℕ) (t : Tally) (at : ℕ) (s : List ℕ) (x : Part Expr) → Bytes s → expr l t at s ≡ Ok x → x.size ≤ length s
unfolding SoundE
expr_within l t at s x w q = let g = sound_e l t at s x w q in omega (arith, g.size, ap length g.bytes, length_e x.tree (drop x.size s))

-- a statement
pub stmt_within : (l : ℕ) (t : Tally) (at : ℕ) (s : List ℕ) (x : Part Stmt) → Bytes s → stmt l t at s ≡ Ok x → x.size ≤ length s
unfolding SoundS
stmt_within l t at s x w q = let g = sound_s l t at s x w q in omega (arith, g.size, ap length g.bytes, length_s x.tree (drop x.size s))

-- a list that begins within them
pub items_within : (l many : ℕ) (t : Tally) (off at : ℕ) (s : List ℕ) (b : Part Block) → Bytes s → off ≤ length s → items (stmt l) many t off at s ≡ Ok b → b.size ≤ length s
items_within l many t off at s b w h q =
    let g = list_sound l (sound_s l) many t off at s b w q in
    omega (arith, g.size, ap length g.bytes, length_b b.tree (drop b.size s), length-drop off s, length-drop b.size s)
