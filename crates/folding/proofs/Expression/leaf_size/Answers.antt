-- `leaf_size`: each tag by what a leaf of it takes (laws in View.antt).
use mathlib.Core.Path.{◌≡◌, ap, ◌∙◌}
use Prim.Native.Nat.{ℕ, ◌+◌}
use native.Mathlib.Omega.{arith}
use borrow.Author.Tests.{ne_eqb}
use borrow.Author.Rules.{rules}
use Rattle.folding.proofs.View.{tag_at, leaf_size, leaf_size_lem, leaf_room, tagged_known}
use Rattle.folding.proofs.Expression.leaf_size.Goals as goal

pub bounds-self-0 : goal.bounds-self-0
bounds-self-0 c = omega (arith, tagged_known _ c.args.self.holds)

pub two-requires : goal.two-requires
unfolding leaf_size
two-requires c = let z = leaf_room _ c.args.self.holds c.requires in omega (arith, rw c.in-19.is at z)

pub returns-in-17 : goal.returns-in-17
unfolding leaf_size
returns-in-17 c e h = let z = leaf_size_lem _ c.requires e h in rw c.in-17.is at z

pub returns-in-18 : goal.returns-in-18
unfolding leaf_size
returns-in-18 c e h = let z = leaf_size_lem _ c.requires e h in rw c.in-18.is at z

pub returns-in-19 : goal.returns-in-19
unfolding leaf_size
returns-in-19 c e h = let z = leaf_size_lem _ c.requires e h in ap (λ (n : ℕ). 19 + n) c.two.ensures.0 ∙ (rw c.in-19.is at z)

pub returns-in_default : goal.returns-in_default
unfolding leaf_size
returns-in_default c e h = let z = leaf_size_lem _ c.requires e h in let s = tag_at c.args.self.bytes.now in let p : s ≡ 17 → ⊥ = search rules in let q : s ≡ 18 → ⊥ = search rules in let r : s ≡ 19 → ⊥ = search rules in rw (ne_eqb _ _ p, ne_eqb _ _ q, ne_eqb _ _ r) at z
