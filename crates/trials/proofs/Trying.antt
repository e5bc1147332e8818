-- Laws of one trial: the choice by a test, and the next place.
use Prim.Native.Nat.{ℕ, zero, suc, ◌+◌, ◌≤◌, ◌<◌}
use mathlib.Core.Path.{◌≡◌, refl}
use mathlib.Core.Bool.{Bool, true, false}
use mathlib.Core.List.{List, [], ◌∷◌}
use native.Mathlib.Omega.{arith}
use lib.ListN.{length}
use borrow.Author.Tests.{lt-ltb, le-ltb}
use Rattle.definition.specs.declared.Place.{Place}
use Rattle.definition.specs.Bytes.{when◌then◌else◌}
use Rattle.definition.specs.Accepted.{Compiled}
use Rattle.definition.specs.Verdict.{place, masks}
use Rattle.definition.specs.Place.{enter, after}

-- the choice by a test that holds, and by one that does not
pub chosen : {A : Type 0} (b : Bool) (x y : A) → b ≡ true → (when b then x else y) ≡ x
unfolding when◌then◌else◌
chosen b x y e = rw e

pub other : {A : Type 0} (b : Bool) (x y : A) → b ≡ false → (when b then x else y) ≡ y
unfolding when◌then◌else◌
other b x y e = rw e

module _ (h : Compiled) (rest : List Compiled) (p : Place) (limit : ℕ) (e : limit ≡ masks p.phase h) where
  -- the path has another mask
  pub after_mask : p.mask + 1 < limit → place p.phase p.path (p.mask + 1) (p.count + 1) ≡ after h rest p
  unfolding after when◌then◌else◌
  after_mask l = rw (← e, lt-ltb (p.mask + 1) limit l)

  -- it has none, and was the last of security
  pub after_last : (n : ℕ) → n ≡ p.path + 1 + length rest → limit ≤ p.mask + 1 → p.phase ≡ 0 → n ≤ p.path + 1 → place 1 0 0 (p.count + 1) ≡ after h rest p
  unfolding after enter when◌then◌else◌
  after_last n f l z k = rw (← e, le-ltb (p.mask + 1) limit l, z) (go rest (omega arith))
    where
      go : (l : List Compiled) → length l ≤ 0 → place 1 0 0 (p.count + 1) ≡ enter 0 (p.path + 1) (p.count + 1) l
      go [] m = refl
      go (x ∷ l) m = absurd (omega arith)

  -- it has none, and another path stands next, or liveness ends
  pub after_path : limit ≤ p.mask + 1 → (p.phase ≡ 0 → 0 < length rest) → place p.phase (p.path + 1) 0 (p.count + 1) ≡ after h rest p
  unfolding after enter when◌then◌else◌
  after_path l k = rw (← e, le-ltb (p.mask + 1) limit l) (go p.phase rest k)
    where
      go : (q : ℕ) (l : List Compiled) → (q ≡ 0 → 0 < length l) → place q (p.path + 1) 0 (p.count + 1) ≡ enter q (p.path + 1) (p.count + 1) l
      go zero [] m = absurd (omega (arith, m refl))
      go zero (x ∷ l) m = refl
      go (suc q) l m = refl
