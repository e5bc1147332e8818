-- Each call asks nothing of its caller, and no second answer satisfies its contract. The contracts are not repeated: `Pre` and `Post` of a call are its
-- `requires` and `ensures` as they are read from the source, over the lifetimes κs, the arguments a, the result r and what the arguments are at the end, s.
use Rattle.definition.specs.declared.Refusal.{Refusal}
use Rattle.examiner.specs.declared.Examination.{Examination}
use Rattle.std.specs.Prelude.{Result, Err, Ok}
use Prim.Native.Nat.{ℕ}
use mathlib.Core.Path.{◌≡◌, refl, sym, ap, ◌∙◌}
use native.Mathlib.Omega.{arith}
use mathlib.Core.List.{List}
use Rattle.taking.specs.declared.NotTaken.{NotTaken}
use Rattle.taking.specs.Taking.{begun, read_back, TakesUp}
use Rattle.taking.proofs.begin.Reads as begin
use Rattle.taking.proofs.take_up.Reads as take_up

-- `begin`
pub begin_asks_nothing : (κs : _) (a : _) → begin.Pre κs a
begin_asks_nothing κs a = tt

pub begin_one : (κs : _) (a : _) (r₁ r₂ : _) (s₁ s₂ : _) → begin.Post κs a r₁ s₁ → begin.Post κs a r₂ s₂ → r₁ ≡ r₂
begin_one κs a r₁ r₂ s₁ s₂ p q = p ∙ sym q

-- what reading gives is one thing, and the image in the bytes is this one or not
module _ (bytes image : List ℕ) where
  -- it is not both refused and an examination
  refused_or_read : {A : Type 0} (r : Refusal) (e : Examination) → read_back bytes ≡ Err r → read_back bytes ≡ Ok e → A
  refused_or_read r e p q = let z : ◌≡◌ {A = ℕ} 0 1 = cc in absurd (omega arith)

  one : (x y : Result Examination NotTaken) → TakesUp bytes image x → TakesUp bytes image y → x ≡ y
  one (Err (NotTaken.Refused r)) (Err (NotTaken.Refused s)) p q = ap begun (sym p ∙ q)
  one (Err (NotTaken.Refused r)) (Ok e) p q = refused_or_read r e p q.0
  one (Err (NotTaken.Refused r)) (Err NotTaken.OtherImage) p q = refused_or_read r q.0.0 p q.0.1
  one (Ok e) (Err (NotTaken.Refused s)) p q = refused_or_read s e q p.0
  one (Ok e) (Ok f) p q = ap begun (sym p.0 ∙ q.0)
  one (Ok e) (Err NotTaken.OtherImage) p q = absurd (q.1 p.1)
  one (Err NotTaken.OtherImage) (Err (NotTaken.Refused s)) p q = refused_or_read s p.0.0 q p.0.1
  one (Err NotTaken.OtherImage) (Ok f) p q = absurd (p.1 q.1)
  one (Err NotTaken.OtherImage) (Err NotTaken.OtherImage) p q = refl

-- `take_up`
pub take_up_asks_nothing : (κs : _) (a : _) → take_up.Pre κs a
take_up_asks_nothing κs a = tt

pub take_up_one : (κs : _) (a : _) (r₁ r₂ : _) (s₁ s₂ : _) → take_up.Post κs a r₁ s₁ → take_up.Post κs a r₂ s₂ → r₁ ≡ r₂
take_up_one κs a r₁ r₂ s₁ s₂ p q = one _ _ r₁ r₂ p q
