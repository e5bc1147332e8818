-- What a judgement that refused nothing says of its steps: each gave a thing, and each test let pass. And forth: what comes of a
-- judgement once it is known what its first step does.
use Rattle.std.specs.Prelude.{Ok, Err}
use mathlib.Core.Path.{◌≡◌, refl, subst}
use mathlib.Core.Bool.{Bool, true, false}
use Prim.Native.Nat.{ℕ}
use native.Mathlib.Omega.{arith}
use Rattle.definition.specs.declared.Fault.{Fault}
use Rattle.definition.specs.Fault.{Read, ◌>>=◌, ◌>>◌, refuse}

-- a fault is no thing
pub bad_got : {A B : Type 0} (f : Fault) (x : A) → Err f ≡ Ok x → B
bad_got f x e = let z : ◌≡◌ {A = ℕ} 0 1 = cc in absurd (omega arith)

-- two things that one judgement gives are one
pub same_got : {A : Type 0} (x y : A) → ◌≡◌ {A = Read A} (Ok x) (Ok y) → x ≡ y
same_got x y e = cc

-- and so are two faults
pub same_bad : {A : Type 0} (f g : Fault) → ◌≡◌ {A = Read A} (Err f) (Err g) → f ≡ g
same_bad f g e = cc

-- what is known of the first thing is known of the second
pub carried : {A : Type 0} (P : A → Type 0) (x y : A) → ◌≡◌ {A = Read A} (Ok x) (Ok y) → P x → P y
carried P x y e p = subst P (same_got x y e) p

-- a step that gives a thing, and the rest
pub step_got : {A B : Type 0} (r : Read A) (k : A → Read B) (y : B) → r >>= k ≡ Ok y → (x : A) × (r ≡ Ok x) × (k x ≡ Ok y)
unfolding ◌>>=◌
step_got (Ok x) k y e = (x, refl, e)
step_got (Err f) k y e = bad_got f y e

-- a list of tests, and the rest
pub tests_got : {B : Type 0} (t : Read (Unit {0})) (r : Read B) (y : B) → t >> r ≡ Ok y → (t ≡ Ok tt) × (r ≡ Ok y)
unfolding ◌>>◌
tests_got (Ok x) r y e = (refl, e)
tests_got (Err f) r y e = bad_got f y e

-- one test by itself
pub last_test : (b : Bool) (f : Fault) → refuse b f ≡ Ok tt → b ≡ false
unfolding refuse
last_test true f e = bad_got f tt e
last_test false f e = refl

-- one test, and the rest
pub past : {B : Type 0} (b : Bool) (f : Fault) (r : Read B) (y : B) → refuse b f >> r ≡ Ok y → (b ≡ false) × (r ≡ Ok y)
past b f r y e = let t = tests_got (refuse b f) r y e in (last_test b f t.0, t.1)

-- ---- forth
-- past a step that gives a thing, and at one that refuses
pub on_got : {A B : Type 0} (r : Read A) (k : A → Read B) (x : A) → r ≡ Ok x → r >>= k ≡ k x
unfolding ◌>>=◌
on_got r k x e = rw e

pub on_bad : {A B : Type 0} (r : Read A) (k : A → Read B) (f : Fault) → r ≡ Err f → r >>= k ≡ Err f
unfolding ◌>>=◌
on_bad r k f e = rw e

-- past a list of tests, and at one that refuses
pub tests_on : {B : Type 0} (t : Read (Unit {0})) (r : Read B) → t ≡ Ok tt → t >> r ≡ r
unfolding ◌>>◌
tests_on t r e = rw e

pub tests_bad : {B : Type 0} (t : Read (Unit {0})) (r : Read B) (f : Fault) → t ≡ Err f → t >> r ≡ Err f
unfolding ◌>>◌
tests_bad t r f e = rw e

-- past one test
pub let_pass : {B : Type 0} (b : Bool) (f : Fault) (r : Read B) → b ≡ false → refuse b f >> r ≡ r
unfolding refuse ◌>>◌
let_pass b f r e = rw e
