-- What `least` means, and the search of a phase as a derivation: one constructor for each way a search goes, so that a theorem about
-- searches is four clauses.
use Prim.Native.Nat.{ℕ, zero, suc, ◌+◌, ◌≤◌, ◌<◌}
use mathlib.Core.Path.{◌≡◌, refl}
use mathlib.Core.Bool.{Bool, true, false}
use mathlib.Core.List.{List, [], ◌∷◌}
use native.Mathlib.Omega.{arith}
use native.Mathlib.Decide.{ℕ_discrete}
use Rattle.definition.specs.declared.Bounds.{Bounds}
use Rattle.definition.specs.Accepted.{Compiled}
use Rattle.definition.specs.Verdict.{place, outcome, masks, is_over, truth, over_verdict, found_verdict, Found, none, mask, least, Searched, passed, ended, search}
use Rattle.definition.proofs.Run.{least_here, least_on, search_over, search_found, search_none}

-- ---- the least mask

-- x is the least of the k masks from m on that satisfies
pub record Least (f : ℕ → Bool) (m k x : ℕ) : Type 0 where
  pub from : m ≤ x
  pub below : x < m + k
  pub holds : f x ≡ true
  pub first : (j : ℕ) → m ≤ j → j < x → f j ≡ false

-- what was found, as a fact
abbrev Meant : (ℕ → Bool) → ℕ → ℕ → Found → Type 0
Meant f m k (mask x) = Least f m k x
Meant f m k none = (j : ℕ) → m ≤ j → j < m + k → f j ≡ false

module _ (f : ℕ → Bool) where
  widen : (m k : ℕ) (r : Found) → f m ≡ false → Meant f (m + 1) k r → Meant f m (suc k) r
  widen m k (mask x) e g = record { from = omega (arith, g.from); below = omega (arith, g.below); holds = g.holds; first = λ j a l. go j a l (ℕ_discrete j m) }
    where
      go : (j : ℕ) → m ≤ j → j < x → Dec (j ≡ m) → f j ≡ false
      go j a l (yes z) = rw z e
      go j a l (no z) = g.first j (omega arith) l
  widen m k none e g = λ j a l. go j a l (ℕ_discrete j m)
    where
      go : (j : ℕ) → m ≤ j → j < m + suc k → Dec (j ≡ m) → f j ≡ false
      go j a l (yes z) = rw z e
      go j a l (no z) = g j (omega arith) (omega arith)

  -- what `least` finds is so
  meant : (k m : ℕ) → Meant f m k (least f m k)
  unfolding least
  meant zero m = λ j a l. absurd (omega arith)
  meant (suc k) m = go (f m) refl (meant k (m + 1))
    where
      go : (x : Bool) → f m ≡ x → Meant f (m + 1) k (least f (m + 1) k) → Meant f m (suc k) (least f m (suc k))
      go true e g = rw (least_here f m k e) (record { from = omega arith; below = omega arith; holds = e; first = λ j a l. absurd (omega arith) })
      go false e g = rw (least_on f m k e) (widen m k (least f (m + 1) k) e g)

  -- the mask that it finds is the least
  pub least_is : (m k x : ℕ) → least f m k ≡ mask x → Least f m k x
  least_is m k x e = rw e at (meant k m)

  -- if it finds none, none satisfies
  pub none_is : (m k : ℕ) → least f m k ≡ none → (j : ℕ) → m ≤ j → j < m + k → f j ≡ false
  none_is m k e = rw e at (meant k m)

-- ---- a phase's search, step by step

pub data Search (b : Bounds) (q : ℕ) : ℕ → ℕ → List Compiled → Searched → Type 0 where
  out : {i c : ℕ} → Search b q i c [] (passed c)
  over : {i c : ℕ} {h : Compiled} {t : List Compiled} → is_over b q h ≡ true → Search b q i c (h ∷ t) (ended (outcome (over_verdict q i h) (place q i 0 c) c))
  found : {i c m : ℕ} {h : Compiled} {t : List Compiled} → is_over b q h ≡ false → Least (truth q h) 0 (masks q h) m
      → Search b q i c (h ∷ t) (ended (outcome (found_verdict q i h m) (place q i m (c + m)) (c + m + 1)))
  on : {i c : ℕ} {h : Compiled} {t : List Compiled} {r : Searched} → is_over b q h ≡ false → ((j : ℕ) → j < masks q h → truth q h j ≡ false)
      → Search b q (i + 1) (c + masks q h) t r → Search b q i c (h ∷ t) r

-- every search is one
pub searches : (b : Bounds) (q : ℕ) (ps : List Compiled) (i c : ℕ) → Search b q i c ps (search b q i c ps)
unfolding search
searches b q [] i c = out
searches b q (h ∷ t) i c = go (is_over b q h) refl (searches b q t (i + 1) (c + masks q h))
  where
    go : (x : Bool) → is_over b q h ≡ x → Search b q (i + 1) (c + masks q h) t (search b q (i + 1) (c + masks q h) t) → Search b q i c (h ∷ t) (search b q i c (h ∷ t))
    go true u s = rw (search_over b q i c h t u) (over u)
    go false u s = tell (least (truth q h) 0 (masks q h)) refl
      where
        tell : (x : Found) → least (truth q h) 0 (masks q h) ≡ x → Search b q i c (h ∷ t) (search b q i c (h ∷ t))
        tell (mask m) e = rw (search_found b q i c h t m u e) (found u (least_is (truth q h) 0 (masks q h) m e))
        tell none e = rw (search_none b q i c h t u e) (on u (λ j l. none_is (truth q h) 0 (masks q h) e j (omega arith) (omega arith)) s)
