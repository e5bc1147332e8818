-- The fields of a place fit exactly when a run that met no satisfying assignment could stand there.
use Prim.Native.Nat.{ℕ, zero, suc, ◌+◌, ◌-◌, ◌≤◌, ◌<◌}
use mathlib.Core.Path.{◌≡◌, refl, sym, ap, ◌∙◌, subst}
use mathlib.Core.Bool.{Bool, true, false}
use mathlib.Core.List.{List, [], ◌∷◌}
use native.Mathlib.Omega.{arith}
use native.Mathlib.Nat.{zero-add}
use native.Mathlib.Numerals.{add-one}
use lib.ListN.{length, take, drop, length-drop}
use lib.Seq.{drop-drop, drop-length, take-length}
use lib.Pow.{pow_pos}
use borrow.Author.Tests.{lt-ltb, le-ltb}
use Rattle.definition.specs.declared.Bounds.{Bounds}
use Rattle.definition.specs.declared.Place.{Place}
use Rattle.definition.specs.Bytes.{when◌then◌else◌}
use Rattle.definition.specs.Accepted.{Compiled}
use Rattle.definition.specs.Verdict.{place, atoms, masks, is_over}
use Rattle.definition.specs.Place.{enter, start, after, under, assignments, spent, room, fits}
use Rattle.definition.proofs.Run.{enter_cons}
use Rattle.definition.proofs.Fitting.{Fits, security, liveness, fits_true, true_fits, fits_start, fits_after, assignments_step}

-- where a run could stand: the start, and one assignment more on a path that is not over its bound, whatever its truth
pub data Stands (b : Bounds) (ps : List Compiled) : Place → Type 0 where
  begins : Stands b ps (start ps)
  moves : {p : Place} {h : Compiled} {t : List Compiled} → Stands b ps p → drop p.path ps ≡ h ∷ t → is_over b p.phase h ≡ false → Stands b ps (after h t p)

-- a path that is not over its bound, taken away
under_parts : (b : Bounds) (q : ℕ) (ps : List Compiled) (i : ℕ) (h : Compiled) (t : List Compiled) → drop i ps ≡ h ∷ t → under b q (take (suc i) ps) ≡ true → (under b q (take i ps) ≡ true) × (is_over b q h ≡ false)
unfolding under when◌then◌else◌
under_parts b q [] zero h t e u = (cc, cc)
under_parts b q [] (suc i) h t e u = (cc, cc)
under_parts b q (p ∷ ps) zero h t e u = let z : p ≡ h = cc in (refl, rw z at (go (is_over b q p) u))
  where
    go : (x : Bool) → (when x then false else true) ≡ true → x ≡ false
    go true u = sym u
    go false u = refl
under_parts b q (p ∷ ps) (suc i) h t e u = go (is_over b q p) u (under_parts b q ps i h t e)
  where
    go : (x : Bool) → (when x then false else under b q (take (suc i) ps)) ≡ true → (under b q (take (suc i) ps) ≡ true → (under b q (take i ps) ≡ true) × (is_over b q h ≡ false)) → ((when x then false else under b q (take i ps)) ≡ true) × (is_over b q h ≡ false)
    go true u f = (u, cc)
    go false u f = f u

module _ (b : Bounds) (ps : List Compiled) where
  -- where a run could stand, the fields fit
  pub stands_fits : {p : Place} → Stands b ps p → Fits b ps p
  stands_fits begins = fits_start b ps
  stands_fits (moves {p = p} {h = h} {t = t} s d u) = fits_after b ps p h t d u (stands_fits s)

  module _ (q i c : ℕ) (h : Compiled) (t : List Compiled) (d : drop i ps ≡ h ∷ t) (u : is_over b q h ≡ false) (s : Stands b ps (place q i 0 c)) where
    -- on to mask m of its path
    climb : (m : ℕ) → m < masks q h → Stands b ps (place q i m (c + m))
    unfolding after when◌then◌else◌
    climb zero l = let z : c ≡ c + 0 = omega arith in subst (λ (x : ℕ). Stands b ps (place q i 0 x)) z s
    climb (suc m) l =
        let x : m + 1 ≡ suc m = omega arith in
        let y : c + m + 1 ≡ c + suc m = omega arith in
        let k : m + 1 < masks q h = omega arith in
        rw (lt-ltb _ _ k, x, y) at (moves (climb m (omega arith)) d u)

    -- past its path
    exhaust : Stands b ps (enter q (i + 1) (c + masks q h) t)
    unfolding after when◌then◌else◌
    exhaust =
        let w = pow_pos (atoms q h) in
        let y : c + (masks q h - 1) + 1 ≡ c + masks q h = omega arith in
        let k : masks q h ≤ masks q h - 1 + 1 = omega arith in
        rw (le-ltb (masks q h - 1 + 1) (masks q h) k, y) at (moves (climb (masks q h - 1) (omega arith)) d u)

  -- past the first i paths of a phase
  pass : (q c i : ℕ) → Stands b ps (enter q 0 c ps) → i ≤ length ps → under b q (take i ps) ≡ true → Stands b ps (enter q i (c + assignments b q (take i ps)) (drop i ps))
  unfolding assignments
  pass q c zero s l w = let z : c ≡ c + 0 = omega arith in subst (λ (x : ℕ). Stands b ps (enter q 0 x ps)) z s
  pass q c (suc i) s l w = go (drop i ps) refl (pass q c i s (omega arith))
    where
      go : (l : List Compiled) → drop i ps ≡ l → (under b q (take i ps) ≡ true → Stands b ps (enter q i (c + assignments b q (take i ps)) (drop i ps))) → Stands b ps (enter q (suc i) (c + assignments b q (take (suc i) ps)) (drop (suc i) ps))
      go [] d f = absurd (omega (arith, length-drop i ps, ap length d))
      go (h ∷ t) d f =
          let v = under_parts b q ps i h t d w in
          let x : drop (suc i) ps ≡ t = ap (λ (n : ℕ). drop n ps) (sym (add-one i)) ∙ sym (drop-drop 1 i ps) ∙ ap (λ (l : List Compiled). drop 1 l) d in
          let y : c + assignments b q (take i ps) + masks q h ≡ c + assignments b q (take (suc i) ps) = omega (arith, assignments_step b q ps i h t d v.1 v.0) in
          rw x (rw (y, add-one i) at (exhaust q i (c + assignments b q (take i ps)) h t d v.1 (rw (d, enter_cons q i (c + assignments b q (take i ps)) h t) at (f v.0))))

  -- a mask within the room of its path
  reach : (q i c m : ℕ) (l : List Compiled) → drop i ps ≡ l → Stands b ps (place q i 0 c) → m < room b q l → Stands b ps (place q i m (c + m))
  unfolding room when◌then◌else◌
  reach q i c m [] d s r = let x : 0 ≡ m = omega arith in let y : c ≡ c + m = omega arith in rw (x, y) at s
  reach q i c m (h ∷ t) d s r = go (is_over b q h) refl r
    where
      go : (x : Bool) → is_over b q h ≡ x → m < (when x then 1 else masks q h) → Stands b ps (place q i m (c + m))
      go true u r = let x : 0 ≡ m = omega arith in let y : c ≡ c + m = omega arith in rw (x, y) at s
      go false u r = climb q i c h t d u s m r

  -- and where they fit, one could stand
  pub fits_stands : (p : Place) → Fits b ps p → Stands b ps p
  unfolding enter start spent
  fits_stands p (security e l f) =
      subst (Stands b ps) (λ i. record { phase = sym e i; path = p.path; mask = p.mask; count = sym f.count i })
      (reach 0 p.path (assignments b 0 (take p.path ps)) p.mask (drop p.path ps) refl (at_0 (drop p.path ps) (omega (arith, length-drop p.path ps)) (rw zero-add at (pass 0 0 p.path begins (omega arith) f.none_over))) f.mask)
    where
      at_0 : (l : List Compiled) → 0 < length l → Stands b ps (enter 0 p.path (assignments b 0 (take p.path ps)) l) → Stands b ps (place 0 p.path 0 (assignments b 0 (take p.path ps)))
      at_0 [] n s = absurd (omega arith)
      at_0 (h ∷ t) n s = s
  fits_stands p (liveness e l w f) =
      subst (Stands b ps) (λ i. record { phase = sym e i; path = p.path; mask = p.mask; count = sym f.count i })
      (reach 1 p.path (assignments b 0 ps + assignments b 1 (take p.path ps)) p.mask (drop p.path ps) refl (pass 1 (assignments b 0 ps) p.path crossed l f.none_over) f.mask)
    where
      crossed : Stands b ps (place 1 0 0 (assignments b 0 ps))
      crossed = rw (take-length ps, drop-length ps, zero-add) at (pass 0 0 (length ps) begins (omega arith) (rw (take-length ps) w))

  -- the fields fit exactly there: both ways
  pub fits_iff : (p : Place) → (fits b ps p ≡ true → Stands b ps p) × (Stands b ps p → fits b ps p ≡ true)
  fits_iff p = (λ e. fits_stands p (true_fits b ps p e), λ s. fits_true b ps p (stands_fits s))
