-- Fitting places: the test as facts, that every step of a run keeps them, that counts stay small, and one law for each way that code
-- tests a place.
use Prim.Native.Nat.{ℕ, zero, suc, ◌+◌, ◌*◌, ◌^◌, ◌≤◌, ◌<◌}
use mathlib.Core.Path.{◌≡◌, refl, sym, ap, ◌∙◌}
use mathlib.Core.Bool.{Bool, true, false, ◌&&◌, and-eq-true_iff}
use mathlib.Core.List.{List, [], ◌∷◌}
use native.Mathlib.Omega.{arith}
use native.Mathlib.Nat.{mul-le-mul_right}
use native.Mathlib.Numerals.{add-one}
use native.Mathlib.Decide.{dec_lt}
use lib.ListN.{length, take, drop, length-drop, length-take, drop_of_length-le}
use lib.Seq.{take_all, drop-length}
use lib.Pow.{pow_pos, pow_mono}
use lib.Dec.{eqb}
use borrow.Author.Tests.{lt-ltb, le-ltb, le-leb, lt-leb, eq-eqb, ne_eqb, ltb-true, ltb-false, leb-true, eqb-true}
use Rattle.definition.specs.declared.Bounds.{Bounds}
use Rattle.definition.specs.declared.Place.{Place}
use Rattle.std.specs.declared.ops.ControlFlow.TheVariants.{Continue}
use Rattle.definition.specs.Bytes.{when◌then◌else◌}
use Rattle.definition.specs.Accepted.{Compiled}
use Rattle.definition.specs.Verdict.{place, atoms, bound, masks, is_over, truth}
use Rattle.definition.specs.Place.{enter, start, after, trial, tries, look, view, under, assignments, spent, room, behind, fits}
use Rattle.definition.proofs.Machine.{if_tries, if_next}

-- ---- the test as facts

-- the paths behind the place, its mask and its count fit, in phase q
pub record Behind (b : Bounds) (q : ℕ) (ps : List Compiled) (p : Place) : Type 0 where
  pub none_over : under b q (take p.path ps) ≡ true
  pub mask : p.mask < room b q (drop p.path ps)
  pub count : p.count ≡ spent b q p.path ps + p.mask

-- the place fits
pub data Fits (b : Bounds) (ps : List Compiled) (p : Place) : Type 0 where
  security : p.phase ≡ 0 → p.path < length ps → Behind b 0 ps p → Fits b ps p
  liveness : p.phase ≡ 1 → p.path ≤ length ps → under b 0 ps ≡ true → Behind b 1 ps p → Fits b ps p

module _ (b : Bounds) (ps : List Compiled) (p : Place) where
  behind_true : (q : ℕ) → Behind b q ps p → behind b q ps p ≡ true
  unfolding behind
  behind_true q h = rw (h.none_over, lt-ltb _ _ h.mask, eq-eqb _ _ h.count)

  true_behind : (q : ℕ) → behind b q ps p ≡ true → Behind b q ps p
  unfolding behind
  true_behind q h =
      let x = (and-eq-true_iff _ _).0 h in
      let y = (and-eq-true_iff _ _).0 x.1 in
      record { none_over = x.0; mask = ltb-true _ _ y.0; count = eqb-true _ _ y.1 }

  -- the facts give the test
  pub fits_true : Fits b ps p → fits b ps p ≡ true
  unfolding fits behind when◌then◌else◌
  fits_true (security e l h) = rw (eq-eqb _ _ e, lt-ltb _ _ l) (behind_true 0 h)
  fits_true (liveness e l u h) = rw (e, le-leb _ _ l, u) (behind_true 1 h)

  -- and the test the facts
  pub true_fits : fits b ps p ≡ true → Fits b ps p
  unfolding fits when◌then◌else◌
  true_fits h = go (eqb p.phase 0) refl
    where
      go : (x : Bool) → eqb p.phase 0 ≡ x → Fits b ps p
      go true e = let x = (and-eq-true_iff _ _).0 (rw e at h) in security (eqb-true _ _ e) (ltb-true _ _ x.0) (true_behind 0 x.1)
      go false e =
          let x = (and-eq-true_iff _ _).0 (rw e at h) in
          let y = (and-eq-true_iff _ _).0 x.1 in
          let z = (and-eq-true_iff _ _).0 y.1 in
          liveness (eqb-true _ _ x.0) (leb-true _ _ y.0) z.0 (true_behind 1 z.1)

-- ---- one path more

-- no path over its bound, with one more that is not
under_step : (b : Bounds) (q : ℕ) (ps : List Compiled) (i : ℕ) (h : Compiled) (t : List Compiled) → drop i ps ≡ h ∷ t → is_over b q h ≡ false → under b q (take i ps) ≡ true → under b q (take (suc i) ps) ≡ true
unfolding under when◌then◌else◌
under_step b q [] i h t e u w = refl
under_step b q (p ∷ ps) zero h t e u w = let z : p ≡ h = cc in rw (z, u)
under_step b q (p ∷ ps) (suc i) h t e u w = go (is_over b q p) w (under_step b q ps i h t e u)
  where
    go : (x : Bool) → (when x then false else under b q (take i ps)) ≡ true → (under b q (take i ps) ≡ true → under b q (take (suc i) ps) ≡ true) → (when x then false else under b q (take (suc i) ps)) ≡ true
    go true w f = w
    go false w f = f w

-- its assignments are added
pub assignments_step : (b : Bounds) (q : ℕ) (ps : List Compiled) (i : ℕ) (h : Compiled) (t : List Compiled) → drop i ps ≡ h ∷ t → is_over b q h ≡ false → under b q (take i ps) ≡ true
    → assignments b q (take (suc i) ps) ≡ assignments b q (take i ps) + masks q h
unfolding assignments under when◌then◌else◌
assignments_step b q [] zero h t e u w = cc
assignments_step b q [] (suc i) h t e u w = cc
assignments_step b q (p ∷ ps) zero h t e u w = let z : p ≡ h = cc in rw (z, u) (omega arith)
assignments_step b q (p ∷ ps) (suc i) h t e u w = go (is_over b q p) w (assignments_step b q ps i h t e u)
  where
    go : (x : Bool) → (when x then false else under b q (take i ps)) ≡ true → (under b q (take i ps) ≡ true → assignments b q (take (suc i) ps) ≡ assignments b q (take i ps) + masks q h)
        → (when x then 0 else masks q p + assignments b q (take (suc i) ps)) ≡ (when x then 0 else masks q p + assignments b q (take i ps)) + masks q h
    go true w f = cc
    go false w f = omega (arith, f w)

spent_step : (b : Bounds) (q : ℕ) (ps : List Compiled) (i : ℕ) (h : Compiled) (t : List Compiled) → q ≤ 1 → drop i ps ≡ h ∷ t → is_over b q h ≡ false → under b q (take i ps) ≡ true
    → spent b q (suc i) ps ≡ spent b q i ps + masks q h
unfolding spent
spent_step b zero ps i h t k d u w = assignments_step b 0 ps i h t d u w
spent_step b (suc zero) ps i h t k d u w = omega (arith, assignments_step b 1 ps i h t d u w)
spent_step b (suc (suc q)) ps i h t k d u w = absurd (omega arith)

room_pos : (b : Bounds) (q : ℕ) (l : List Compiled) → 0 < room b q l
unfolding room when◌then◌else◌
room_pos b q [] = omega arith
room_pos b q (p ∷ ps) = go (is_over b q p)
  where
    go : (x : Bool) → 0 < (when x then 1 else masks q p)
    go true = omega arith
    go false = pow_pos (atoms q p)

module _ (b : Bounds) (ps : List Compiled) (p : Place) (h : Compiled) (t : List Compiled) (d : drop p.path ps ≡ h ∷ t) where
  -- the mask of a place on a path that is not over its bound
  mask_lt : (q : ℕ) → is_over b q h ≡ false → Behind b q ps p → p.mask < masks q h
  unfolding room when◌then◌else◌
  mask_lt q u f = rw (d, u) at f.mask

  behind_on : (q : ℕ) → is_over b q h ≡ false → Behind b q ps p → p.mask + 1 < masks q h → Behind b q ps (place p.phase p.path (p.mask + 1) (p.count + 1))
  unfolding room when◌then◌else◌
  behind_on q u f l = record { none_over = f.none_over; mask = rw (d, u) l; count = omega (arith, f.count) }

  behind_next : (q x : ℕ) → q ≤ 1 → is_over b q h ≡ false → Behind b q ps p → masks q h ≤ p.mask + 1 → Behind b q ps (place x (p.path + 1) 0 (p.count + 1))
  behind_next q x k u f l = record {
    none_over = rw (add-one p.path) (under_step b q ps p.path h t d u f.none_over);
    mask = room_pos b q (drop (p.path + 1) ps);
    count = rw (add-one p.path) (omega (arith, f.count, mask_lt q u f, spent_step b q ps p.path h t k d u f.none_over));
  }

  length_at : length ps ≡ p.path + suc (length t)
  length_at = omega (arith, length-drop p.path ps, ap length d)

  fits_on : Fits b ps p → is_over b p.phase h ≡ false → p.mask + 1 < masks p.phase h → Fits b ps (place p.phase p.path (p.mask + 1) (p.count + 1))
  fits_on (security e l f) u m = security e l (behind_on 0 (rw e at u) f (rw e at m))
  fits_on (liveness e l w f) u m = liveness e l w (behind_on 1 (rw e at u) f (rw e at m))

  fits_enter : Fits b ps p → is_over b p.phase h ≡ false → masks p.phase h ≤ p.mask + 1 → Fits b ps (enter p.phase (p.path + 1) (p.count + 1) t)
  unfolding enter assignments spent under
  fits_enter (security e l f) u m = rw e (go t length_at (behind_next 0 0 (omega arith) (rw e at u) f (rw e at m)))
    where
      go : (t : List Compiled) → length ps ≡ p.path + suc (length t) → Behind b 0 ps (place 0 (p.path + 1) 0 (p.count + 1)) → Fits b ps (enter 0 (p.path + 1) (p.count + 1) t)
      go [] n g =
          let z : take (p.path + 1) ps ≡ ps = take_all (p.path + 1) ps (omega arith) in
          liveness refl (omega arith) (rw z at g.none_over) (record { none_over = refl; mask = room_pos b 1 ps; count = omega (arith, rw z at g.count) })
      go (x ∷ xs) n g = security refl (omega arith) g
  fits_enter (liveness e l w f) u m = rw e (liveness refl (omega (arith, length_at)) w (behind_next 1 1 (omega arith) (rw e at u) f (rw e at m)))

module _ (b : Bounds) (ps : List Compiled) where
  -- where a fitting place leads, whatever the assignment says, fits
  pub fits_after : (p : Place) (h : Compiled) (t : List Compiled) → drop p.path ps ≡ h ∷ t → is_over b p.phase h ≡ false → Fits b ps p → Fits b ps (after h t p)
  unfolding after when◌then◌else◌
  fits_after p h t d u f = go (dec_lt (p.mask + 1) (masks p.phase h))
    where
      go : Dec (p.mask + 1 < masks p.phase h) → Fits b ps (after h t p)
      go (yes l) = rw (lt-ltb _ _ l) (fits_on b ps p h t d f u l)
      go (no l) = rw (le-ltb (p.mask + 1) (masks p.phase h) (omega arith)) (fits_enter b ps p h t d f u (omega arith))

  -- the place after a trial at a fitting place fits
  pub fits_next : (p q : Place) → Fits b ps p → view b ps p ≡ tries (Continue q) → Fits b ps q
  unfolding look trial
  fits_next p q f e = go (drop p.path ps) refl e
    where
      go : (l : List Compiled) → drop p.path ps ≡ l → look b ps p l ≡ tries (Continue q) → Fits b ps q
      go [] d e = let z : ◌≡◌ {A = ℕ} 0 1 = cc in absurd (omega arith)
      go (h ∷ t) d e =
          let x = if_tries (is_over b p.phase h) _ (trial h t p) (Continue q) e in
          let y = if_next (truth p.phase h p.mask) _ (after h t p) q x.1 in
          rw y.1 at (fits_after p h t d x.0 f)

  -- the start fits
  pub fits_start : Fits b ps (start ps)
  unfolding start enter under assignments spent
  fits_start = go ps
    where
      go : (ps : List Compiled) → Fits b ps (start ps)
      go [] = liveness refl (omega arith) refl (record { none_over = refl; mask = room_pos b 1 []; count = refl })
      go (p ∷ l) = security refl (omega arith) (record { none_over = refl; mask = room_pos b 0 (p ∷ l); count = refl })

-- ---- a fitting place's count

-- the assignments of paths are at most as many as the bound allows each
pub assignments_le : (b : Bounds) (q : ℕ) (l : List Compiled) → assignments b q l ≤ length l * 2 ^ bound b q
unfolding assignments when◌then◌else◌
assignments_le b q [] = omega arith
assignments_le b q (p ∷ l) = go (is_over b q p) refl (assignments_le b q l)
  where
    go : (x : Bool) → is_over b q p ≡ x → assignments b q l ≤ length l * 2 ^ bound b q → (when x then 0 else masks q p + assignments b q l) ≤ suc (length l) * 2 ^ bound b q
    go true e f = omega arith
    go false e f = omega (arith, f, pow_mono (ltb-false (bound b q) (atoms q p) e))

-- and so are those of the first i
pub weigh_le : (b : Bounds) (q : ℕ) (ps : List Compiled) (i : ℕ) → assignments b q (take i ps) ≤ i * 2 ^ bound b q
weigh_le b q ps i = omega (arith, assignments_le b q (take i ps), mul-le-mul_right (2 ^ bound b q) few)
  where
    few : length (take i ps) ≤ i
    few = omega (arith, length-take i ps)

room_le : (b : Bounds) (q : ℕ) (l : List Compiled) → room b q l ≤ 2 ^ bound b q
unfolding room when◌then◌else◌
room_le b q [] = pow_pos (bound b q)
room_le b q (p ∷ l) = go (is_over b q p) refl
  where
    go : (x : Bool) → is_over b q p ≡ x → (when x then 1 else masks q p) ≤ 2 ^ bound b q
    go true e = pow_pos (bound b q)
    go false e = pow_mono (ltb-false (bound b q) (atoms q p) e)

behind_le : (b : Bounds) (q : ℕ) (ps : List Compiled) (p : Place) (c : ℕ) → spent b q p.path ps ≡ c + assignments b q (take p.path ps) → Behind b q ps p → p.path ≤ length ps → p.count ≤ c + length ps * 2 ^ bound b q
unfolding room
behind_le b q ps p c e f l = go (dec_lt p.path (length ps))
  where
    go : Dec (p.path < length ps) → p.count ≤ c + length ps * 2 ^ bound b q
    go (yes h) = omega (arith, f.count, weigh_le b q ps p.path, f.mask, room_le b q (drop p.path ps), mul-le-mul_right (2 ^ bound b q) h)
    go (no h) = let z : p.path ≡ length ps = omega arith in omega (arith, f.count, weigh_le b q ps p.path, rw (z, drop-length ps) at f.mask, mul-le-mul_right (2 ^ bound b q) l)

-- a fitting place's count is at most the assignments that the bounds allow
pub fits_count : (b : Bounds) (ps : List Compiled) (p : Place) → Fits b ps p → p.count ≤ length ps * (2 ^ b.free + 2 ^ b.all)
unfolding bound spent
fits_count b ps p (security e l f) = omega (arith, behind_le b 0 ps p 0 (omega arith) f (omega arith))
fits_count b ps p (liveness e l u f) = omega (arith, behind_le b 1 ps p (assignments b 0 ps) refl f l, assignments_le b 0 ps)

-- its phase, path and mask are small too
pub fits_phase : (b : Bounds) (ps : List Compiled) (p : Place) → Fits b ps p → p.phase ≤ 1
fits_phase b ps p (security e l f) = omega arith
fits_phase b ps p (liveness e l u f) = omega arith

pub fits_path : (b : Bounds) (ps : List Compiled) (p : Place) → Fits b ps p → p.path ≤ length ps
fits_path b ps p (security e l f) = omega arith
fits_path b ps p (liveness e l u f) = l

pub fits_mask : (b : Bounds) (ps : List Compiled) (p : Place) → Fits b ps p → p.mask < 2 ^ b.free + 2 ^ b.all
unfolding bound
fits_mask b ps p (security e l f) = omega (arith, f.mask, room_le b 0 (drop p.path ps))
fits_mask b ps p (liveness e l u f) = omega (arith, f.mask, room_le b 1 (drop p.path ps))

-- ---- for code that stands at a place or tests one

-- the mask of a fitting place on a path that is not over its bound
pub mask_lt_fits : (b : Bounds) (ps : List Compiled) (p : Place) (h : Compiled) (t : List Compiled) → drop p.path ps ≡ h ∷ t → Fits b ps p → is_over b p.phase h ≡ false → p.mask < masks p.phase h
mask_lt_fits b ps p h t d (security e l f) u = rw e (mask_lt b ps p h t d 0 (rw e at u) f)
mask_lt_fits b ps p h t d (liveness e l w f) u = rw e (mask_lt b ps p h t d 1 (rw e at u) f)

-- a loop over the paths' numbers, and the room at one
module _ (b : Bounds) (q : ℕ) where
  -- before the first path
  pub weigh_0 : (ps : List Compiled) → (under b q (take 0 ps) ≡ true) × (assignments b q (take 0 ps) ≡ 0)
  unfolding under assignments
  weigh_0 ps = (refl, refl)

  -- past a path that is not over its bound
  pub weigh_on : (ps : List Compiled) (i : ℕ) (h : Compiled) (t : List Compiled) → drop i ps ≡ h ∷ t → is_over b q h ≡ false → under b q (take i ps) ≡ true
      → (under b q (take (i + 1) ps) ≡ true) × (assignments b q (take (i + 1) ps) ≡ assignments b q (take i ps) + masks q h)
  weigh_on ps i h t d u w = rw (add-one i) (under_step b q ps i h t d u w, assignments_step b q ps i h t d u w)

  -- at one that is over it
  pub weigh_over : (ps : List Compiled) (i k : ℕ) (h : Compiled) (t : List Compiled) → drop i ps ≡ h ∷ t → is_over b q h ≡ true → i < k → under b q (take k ps) ≡ false
  unfolding under when◌then◌else◌
  weigh_over [] zero k h t d u l = cc
  weigh_over [] (suc i) k h t d u l = cc
  weigh_over (p ∷ ps) zero zero h t d u l = absurd (omega arith)
  weigh_over (p ∷ ps) zero (suc k) h t d u l = let z : p ≡ h = cc in rw (z, u)
  weigh_over (p ∷ ps) (suc i) zero h t d u l = absurd (omega arith)
  weigh_over (p ∷ ps) (suc i) (suc k) h t d u l = go (is_over b q p) (weigh_over ps i k h t d u (omega arith))
    where
      go : (x : Bool) → under b q (take k ps) ≡ false → (when x then false else under b q (take k ps)) ≡ false
      go true e = refl
      go false e = e

  -- one mask after the last path
  pub room_out : (ps : List Compiled) (i : ℕ) → length ps ≤ i → room b q (drop i ps) ≡ 1
  unfolding room
  room_out ps i l = rw (drop_of_length-le ps l)

  -- one at a path over its bound
  pub room_over : (ps : List Compiled) (i : ℕ) (h : Compiled) (t : List Compiled) → drop i ps ≡ h ∷ t → is_over b q h ≡ true → room b q (drop i ps) ≡ 1
  unfolding room when◌then◌else◌
  room_over ps i h t d u = rw (d, u)

  -- every mask of a path that is not
  pub room_in : (ps : List Compiled) (i : ℕ) (h : Compiled) (t : List Compiled) → drop i ps ≡ h ∷ t → is_over b q h ≡ false → room b q (drop i ps) ≡ masks q h
  unfolding room when◌then◌else◌
  room_in ps i h t d u = rw (d, u)

-- what stands before path i of security
pub spent_0 : (b : Bounds) (ps : List Compiled) (i : ℕ) → spent b 0 i ps ≡ assignments b 0 (take i ps)
unfolding spent
spent_0 b ps i = refl

-- and of liveness, n being the number of paths
pub spent_1 : (b : Bounds) (ps : List Compiled) (n i : ℕ) → n ≡ length ps → spent b 1 i ps ≡ assignments b 0 (take n ps) + assignments b 1 (take i ps)
unfolding spent
spent_1 b ps n i e = rw (take_all n ps (omega arith))

-- one law for each return of the tests
module _ (b : Bounds) (q : ℕ) (ps : List Compiled) (p : Place) (x : Bool) (u : x ≡ under b q (take p.path ps)) where
  -- the count decides, r being the room and s what stands before the path
  pub behind_test : (r s : ℕ) → x ≡ true → r ≡ room b q (drop p.path ps) → p.mask < r → s ≡ spent b q p.path ps → eqb p.count (s + p.mask) ≡ behind b q ps p
  unfolding behind
  behind_test r s t e l f = rw (← u, t, ← e, lt-ltb p.mask r l, ← f)

  -- the mask has no room
  pub behind_mask : (r : ℕ) → x ≡ true → r ≡ room b q (drop p.path ps) → r ≤ p.mask → false ≡ behind b q ps p
  unfolding behind
  behind_mask r t e l = rw (← u, t, ← e, le-ltb p.mask r l)

  -- a path behind is over its bound
  pub behind_over : x ≡ false → false ≡ behind b q ps p
  unfolding behind
  behind_over t = rw (← u, t)

module _ (b : Bounds) (ps : List Compiled) (p : Place) (n : ℕ) (e : n ≡ length ps) where
  -- the path is past the last
  pub fits_past : n < p.path → false ≡ fits b ps p
  unfolding fits when◌then◌else◌
  fits_past l = rw (← e, le-ltb p.path n (omega arith), lt-leb p.path n l) (go (eqb p.phase 0) (eqb p.phase 1))
    where
      go : (x y : Bool) → false ≡ (when x then false else (y && false))
      go true y = refl
      go false true = refl
      go false false = refl

  -- security has no place past the last path
  pub fits_0_out : p.phase ≡ 0 → n ≤ p.path → false ≡ fits b ps p
  unfolding fits when◌then◌else◌
  fits_0_out z l = rw (eq-eqb p.phase 0 z, ← e, le-ltb p.path n l)

  -- security
  pub fits_0 : (r : Bool) → p.phase ≡ 0 → p.path < n → r ≡ behind b 0 ps p → r ≡ fits b ps p
  unfolding fits when◌then◌else◌
  fits_0 r z l f = rw (eq-eqb p.phase 0 z, ← e, lt-ltb p.path n l) f

  -- liveness, no path being over its bound in security
  pub fits_1 : (x r : Bool) → p.phase ≡ 1 → p.path ≤ n → x ≡ under b 0 (take n ps) → x ≡ true → r ≡ behind b 1 ps p → r ≡ fits b ps p
  unfolding fits when◌then◌else◌
  fits_1 x r z l u t f =
      let k : take n ps ≡ ps = take_all n ps (omega arith) in
      let w : under b 0 ps ≡ true = rw k at (sym u ∙ t) in
      rw (ne_eqb p.phase 0 (omega arith), eq-eqb p.phase 1 z, ← e, le-leb p.path n l, w) f

  -- liveness, some path being over it
  pub fits_1_over : (x : Bool) → p.phase ≡ 1 → p.path ≤ n → x ≡ under b 0 (take n ps) → x ≡ false → false ≡ fits b ps p
  unfolding fits when◌then◌else◌
  fits_1_over x z l u t =
      let k : take n ps ≡ ps = take_all n ps (omega arith) in
      let w : under b 0 ps ≡ false = rw k at (sym u ∙ t) in
      rw (ne_eqb p.phase 0 (omega arith), eq-eqb p.phase 1 z, ← e, le-leb p.path n l, w)

  -- there is no other phase
  pub fits_no_phase : (p.phase ≡ 0 → ⊥) → (p.phase ≡ 1 → ⊥) → false ≡ fits b ps p
  unfolding fits when◌then◌else◌
  fits_no_phase z y = rw (ne_eqb p.phase 0 z, ne_eqb p.phase 1 y)
