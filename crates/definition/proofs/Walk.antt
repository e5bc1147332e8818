-- The start leads to the outcome of the unstopped run: the one bridge from trials and places to the searches.
use Prim.Native.Nat.{ℕ, zero, suc, ◌+◌, ◌-◌, ◌<◌}
use mathlib.Core.Path.{◌≡◌, refl, sym, ap, ◌∙◌}
use mathlib.Core.Bool.{true, false}
use mathlib.Core.List.{List, [], ◌∷◌}
use native.Mathlib.Omega.{arith}
use lib.ListN.{length, drop}
use lib.Seq.{drop-length, drop-drop}
use lib.Pow.{pow_pos}
use Rattle.definition.specs.declared.Bounds.{Bounds}
use Rattle.definition.specs.declared.Place.{Place}
use Rattle.definition.specs.declared.Outcome.{Outcome}
use Rattle.definition.specs.Accepted.{Compiled}
use Rattle.definition.specs.Verdict.{place, outcome, atoms, masks, is_over, truth, found_verdict, Searched, passed, ended, search, after_liveness, after_security, unstopped}
use Rattle.definition.specs.Place.{enter, start, tries}
use Rattle.definition.proofs.Run.{trial_ended, trial_on, trial_last, enter_cons, view_last, view_over, view_tries}
use Rattle.definition.proofs.Machine.{Leads, stops, ends, goes}
use Rattle.definition.proofs.Graph.{Search, out, over, found, on, searches}

module _ (b : Bounds) (all : List Compiled) where
  module _ (q i : ℕ) (h : Compiled) (t : List Compiled) (d : drop i all ≡ h ∷ t) (u : is_over b q h ≡ false) where
    -- by k masks from m on that do not satisfy
    back : (k m c : ℕ) → ((j : ℕ) → j < m + k → truth q h j ≡ false) → m + k < masks q h → (o : Outcome) → Leads b all o (place q i (m + k) (c + k)) → Leads b all o (place q i m c)
    back zero m c f n o l = let x : m + 0 ≡ m = omega arith in let y : c + 0 ≡ c = omega arith in rw (x, y) at l
    back (suc k) m c f n o l =
        let x : m + suc k ≡ m + 1 + k = omega arith in
        let y : c + suc k ≡ c + 1 + k = omega arith in
        goes (view_tries b all (place q i m c) h t d u ∙ ap tries (trial_on h t (place q i m c) (f m (omega arith)) (omega arith)))
        (back k (m + 1) (c + 1) (λ j s. f j (omega arith)) (omega arith) o (rw (x, y) at l))

    -- to the least mask that satisfies, from mask 0
    at_found : (m c : ℕ) → ((j : ℕ) → j < m → truth q h j ≡ false) → truth q h m ≡ true → m < masks q h
        → Leads b all (outcome (found_verdict q i h m) (place q i m (c + m)) (c + m + 1)) (place q i 0 c)
    at_found m c f e l =
        let z : 0 + m ≡ m = omega arith in
        back m 0 c (λ j s. f j (omega arith)) (omega arith) (outcome (found_verdict q i h m) (place q i m (c + m)) (c + m + 1))
        (rw z (ends (view_tries b all (place q i m (c + m)) h t d u ∙ ap tries (trial_ended h t (place q i m (c + m)) e))))

    -- to the next path, from mask 0, where no mask satisfies
    at_none : (c : ℕ) → ((j : ℕ) → j < masks q h → truth q h j ≡ false) → (o : Outcome) → Leads b all o (enter q (i + 1) (c + masks q h) t) → Leads b all o (place q i 0 c)
    at_none c f o l =
        let k = masks q h - 1 in
        let s = pow_pos (atoms q h) in
        let y : c + masks q h ≡ c + k + 1 = omega arith in
        let z : 0 + k ≡ k = omega arith in
        back k 0 c (λ j s. f j (omega arith)) (omega arith) o
        (rw z (goes (view_tries b all (place q i k (c + k)) h t d u ∙ ap tries (trial_last h t (place q i k (c + k)) (f k (omega arith)) (omega arith))) (rw y at l)))

  -- what the search of a phase says of the place where it begins
  Comes : ℕ → Searched → Place → Type 0
  Comes q (ended o) p = Leads b all o p
  Comes q (passed c) p = (o : Outcome) → Leads b all o (enter q (length all) c []) → Leads b all o p

  comes_back : (q : ℕ) (x : Searched) (p r : Place) → ((o : Outcome) → Leads b all o r → Leads b all o p) → Comes q x r → Comes q x p
  unfolding Comes
  comes_back q (ended o) p r f w = f o w
  comes_back q (passed c) p r f w = λ o l. f o (w o l)

  -- the search of a phase that begins at path i
  phase : (q : ℕ) {i c : ℕ} {ps : List Compiled} {r : Searched} → Search b q i c ps r → drop i all ≡ ps → i + length ps ≡ length all → Comes q r (enter q i c ps)
  unfolding Comes
  phase q (out {i = i}) d n = λ o l. let z : length all ≡ i = omega arith in rw z at l
  phase q (over {i = i} {c = c} {h = h} {t = t} u) d n = rw (enter_cons q i c h t) (stops (view_over b all (place q i 0 c) h t d u))
  phase q (found {i = i} {c = c} {m = m} {h = h} {t = t} u l) d n =
      rw (enter_cons q i c h t) (at_found q i h t d u m c (λ j s. l.first j (omega arith) s) l.holds (omega (arith, l.below)))
  phase q (on {i = i} {c = c} {h = h} {t = t} {r = r} u f s) d n =
      rw (enter_cons q i c h t) (comes_back q r (place q i 0 c) (enter q (i + 1) (c + masks q h) t) (at_none q i h t d u c f)
      (phase q s (sym (drop-drop 1 i all) ∙ ap (λ (l : List Compiled). drop 1 l) d) (omega arith)))

-- the start leads to the outcome of the unstopped run
pub leads : (b : Bounds) (ps : List Compiled) → Leads b ps (unstopped b ps) (start ps)
unfolding unstopped after_security start Comes enter after_liveness
leads b ps = go (search b 0 0 0 ps) (phase b ps 0 (searches b 0 ps 0 0) refl (omega arith))
  where
    live : (c : ℕ) (x : Searched) → Comes b ps 1 x (place 1 0 0 c) → Leads b ps (after_liveness ps x) (place 1 0 0 c)
    live c (ended o) s = s
    live c (passed k) s = s (after_liveness ps (passed k)) (stops (view_last b ps (place 1 (length ps) 0 k) (drop-length ps)))

    go : (x : Searched) → Comes b ps 0 x (enter 0 0 0 ps) → Leads b ps (after_security b ps x) (enter 0 0 0 ps)
    go (ended o) s = s
    go (passed c) s = s (after_liveness ps (search b 1 0 c ps)) (live c (search b 1 0 c ps) (phase b ps 1 (searches b 1 ps 0 c) refl (omega arith)))
