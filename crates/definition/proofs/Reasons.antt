-- Why a path needs no signature: where an examination gives a reason, it is one of document 01's two. `Reason`'s case `Other`, which an outcome of a
-- caller's own may have, comes of none. Laws of what the entries and the loop over a path promise, for callers who match a reason.
use Rattle.std.specs.Prelude.{⊤, Some, Ok, Err}
use Prim.Native.Nat.{ℕ, zero, suc, ◌+◌}
use mathlib.Core.Path.{◌≡◌}
use mathlib.Core.Bool.{Bool, true, false}
use mathlib.Core.List.{List, [], ◌∷◌}
use mathlib.Core.Logic.{◌⊎◌, inl, inr}
use native.Mathlib.Omega.{arith}
use lib.ListN.{drop}
use Rattle.definition.specs.declared.Bounds.{Bounds}
use Rattle.definition.specs.declared.Location.{Location}
use Rattle.definition.specs.declared.Outcome.{Outcome}
use Rattle.definition.specs.declared.Place.{Place}
use Rattle.definition.specs.declared.Reason.{Reason}
use Rattle.definition.specs.declared.Reason.TheVariants.{OverBound, Satisfied}
use Rattle.definition.specs.declared.Verdict.{Verdict}
use Rattle.definition.specs.declared.Verdict.TheVariants.{NoSigRequired, UselessSig}
use Rattle.std.specs.declared.ops.ControlFlow.{ControlFlow}
use Rattle.std.specs.declared.ops.ControlFlow.TheVariants.{Break, Continue}
use Rattle.definition.specs.Bytes.{when◌then◌else◌}
use Rattle.definition.specs.Fault.{Read}
use Rattle.definition.specs.Accepted.{Compiled, accepted}
use Rattle.definition.specs.Verdict.{is_over, truth, over_verdict, found_verdict, finish, Searched, passed, ended, search, after_liveness, after_security, unstopped, checked, check_necessity}
use Rattle.definition.specs.Place.{after, trial, Seen, stop, tries, look, view, Standing, idle, moved, slice, fitting, sliced}
use Rattle.definition.proofs.Steps.{carried, step_got}
use Rattle.definition.proofs.Graph.{Search, out, over, found, on, searches}

-- the reason of a verdict, where it has one, is one of the two
abbrev pub Reasoned : Verdict → Type 0
Reasoned v = (x : Reason) (i : ℕ) (l : Location) (m : ℕ) → v ≡ NoSigRequired x i l m → (x ≡ OverBound) ⊎ (x ≡ Satisfied)

-- ---- the verdicts

-- at a path over its bound
pub over_reasoned : (q i : ℕ) (p : Compiled) → Reasoned (over_verdict q i p)
unfolding over_verdict
over_reasoned zero i p x j l m e = inl cc
over_reasoned (suc q) i p x j l m e = let z : ◌≡◌ {A = ℕ} 0 1 = cc in absurd (omega arith)

-- where a mask satisfies
pub found_reasoned : (q i : ℕ) (p : Compiled) (k : ℕ) → Reasoned (found_verdict q i p k)
unfolding found_verdict when◌then◌else◌
found_reasoned (suc q) i p k = λ x j l m e. let z : ◌≡◌ {A = ℕ} 0 1 = cc in absurd (omega arith)
found_reasoned zero i p k = go p.signed
  where
    go : (s : Bool) → Reasoned (when s then UselessSig i p.location k else NoSigRequired Satisfied i p.location k)
    go true x j l m e = let z : ◌≡◌ {A = ℕ} 0 1 = cc in absurd (omega arith)
    go false x j l m e = inr cc

-- after the last path
finish_reasoned : (ps : List Compiled) → Reasoned (finish ps)
unfolding finish
finish_reasoned [] x j l m e = let z : ◌≡◌ {A = ℕ} 0 1 = cc in absurd (omega arith)
finish_reasoned (p ∷ ps) x j l m e = let z : ◌≡◌ {A = ℕ} 0 1 = cc in absurd (omega arith)

-- ---- the unstopped run

-- an end that a phase came to is so
abbrev Ended : Searched → Type 0
Ended (passed c) = ⊤
Ended (ended o) = Reasoned o.verdict

search_reasoned : {b : Bounds} {q i c : ℕ} {ps : List Compiled} {r : Searched} → Search b q i c ps r → Ended r
search_reasoned out = tt
search_reasoned (over u) = over_reasoned _ _ _
search_reasoned (found u l) = found_reasoned _ _ _ _
search_reasoned (on u n s) = search_reasoned s

after_liveness_reasoned : (ps : List Compiled) (r : Searched) → Ended r → Reasoned (after_liveness ps r).verdict
unfolding after_liveness
after_liveness_reasoned ps (passed c) e = finish_reasoned ps
after_liveness_reasoned ps (ended o) e = e

after_security_reasoned : (b : Bounds) (ps : List Compiled) (r : Searched) → Ended r → Reasoned (after_security b ps r).verdict
unfolding after_security
after_security_reasoned b ps (passed c) e = after_liveness_reasoned ps (search b 1 0 c ps) (search_reasoned (searches b 1 ps 0 c))
after_security_reasoned b ps (ended o) e = e

-- what `check_necessity` comes to
pub check_reasoned : (b : Bounds) (s : List ℕ) (o : Outcome) → check_necessity b s ≡ Ok o → Reasoned o.verdict
unfolding check_necessity checked unstopped
check_reasoned b s o e = go (accepted s) e
  where
    go : (r : Read (List Compiled)) → checked b r ≡ Ok o → Reasoned o.verdict
    go (Ok ps) k = let z : unstopped b ps ≡ o = cc in rw z at (after_security_reasoned b ps (search b 0 0 0 ps) (search_reasoned (searches b 0 ps 0 0)))
    go (Err f) k = let z : ◌≡◌ {A = ℕ} 0 1 = cc in absurd (omega arith)

-- ---- a slice

-- an end that a trial is, or that stands next, is so
abbrev Broken : ControlFlow Outcome Place → Type 0
Broken (Break o) = Reasoned o.verdict
Broken (Continue q) = ⊤

abbrev Next : Seen → Type 0
Next (stop o) = Reasoned o.verdict
Next (tries t) = Broken t

trial_broken : (h : Compiled) (rest : List Compiled) (p : Place) → Broken (trial h rest p)
unfolding trial when◌then◌else◌
trial_broken h rest p = go (truth p.phase h p.mask)
  where
    go : (t : Bool) → Broken (when t then Break (record { verdict = found_verdict p.phase p.path h p.mask; total = p.count + 1; place = p }) else Continue (after h rest p))
    go true = found_reasoned _ _ _ _
    go false = tt

-- the end that a trial is
pub trial_reasoned : (h : Compiled) (rest : List Compiled) (p : Place) (o : Outcome) → trial h rest p ≡ Break o → Reasoned o.verdict
trial_reasoned h rest p o e = rw e at (trial_broken h rest p)

look_reasoned : (b : Bounds) (ps : List Compiled) (p : Place) (rest : List Compiled) → Next (look b ps p rest)
unfolding look when◌then◌else◌
look_reasoned b ps p [] = finish_reasoned ps
look_reasoned b ps p (h ∷ rest) = go (is_over b p.phase h)
  where
    go : (t : Bool) → Next (when t then stop (record { verdict = over_verdict p.phase p.path h; total = p.count; place = p }) else tries (trial h rest p))
    go true = over_reasoned _ _ _
    go false = trial_broken h rest p

-- an end that is said is so
abbrev Said : Standing → Type 0
Said y = (o : Outcome) → y.said ≡ Some o → Reasoned o.verdict

idle_reasoned : (x : Seen) (p : Place) → Next x → Said (idle x p)
unfolding idle
idle_reasoned (stop o) p n = λ q e. let z : o ≡ q = cc in rw z at n
idle_reasoned (tries t) p n = λ q e. let z : ◌≡◌ {A = ℕ} 0 1 = cc in absurd (omega arith)

moved_reasoned : (x : Seen) (p : Place) (go : Place → Standing) → Next x → ((q : Place) → Said (go q)) → Said (moved x p go)
unfolding moved
moved_reasoned (stop o) p go n k = λ q e. let z : o ≡ q = cc in rw z at n
moved_reasoned (tries (Break o)) p go n k = λ q e. let z : o ≡ q = cc in rw z at n
moved_reasoned (tries (Continue r)) p go n k = k r

slice_reasoned : (b : Bounds) (ps : List Compiled) (n : ℕ) (p : Place) → Said (slice b ps n p)
unfolding slice
slice_reasoned b ps zero p = idle_reasoned (view b ps p) p (look_reasoned b ps p (drop p.path ps))
slice_reasoned b ps (suc n) p = moved_reasoned (view b ps p) p (slice b ps n) (look_reasoned b ps p (drop p.path ps)) (slice_reasoned b ps n)

-- what `slice` comes to
pub sliced_reasoned : (b : Bounds) (s : List ℕ) (n : ℕ) (p : Place) (y : Standing) → sliced b s n p ≡ Ok y → (o : Outcome) → y.said ≡ Some o → Reasoned o.verdict
unfolding sliced
sliced_reasoned b s n p y e = let t = step_got (fitting b s p) (λ ps. Ok (slice b ps n p)) y e in carried Said _ y t.2 (slice_reasoned b t.0 n p)
