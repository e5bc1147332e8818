-- An image that is accepted, or its fault: from what is told of its head and its paths to what is said of the whole; and, for callers, back.
use Rattle.trials.specs.declared.Facts.{Facts}
use Rattle.trials.specs.declared.AtomCounts.{AtomCounts}
use Rattle.formula.specs.declared.Area.{Area}
use Rattle.std.specs.Prelude.{Ok, Err}
use Prim.Native.Nat.{ℕ, ◌≤◌, ◌<◌}
use mathlib.Core.Path.{◌≡◌, refl, sym, ap, subst, ◌∙◌}
use mathlib.Core.List.{List, ◌∷◌}
use native.Mathlib.Omega.{arith}
use lib.ListN.{length, drop}
use borrow.Author.Tests.{lt-ltb, le-ltb}
use Rattle.definition.specs.declared.Fault.{Fault}
use Rattle.definition.specs.declared.Head.{Head}
use Rattle.definition.specs.declared.Kind.TheVariants.{TooManyPaths}
use Rattle.definition.specs.Tree.{Contract}
use Rattle.definition.specs.Writing.{count}
use Rattle.definition.specs.Fault.{Read, fault, refuse}
use Rattle.definition.specs.Reading.{read}
use Rattle.definition.specs.Paths.{Path, paths_b, pieces}
use Rattle.definition.specs.Formula.{no_atoms, path_formula}
use Rattle.definition.specs.Accepted.{Compiled, compiled, compile, accepted}
use Rattle.definition.proofs.Steps.{bad_got, same_got, same_bad, step_got, on_got, on_bad, tests_bad, let_pass}
use Rattle.definition.proofs.Acceptance.{compile_length, accepted_passed}
use Rattle.reader.specs.Answers.{seen_of}
use Rattle.reader.proofs.Acceptance.{seen_head, seen_fault}
use Rattle.paths.proofs.Whole.{seen_accepted}
use Rattle.survey.specs.declared.Sight.{Sight}
use Rattle.survey.specs.Sights.{sight_of, Sees, Sighted, Route, Loads, Compiles, Stored}
use Rattle.survey.proofs.Compiling.{compiled_at}

-- ---- an image's head
-- an image whose head is seen was read, and with the number of its paths this is known of it
pub seen_sees : (s : List ℕ) (h : Head) → Ok h ≡ seen_of (read s) → (n : ℕ) → ((c : Contract) → read s ≡ Ok c → n ≡ length (paths_b c.block 8)) → Sees s (record { mode = h.mode; top = h.count; paths = n })
seen_sees s h e n counted =
    let i = seen_head s h e in
    record { walks = seen_accepted s h e; mode = λ c r. ap (λ (x : Head). x.mode) i.2 ∙ ap (λ (d : Contract). d.mode) (same_got i.0 c (sym i.1 ∙ r)); paths = counted }

-- ---- what is known of an image, by what comes of its acceptance
module _ (s : List ℕ) where
  -- one that is read, by how many paths it has
  passed : (c : Contract) → read s ≡ Ok c → length (paths_b c.block 8) ≤ 128 → accepted s ≡ compile c.mode (paths_b c.block 8)
  unfolding accepted
  passed c e h = on_got _ _ c e ∙ let_pass _ _ _ (le-ltb _ _ h)

  too_many : (c : Contract) → read s ≡ Ok c → 128 < length (paths_b c.block 8) → accepted s ≡ Err (fault TooManyPaths 0 0)
  unfolding accepted refuse
  too_many c e h = on_got _ _ c e ∙ tests_bad _ _ _ (rw (lt-ltb _ _ h) refl)

  -- one that is not read is not accepted, for the same fault
  unread : (f : Fault) → read s ≡ Err f → (accepted s ≡ Err f) × (sight_of s ≡ Err f)
  unfolding accepted sight_of
  unread f e = (on_bad _ _ f e, on_bad _ _ f e)

  -- its fault, or its head and how many paths were made
  sight_bad : (f : Fault) → accepted s ≡ Err f → sight_of s ≡ Err f
  unfolding sight_of
  sight_bad f a = by (read s) refl
    where
      by : (r : Read Contract) → read s ≡ r → sight_of s ≡ Err f
      by (Ok c) e = on_got _ _ c e ∙ on_bad _ _ f a
      by (Err g) e = let u = unread g e in u.1 ∙ ap Err (same_bad g f (sym u.0 ∙ a))

  sight_got : (c : Contract) (ps : List Compiled) → read s ≡ Ok c → accepted s ≡ Ok ps → sight_of s ≡ Ok (record { mode = c.mode; top = count c.block; paths = length ps })
  unfolding sight_of
  sight_got c ps e a = on_got _ _ c e ∙ on_got _ _ ps a

  module _ (table table' : List AtomCounts) where
    -- ---- what is told: its fault, whatever is in the table
    fault_told : (f : Fault) → accepted s ≡ Err f → (Err f ≡ sight_of s) × Stored s table table'
    fault_told f a = (sym (sight_bad f a), λ ps e. bad_got f ps (sym a ∙ e))

    -- of one that is not read
    pub unread_told : (f : Fault) → Err f ≡ seen_of (read s) → (Err f ≡ sight_of s) × Stored s table table'
    unread_told f e = fault_told f (unread f (seen_fault s f e)).0

    -- "more than 128 paths"
    pub many_told : (x : Sight) → Sees s x → 128 < x.paths → (f : Fault) → f ≡ fault TooManyPaths 0 0 → (Err f ≡ sight_of s) × Stored s table table'
    many_told x g over f q =
        let a = g.walks in
        fault_told f (too_many a.contract a.is (subst (λ (k : ℕ). 128 < k) (g.paths a.contract a.is) over) ∙ ap Err (sym q))

    -- no more, and each was asked for
    pub all_told : (x : Sight) → Sees s x → x.paths ≤ 128 → (r : Read Sight) → ((c : Contract) → read s ≡ Ok c → Compiles (compile c.mode (paths_b c.block 8)) x r table table') → (r ≡ sight_of s) × Stored s table table'
    unfolding Compiles
    all_told x g few r told = by g.walks.contract g.walks.is (compile _ _) refl (told g.walks.contract g.walks.is)
      where
        by : (c : Contract) → read s ≡ Ok c → (m : Read (List Compiled)) → compile c.mode (paths_b c.block 8) ≡ m → Compiles m x r table table' → (r ≡ sight_of s) × Stored s table table'
        by c e (Ok ps) q t =
            let a : accepted s ≡ Ok ps = passed c e (omega (arith, g.paths c e, few)) ∙ q in
            let n : x.paths ≡ length ps = g.paths c e ∙ sym (compile_length _ _ ps q) in
            let k : x.top ≡ count c.block = g.walks.top ∙ ap (λ (d : Contract). count d.block) (same_got g.walks.contract c (sym g.walks.is ∙ e)) in
            (t.told ∙ sym (sight_got c ps e a ∙ rw (← g.mode c e, ← k, ← n) refl), λ qs b. rw (← same_got ps qs (sym a ∙ b)) t.counts)
        by c e (Err f) q t = let k = fault_told f (passed c e (omega (arith, g.paths c e, few)) ∙ q) in (t ∙ k.0, k.1)

-- ---- for callers
-- an image of which a sight is told is accepted
pub sighted : (s : List ℕ) (x : Sight) → Ok x ≡ sight_of s → Sighted s x
unfolding sight_of
sighted s x e =
    let i = step_got _ _ _ (sym e) in
    let j = step_got _ _ _ i.2 in
    let y = same_got _ x j.2 in
    let p = accepted_passed s j.0 j.1 in
    record {
      paths = j.0;
      is = j.1;
      sees = record {
        walks = record { contract = i.0; is = i.1; top = sym (ap (λ (z : Sight). z.top) y) };
        mode = λ c r. sym (ap (λ (z : Sight). z.mode) y) ∙ ap (λ (d : Contract). d.mode) (same_got i.0 c (sym i.1 ∙ r));
        paths = λ c r. sym (ap (λ (z : Sight). z.paths) y) ∙ compile_length _ _ j.0 p.made ∙ ap (λ (d : Contract). length (paths_b d.block 8)) (same_got p.contract c (sym p.was_read ∙ r));
      };
      count = sym (ap (λ (z : Sight). z.paths) y);
    }

-- a fault that is told is the image's
pub faulty : (s : List ℕ) (f : Fault) → Err f ≡ sight_of s → accepted s ≡ Err f
faulty s f e = by (accepted s) refl (sym e)
  where
    by : (m : Read (List Compiled)) → accepted s ≡ m → sight_of s ≡ Err f → accepted s ≡ Err f
    by (Ok ps) a q = let p = accepted_passed s ps a in bad_got f _ (sym q ∙ sight_got s p.contract ps p.was_read a)
    by (Err g) a q = a ∙ ap Err (same_bad g f (sym (sight_bad s g a) ∙ q))

-- what is told of path `wanted` of an image that is accepted is that path
pub routed : (s : List ℕ) (x : Sight) (g : Sighted s x) (ps : List Compiled) → accepted s ≡ Ok ps → (wanted : ℕ) (h : Compiled) (rest : List Compiled) → drop wanted ps ≡ h ∷ rest → (r : Read Facts) (area : Area)
    → ((c : Contract) → read s ≡ Ok c → (p : Path) (qs : List Path) → drop wanted (paths_b c.block 8) ≡ p ∷ qs → Loads (compiled p (path_formula c.mode (pieces p) no_atoms)) r area) → Route h r area
unfolding Loads
routed s x g ps a wanted h rest d r area told =
    let k = accepted_passed s ps a in
    let p = compiled_at _ wanted _ ps h rest k.made d in
    rw p.3 at (told k.contract k.was_read p.0 p.1 p.2)
