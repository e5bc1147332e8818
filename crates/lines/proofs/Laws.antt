-- The lines of an image's paths, one by one; and an image by the answers that are given of it.
use Rattle.std.specs.Prelude.{Ok, Err}
use mathlib.Core.Path.{◌≡◌, refl, sym, ap, ◌∙◌}
use mathlib.Core.List.{List, [], ◌∷◌, ◌++◌, append_assoc, append-nil}
use Prim.Native.Nat.{ℕ, zero, suc, ◌+◌, ◌*◌, ◌≤◌, ◌<◌}
use native.Mathlib.Omega.{arith}
use lib.ListN.{length, take, drop}
use lib.Seq.{take_all}
use Rattle.definition.specs.declared.Outcome.{Outcome}
use Rattle.definition.specs.declared.Refusal.{Refusal}
use Rattle.definition.specs.Fault.{Read, answer}
use Rattle.definition.specs.Table.{refusal_of}
use Rattle.definition.specs.Accepted.{Compiled, accepted, counted, count_paths, numbered, path_free_atoms}
use Rattle.definition.specs.Verdict.{the_bounds, unstopped, checked, check_necessity}
use Rattle.definition.proofs.Lists.{element_at}
use Rattle.definition.proofs.Acceptance.{accepted_few, path_is}
use Rattle.lines.specs.Parts.{numbered_line}
use Rattle.lines.specs.Lines.{path_line, path_lines, verdict_line, refused_line, end_lines, report_of}

-- ---- what the answers say of acceptance

-- "the path count" is that of an accepted image
counted_got : (m : Read (List Compiled)) (n : ℕ) → counted m ≡ Ok n → (ps : List Compiled) × (m ≡ Ok ps)
unfolding counted
counted_got (Ok ps) n e = (ps, refl)
counted_got (Err f) n e = cc

module _ (s : List ℕ) (n : ℕ) (e : count_paths s ≡ Ok n) where
  pub counted_paths : (ps : List Compiled) × (accepted s ≡ Ok ps)
  unfolding count_paths
  counted_paths = counted_got (accepted s) n e

  -- as many as its paths
  pub counted_length : (ps : List Compiled) → accepted s ≡ Ok ps → length ps ≡ n
  unfolding count_paths counted
  counted_length ps a = let z : Ok (length ps) ≡ Ok n = sym (ap counted a) ∙ e in cc

  -- "128 paths"
  pub counted_few : n ≤ 128
  counted_few = let p = counted_paths in omega (arith, accepted_few s p.0 p.1, counted_length p.0 p.1)

-- ---- the lines of the paths

-- one line more
lines_more : (k i : ℕ) (ps : List Compiled) (p : Compiled) (rest : List Compiled) → drop i ps ≡ p ∷ rest → path_lines k (take (suc i) ps) ≡ path_lines k (take i ps) ++ path_line (k + i) p.sigs p.frees
unfolding path_lines
lines_more k zero [] p rest d = cc
lines_more k zero (q ∷ ps) p rest d = let e : q ≡ p = cc in let z : k + 0 ≡ k = omega arith in simp (e, z, append-nil)
lines_more k (suc i) [] p rest d = cc
lines_more k (suc i) (q ∷ ps) p rest d =
    let e : k + 1 + i ≡ k + suc i = omega arith in
    simp (lines_more (k + 1) i ps p rest d, e, append_assoc)

-- what is written after so many of the paths: their lines, within 78 bytes each, behind what was
pub record Reached (image : List ℕ) (before written : List ℕ) (path : ℕ) : Type 0 where
  pub lines : (ps : List Compiled) → accepted image ≡ Ok ps → written ≡ before ++ path_lines 0 (take path ps)
  pub within : length written ≤ length before + 78 * path

-- before the first
pub none_reached : (image before : List ℕ) → Reached image before before 0
unfolding path_lines
none_reached image before = record { lines = λ ps _. sym (append-nil before); within = omega arith }

module _ (image : List ℕ) (count : ℕ) (e : count_paths image ≡ Ok count) (before written : List ℕ) (path : ℕ) (r : Reached image before written path) where
  -- one more
  pub more_reached : path < count → (next : List ℕ) → next ≡ written ++ numbered_line path (path_free_atoms image path) → length next ≤ length written + 78 → Reached image before next (path + 1)
  unfolding path_free_atoms numbered
  more_reached h next w l =
      record {
        lines = λ ps a.
            let n = element_at ps path (omega (arith, counted_length image count e ps a)) in
            let o : path + 1 ≡ suc path = omega arith in
            let z : 0 + path ≡ path = omega arith in
            let p : numbered_line path (path_free_atoms image path) ≡ path_line path n.0.sigs n.0.frees = ap (λ x. numbered_line path (numbered x)) (path_is image ps a path n.0 n.1 n.2) in
            let l : next ≡ (before ++ path_lines 0 (take path ps)) ++ path_line path n.0.sigs n.0.frees = cc (w, p, r.lines ps a) in
            rw (o, lines_more 0 path ps n.0 n.1 n.2, z) (l ∙ append_assoc before _ _);
        within = omega (arith, r.within);
      }

  -- all
  pub all_reached : count ≤ path → (ps : List Compiled) → accepted image ≡ Ok ps → written ≡ before ++ path_lines 0 ps
  all_reached h ps a = let l : length ps ≤ path = omega (arith, counted_length image count e ps a) in r.lines ps a ∙ ap (λ qs. before ++ path_lines 0 qs) (take_all path ps l)

-- ---- what is printed

-- the end of the unstopped run has the lines of the report, so an examination that was cut and taken up again prints what one that was not does
pub end_prints : (s : List ℕ) (ps : List Compiled) → accepted s ≡ Ok ps → end_lines s (unstopped the_bounds ps) ≡ report_of s
unfolding end_lines report_of answer
end_prints s ps e = rw e refl

module _ (s : List ℕ) where
  -- of an image whose paths are not counted, its refusal
  pub end_refused : (o : Outcome) (r : Refusal) → count_paths s ≡ Err r → end_lines s o ≡ refused_line r
  unfolding count_paths counted end_lines answer
  end_refused o r e = elim (accepted s) as (λ m. counted m ≡ Err r → answer (λ ps. path_lines 0 ps ++ verdict_line o) (λ f. refused_line (refusal_of f)) m ≡ refused_line r) [
    | Ok ps ↦ λ x. cc
    | Err f ↦ λ x. let z : refusal_of f ≡ r = cc in ap refused_line z
  ] e

  -- of one whose paths are counted, their lines and that of the end
  pub end_told : (o : Outcome) (n : ℕ) → count_paths s ≡ Ok n → (before written : List ℕ) → ((ps : List Compiled) → accepted s ≡ Ok ps → written ≡ before ++ path_lines 0 ps) → before ++ end_lines s o ≡ written ++ verdict_line o
  unfolding end_lines answer
  end_told o n e before written p =
      let b = counted_paths s n e in
      rw (b.1, p b.0 b.1) (sym (append_assoc before (path_lines 0 b.0) (verdict_line o)))

  -- of one that is not accepted, its refusal
  pub report_refused : (r : Refusal) → check_necessity the_bounds s ≡ Err r → report_of s ≡ refused_line r
  unfolding check_necessity checked report_of answer
  report_refused r e = elim (accepted s) as (λ m. checked the_bounds m ≡ Err r → answer (λ ps. path_lines 0 ps ++ verdict_line (unstopped the_bounds ps)) (λ f. refused_line (refusal_of f)) m ≡ refused_line r) [
    | Ok ps ↦ λ x. cc
    | Err f ↦ λ x. let z : refusal_of f ≡ r = cc in ap refused_line z
  ] e

  -- of one that is, the lines of its end
  pub report_told : (o : Outcome) → check_necessity the_bounds s ≡ Ok o → report_of s ≡ end_lines s o
  unfolding check_necessity checked end_lines report_of answer
  report_told o e = elim (accepted s) as (λ m. checked the_bounds m ≡ Ok o → answer (λ ps. path_lines 0 ps ++ verdict_line (unstopped the_bounds ps)) (λ f. refused_line (refusal_of f)) m ≡ answer (λ ps. path_lines 0 ps ++ verdict_line o) (λ f. refused_line (refusal_of f)) m) [
    | Ok ps ↦ λ x. let z : unstopped the_bounds ps ≡ o = cc in ap (λ v. path_lines 0 ps ++ verdict_line v) z
    | Err f ↦ λ x. refl
  ] e
