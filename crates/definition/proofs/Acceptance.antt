-- What acceptance promises: at most 128 paths, each by its number, and no total or count above 671,088,640.
use Rattle.std.specs.Prelude.{Ok, Err}
use mathlib.Core.Path.{◌≡◌, sym, ap, ◌∙◌}
use mathlib.Core.Bool.{true}
use mathlib.Core.List.{List, [], ◌∷◌}
use Prim.Native.Nat.{ℕ, suc, ◌≤◌}
use native.Mathlib.Omega.{arith}
use lib.ListN.{length, drop, drop_of_length-le}
use borrow.Author.Tests.{ltb-false}
use Rattle.definition.specs.declared.Fault.{Fault}
use Rattle.definition.specs.declared.Kind.TheVariants.{NoSuchPath}
use Rattle.definition.specs.declared.Place.{Place}
use Rattle.definition.specs.Fault.{fault}
use Rattle.definition.specs.Tree.{Contract}
use Rattle.definition.specs.Reading.{read}
use Rattle.definition.specs.Paths.{Path, paths_b}
use Rattle.definition.specs.Accepted.{Compiled, compile, accepted, first_of, path_of}
use Rattle.definition.specs.Verdict.{the_bounds, unstopped}
use Rattle.definition.specs.Place.{fits}
use Rattle.definition.proofs.Steps.{same_got, step_got, past, on_got, on_bad}
use Rattle.definition.proofs.Fitting.{true_fits, fits_count}
use Rattle.definition.proofs.Greatest.{greatest}

-- each path is compiled
pub compile_length : (mode : ℕ) (ps : List Path) (cs : List Compiled) → compile mode ps ≡ Ok cs → length cs ≡ length ps
unfolding compile
compile_length mode [] cs e = ap length (sym (same_got [] cs e))
compile_length mode (p ∷ ps) cs e =
    let i = step_got _ _ _ e in
    let j = step_got _ _ _ i.2 in
    ap length (sym (same_got (i.0 ∷ j.0) cs j.2)) ∙ ap suc (compile_length mode ps j.0 j.1)

-- an accepted image was read, and its paths are at most 128
pub record Passed (s : List ℕ) (cs : List Compiled) : Type 0 where
  pub contract : Contract
  pub was_read : read s ≡ Ok contract
  pub few : length (paths_b contract.block 8) ≤ 128
  pub made : compile contract.mode (paths_b contract.block 8) ≡ Ok cs

pub accepted_passed : (s : List ℕ) (cs : List Compiled) → accepted s ≡ Ok cs → Passed s cs
unfolding accepted
accepted_passed s cs e =
    let i = step_got _ _ _ e in
    let j = past _ _ _ _ i.2 in
    record { contract = i.0; was_read = i.1; few = ltb-false 128 _ j.0; made = j.1 }

-- "128 paths"
pub accepted_few : (s : List ℕ) (cs : List Compiled) → accepted s ≡ Ok cs → length cs ≤ 128
accepted_few s cs e =
    let p = accepted_passed s cs e in
    omega (arith, p.few, compile_length _ _ cs p.made)

module _ (s : List ℕ) (ps : List Compiled) (e : accepted s ≡ Ok ps) where
  -- a path by its number
  pub path_is : (i : ℕ) (p : Compiled) (rest : List Compiled) → drop i ps ≡ p ∷ rest → path_of i s ≡ Ok p
  unfolding path_of first_of
  path_is i p rest d = on_got _ _ ps e ∙ ap first_of d

  -- "path number not below the path count"
  pub no_path : (i : ℕ) → length ps ≤ i → path_of i s ≡ Err (fault NoSuchPath 0 0)
  unfolding path_of first_of
  no_path i h = on_got _ _ ps e ∙ ap first_of (drop_of_length-le ps h)

-- "The total is at most 671,088,640."
pub accepted_total : (s : List ℕ) (cs : List Compiled) → accepted s ≡ Ok cs → (unstopped the_bounds cs).total ≤ 671088640
accepted_total s cs e = greatest the_bounds cs (accepted_few s cs e) (omega arith) (omega arith)

-- nor is more counted at any place that fits, so that the count fits its 32 bits
pub accepted_count : (s : List ℕ) (cs : List Compiled) → accepted s ≡ Ok cs → (p : Place) → fits the_bounds cs p ≡ true → p.count ≤ 671088640
accepted_count s cs e p f = omega (arith, fits_count the_bounds cs p (true_fits the_bounds cs p f), accepted_few s cs e)

-- the paths of an image that is not accepted are refused with its fault
pub path_refused : (s : List ℕ) (f : Fault) → accepted s ≡ Err f → (i : ℕ) → path_of i s ≡ Err f
unfolding path_of
path_refused s f e i = on_bad _ _ f e
