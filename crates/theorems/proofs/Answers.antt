-- Demand 2 through the public entries: of every accepted image the path count, each path's atoms, what the queries find, the first place, the
-- verdict with its location, witness and total; of every other image its refusal, from each of them. `Post` is a call's contract as it is read
-- from the source, a.0 the image, a.1.0 the path's number, r the answer.
use Rattle.std.specs.Prelude.{Ok, Err}
use mathlib.Core.Path.{◌≡◌, ap, ◌∙◌}
use mathlib.Core.Bool.{true, false}
use mathlib.Core.List.{List, ◌∷◌}
use Prim.Native.Nat.{ℕ, ◌≤◌}
use lib.ListN.{length, drop}
use Rattle.definition.specs.declared.Fault.{Fault}
use Rattle.definition.specs.declared.Satisfiable.{Satisfiable}
use Rattle.definition.specs.Table.{refusal_of}
use Rattle.definition.specs.Accepted.{Compiled, accepted, counted, count_paths, path_atoms, numbered, path_free_atoms}
use Rattle.definition.specs.Verdict.{the_bounds, masks, is_over, truth, least, found, unstopped, queried, satisfiable, checked, check_necessity}
use Rattle.definition.specs.Place.{started}
use Rattle.definition.specs.Place.{start as start_of}
use Rattle.examiner.specs.Answers.{examination_at, opened_of}
use Rattle.definition.proofs.Steps.{on_got, on_bad}
use Rattle.definition.proofs.Acceptance.{path_is, no_path, path_refused}
use Rattle.examiner.proofs.count_paths.Reads as count_paths
use Rattle.examiner.proofs.path_free_atoms.Reads as path_free_atoms
use Rattle.examiner.proofs.satisfiable_without_signatures.Reads as satisfiable_without_signatures
use Rattle.examiner.proofs.satisfiable_at_all.Reads as satisfiable_at_all
use Rattle.examiner.proofs.start.Reads as start
use Rattle.examiner.proofs.check_necessity.Reads as check_necessity

-- ---- an image that is accepted

module _ (s : List ℕ) (ps : List Compiled) (e : accepted s ≡ Ok ps) where
  -- what a query finds on a path that is not over its bound, and on one that is
  query_found : (q i : ℕ) (p : Compiled) (rest : List Compiled) → drop i ps ≡ p ∷ rest → is_over the_bounds q p ≡ false → satisfiable the_bounds q s i ≡ Ok (found (least (truth q p) 0 (masks q p)))
  unfolding satisfiable queried
  query_found q i p rest d u = rw (path_is s ps e i p rest d, u, queried)

  query_over : (q i : ℕ) (p : Compiled) (rest : List Compiled) → drop i ps ≡ p ∷ rest → is_over the_bounds q p ≡ true → satisfiable the_bounds q s i ≡ Ok Satisfiable.OverBound
  unfolding satisfiable queried
  query_over q i p rest d u = rw (path_is s ps e i p rest d, u, queried)

-- the path count
pub count_is : (κs : _) (a : _) (r : _) (t : _) → count_paths.Post κs a r t → (ps : List Compiled) → accepted a.0.now ≡ Ok ps → r ≡ Ok (length ps)
unfolding count_paths counted
count_is κs a r t p ps e = p ∙ ap counted e

-- each path's Sig and Free atoms
pub atoms_are : (κs : _) (a : _) (r : _) (t : _) → path_free_atoms.Post κs a r t → (ps : List Compiled) → accepted a.0.now ≡ Ok ps → (p : Compiled) (rest : List Compiled) → drop a.1.0 ps ≡ p ∷ rest
    → r ≡ Ok (path_atoms p.sigs p.frees)
unfolding path_free_atoms numbered
atoms_are κs a r t q ps e p rest d = q ∙ ap numbered (path_is a.0.now ps e a.1.0 p rest d)

-- a number that is not below the path count: 13
pub no_such_path : (κs : _) (a : _) (r : _) (t : _) → path_free_atoms.Post κs a r t → (ps : List Compiled) → accepted a.0.now ≡ Ok ps → length ps ≤ a.1.0 → r ≡ Err (record { number = 13; place = 0 })
unfolding path_free_atoms numbered
no_such_path κs a r t q ps e h = q ∙ ap numbered (no_path a.0.now ps e a.1.0 h)

-- of the queries too
pub no_such_path_without : (κs : _) (a : _) (r : _) (t : _) → satisfiable_without_signatures.Post κs a r t → (ps : List Compiled) → accepted a.0.now ≡ Ok ps → length ps ≤ a.1.0 → r ≡ Err (record { number = 13; place = 0 })
unfolding satisfiable queried
no_such_path_without κs a r t q ps e h = q ∙ ap (queried the_bounds 0) (no_path a.0.now ps e a.1.0 h)

pub no_such_path_at_all : (κs : _) (a : _) (r : _) (t : _) → satisfiable_at_all.Post κs a r t → (ps : List Compiled) → accepted a.0.now ≡ Ok ps → length ps ≤ a.1.0 → r ≡ Err (record { number = 13; place = 0 })
unfolding satisfiable queried
no_such_path_at_all κs a r t q ps e h = q ∙ ap (queried the_bounds 1) (no_path a.0.now ps e a.1.0 h)

-- the verdict, its location, witness and total: the unstopped run's
pub verdict_is : (κs : _) (a : _) (r : _) (t : _) → check_necessity.Post κs a r t → (ps : List Compiled) → accepted a.0.now ≡ Ok ps → r ≡ Ok (unstopped the_bounds ps)
unfolding check_necessity checked
verdict_is κs a r t p ps e = p ∙ ap (checked the_bounds) e

-- the first place
pub start_is : (κs : _) (a : _) (r : _) (t : _) → start.Post κs a r t → (ps : List Compiled) → accepted a.0.now ≡ Ok ps → r ≡ Ok (examination_at (start_of ps))
unfolding started
start_is κs a r t p ps e = p ∙ ap opened_of (on_got _ _ ps e)

-- what the queries find: the least satisfying mask, or none; or the path is over its bound
pub without_signatures_is : (κs : _) (a : _) (r : _) (t : _) → satisfiable_without_signatures.Post κs a r t → (ps : List Compiled) → accepted a.0.now ≡ Ok ps → (p : Compiled) (rest : List Compiled) → drop a.1.0 ps ≡ p ∷ rest
    → (is_over the_bounds 0 p ≡ false → r ≡ Ok (found (least (truth 0 p) 0 (masks 0 p)))) × (is_over the_bounds 0 p ≡ true → r ≡ Ok Satisfiable.OverBound)
without_signatures_is κs a r t q ps e p rest d = (λ u. q ∙ query_found a.0.now ps e 0 a.1.0 p rest d u, λ u. q ∙ query_over a.0.now ps e 0 a.1.0 p rest d u)

-- the same with signatures
pub at_all_is : (κs : _) (a : _) (r : _) (t : _) → satisfiable_at_all.Post κs a r t → (ps : List Compiled) → accepted a.0.now ≡ Ok ps → (p : Compiled) (rest : List Compiled) → drop a.1.0 ps ≡ p ∷ rest
    → (is_over the_bounds 1 p ≡ false → r ≡ Ok (found (least (truth 1 p) 0 (masks 1 p)))) × (is_over the_bounds 1 p ≡ true → r ≡ Ok Satisfiable.OverBound)
at_all_is κs a r t q ps e p rest d = (λ u. q ∙ query_found a.0.now ps e 1 a.1.0 p rest d u, λ u. q ∙ query_over a.0.now ps e 1 a.1.0 p rest d u)

-- ---- an image that is not: the table's number and place for its fault, from each call

-- the path count
pub count_refused : (κs : _) (a : _) (r : _) (t : _) → count_paths.Post κs a r t → (f : Fault) → accepted a.0.now ≡ Err f → r ≡ Err (refusal_of f)
unfolding count_paths counted
count_refused κs a r t p f e = p ∙ ap counted e

-- a path's atoms
pub atoms_refused : (κs : _) (a : _) (r : _) (t : _) → path_free_atoms.Post κs a r t → (f : Fault) → accepted a.0.now ≡ Err f → r ≡ Err (refusal_of f)
unfolding path_free_atoms numbered
atoms_refused κs a r t p f e = p ∙ ap numbered (path_refused a.0.now f e a.1.0)

-- the two queries
pub without_signatures_refused : (κs : _) (a : _) (r : _) (t : _) → satisfiable_without_signatures.Post κs a r t → (f : Fault) → accepted a.0.now ≡ Err f → r ≡ Err (refusal_of f)
unfolding satisfiable queried
without_signatures_refused κs a r t p f e = p ∙ ap (queried the_bounds 0) (path_refused a.0.now f e a.1.0)

pub at_all_refused : (κs : _) (a : _) (r : _) (t : _) → satisfiable_at_all.Post κs a r t → (f : Fault) → accepted a.0.now ≡ Err f → r ≡ Err (refusal_of f)
unfolding satisfiable queried
at_all_refused κs a r t p f e = p ∙ ap (queried the_bounds 1) (path_refused a.0.now f e a.1.0)

-- the unstopped run
pub verdict_refused : (κs : _) (a : _) (r : _) (t : _) → check_necessity.Post κs a r t → (f : Fault) → accepted a.0.now ≡ Err f → r ≡ Err (refusal_of f)
unfolding check_necessity checked
verdict_refused κs a r t p f e = p ∙ ap (checked the_bounds) e

-- the first place
pub start_refused : (κs : _) (a : _) (r : _) (t : _) → start.Post κs a r t → (f : Fault) → accepted a.0.now ≡ Err f → r ≡ Err (refusal_of f)
unfolding started
start_refused κs a r t p f e = p ∙ ap opened_of (on_bad _ _ f e)
