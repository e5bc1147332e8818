-- Acceptance: an image's paths with their formulas, or its refusal. Document 01: "Then 7, 9, 10."
use Rattle.definition.specs.declared.PathAtoms.{PathAtoms}
use Rattle.std.specs.Prelude.{ℕ, Bool, List, [], ◌∷◌, length, drop, ltb, Ok, Err}
use Rattle.definition.specs.declared.Location.{Location}
use Rattle.definition.specs.declared.Kind.TheVariants.{TooManyPaths, Overflows, NoSuchPath}
use Rattle.definition.specs.Fault.{Read, fault, ◌>>=◌, ◌>>◌, refuse}
use Rattle.definition.specs.Table.{refusal_of, Told}
use Rattle.definition.specs.Reading.{read}
use Rattle.definition.specs.Paths.{Path, paths_b, pieces, any_checksig}
use Rattle.definition.specs.Formula.{Formula, no_atoms, Made, made, stopped, path_formula}

-- a path as "Verdicts" sees it: its formula, its Sig and Free atoms, whether "a checksig stands anywhere on the path", its return's location
pub record Compiled : Type 0 where
  pub formula : Formula
  pub sigs : ℕ
  pub frees : ℕ
  pub signed : Bool
  pub location : Location

-- 10: "literal arithmetic leaves 64 bits", at the tag of that operation
unfoldable pub compiled : Path → Made → Read Compiled
compiled p (made f a) = Ok (record { formula = f; sigs = length a.locations; frees = a.frees; signed = any_checksig (pieces p); location = p.location })
compiled p (stopped at) = Err (fault Overflows at at)

-- each path by itself: Sig atoms are not shared between paths; 10 is "the first in translation order"
unfoldable pub compile : ℕ → List Path → Read (List Compiled)
compile mode [] = Ok []
compile mode (p ∷ ps) = do
  c ← compiled p (path_formula mode (pieces p) no_atoms)
  cs ← compile mode ps
  Ok (c ∷ cs)

-- "Then 7, 9, 10.": reading (1 to 8), "more than 128 paths" (9), literal arithmetic (10). The top list stands at offset 8
unfoldable pub accepted : List ℕ → Read (List Compiled)
accepted s = do
  c ← read s
  refuse (ltb 128 (length (paths_b c.block 8))) (fault TooManyPaths 0 0)
  compile c.mode (paths_b c.block 8)

-- 13: "path number not below the path count"
unfoldable pub first_of : List Compiled → Read Compiled
first_of [] = Err (fault NoSuchPath 0 0)
first_of (p ∷ ps) = Ok p

-- path i of an accepted image: the image's own refusals first, "then 12 or 13"
unfoldable pub path_of : ℕ → List ℕ → Read Compiled
path_of i s = do
  ps ← accepted s
  first_of (drop i ps)

-- ---- the answers of two public calls

-- the "path count", or the refusal
unfoldable pub counted : Read (List Compiled) → Told ℕ
counted (Ok ps) = Ok (length ps)
counted (Err f) = Err (refusal_of f)

-- "To be ported: .. `count_paths`"
unfoldable pub count_paths : List ℕ → Told ℕ
count_paths s = counted (accepted s)

-- a path's "Sig atoms, Free atoms", from their parts
abbrev pub path_atoms : ℕ → ℕ → PathAtoms
path_atoms s f = record { sigs = s; frees = f }

-- a path's "Sig atoms, Free atoms", or the refusal
unfoldable pub numbered : Read Compiled → Told PathAtoms
numbered (Ok p) = Ok (path_atoms p.sigs p.frees)
numbered (Err f) = Err (refusal_of f)

-- "To be ported: .. `path_free_atoms`", of path i
unfoldable pub path_free_atoms : List ℕ → ℕ → Told PathAtoms
path_free_atoms s i = numbered (path_of i s)
