-- The paths of a contract (source document 000, `enumerate`). Document 01, "Paths and formulas": "A list is walked until a
-- return (one path) or an if (the if block's paths, then the else block's; then nothing more). Locktimes are skipped, verifies
-- gathered. A list that runs out gives no path."
use Rattle.std.specs.Prelude.{ℕ, ◌+◌, Bool, true, false, ◌||◌, List, [], ◌∷◌, ◌++◌, map}
use Rattle.definition.specs.declared.Location.{Location}
use Rattle.definition.specs.Tree.{Expr, Stmt, ifs, ifelse, locktime, verify, ret, Block, done, next}
use Rattle.definition.specs.Writing.{size_e, size_s, size_b}
use Rattle.definition.specs.Folding.{contains_checksig}

-- an expression on a path, its offset in the image, and its side: true where it has to hold, false "on the else side"
pub record Piece : Type 0 where
  pub at : ℕ
  pub expr : Expr
  pub side : Bool

-- a piece, from its parts
abbrev pub piece : ℕ → Expr → Bool → Piece
piece n e b = record { at = n; expr = e; side = b }

-- a path: "its conditions in order, negated on the else side, then its verifies, then its return", and the return's location
pub record Path : Type 0 where
  pub conditions : List Piece
  pub verifies : List Piece
  pub ret : Piece
  pub location : Location

-- "the if block's paths, then the else block's", each with the if's condition before its own
abbrev pub with_condition : Piece → Path → Path
with_condition x p = record { conditions = x ∷ p.conditions; verifies = p.verifies; ret = p.ret; location = p.location }

-- "verifies gathered", each before those that follow it
abbrev pub with_verify : Piece → Path → Path
with_verify x p = record { conditions = p.conditions; verifies = x ∷ p.verifies; ret = p.ret; location = p.location }

-- "A list is walked until a return (one path) or an if (the if block's paths, then the else block's; then nothing more).": the paths of a
-- block at offset `at`, and of a statement there, `rest` being those of what follows it
unfoldable mutual
  pub paths_s : Stmt → ℕ → List Path → List Path
  paths_s (ifs p e a) at rest = map (with_condition (piece (at + 20) e true)) (paths_b a (at + 20 + size_e e))
  paths_s (ifelse p e a b) at rest =
      map (with_condition (piece (at + 22) e true)) (paths_b a (at + 22 + size_e e))
      ++ map (with_condition (piece (at + 22) e false)) (paths_b b (at + 22 + size_e e + size_b a))
  paths_s (locktime p o z) at rest = rest
  paths_s (verify p e) at rest = map (with_verify (piece (at + 17) e true)) rest
  paths_s (ret p e) at rest = record { conditions = []; verifies = []; ret = piece (at + 17) e true; location = p } ∷ []

  pub paths_b : Block → ℕ → List Path
  paths_b done at = []
  paths_b (next x b) at = paths_s x at (paths_b b (at + size_s x))

-- "A path's formula joins its conditions in order, .., then its verifies, then its return."
unfoldable pub pieces : Path → List Piece
pieces p = p.conditions ++ (p.verifies ++ (p.ret ∷ []))

-- "a checksig stands anywhere on the path" (`path_has_checksig`)
unfoldable pub any_checksig : List Piece → Bool
any_checksig [] = false
any_checksig (x ∷ xs) = contains_checksig x.expr || any_checksig xs
