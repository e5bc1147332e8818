-- What the walkers of statements ask of an image and say of a statement or a block with which their part begins: how many paths it has and how
-- many bytes. Document 01: "A list is walked until a return (one path) or an if (..; then nothing more)."
use Rattle.std.specs.Prelude.{ℕ, ◌≡◌, List, length, Ok}
use Rattle.std.specs.Option.{unwrap_or}
use Rattle.definition.specs.Tree.{Stmt, Block, Contract}
use Rattle.definition.specs.Writing.{count, size_s, size_b}
use Rattle.definition.specs.Reading.{read}
use Rattle.definition.specs.Paths.{Path, paths_s, paths_b}
use Rattle.paths.specs.declared.One.{One}
use Rattle.paths.specs.declared.Listed.{Listed}

-- the image s was read, as a contract with n statements in its top list
pub record Accepted (s : List ℕ) (n : ℕ) : Type 0 where
  pub contract : Contract
  pub is : read s ≡ Ok contract
  pub top : n ≡ count contract.block

-- one statement, before `rest`: with how many paths its list's walk ends there, if it does
pub record IsOne (x : Stmt) (r : One) : Type 0 where
  pub paths : (at : ℕ) (rest : List Path) → length (paths_s x at rest) ≡ unwrap_or r.paths (length rest)
  pub size : r.size ≡ size_s x

-- a list of statements, wherever it stands
pub record IsList (b : Block) (r : Listed) : Type 0 where
  pub paths : (at : ℕ) → r.paths ≡ length (paths_b b at)
  pub size : r.size ≡ size_b b
