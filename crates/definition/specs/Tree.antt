-- The contract as a tree: source document 001 (ast.rs), as far as document 01 carries it. Every item keeps its location, no
-- item keeps an offset. A flag, a boolean or an op is its number in the image. A block keeps what follows a return or an if.
use Rattle.std.specs.Prelude.{ℕ, List, ℤ}
use Rattle.definition.specs.declared.Location.{Location}

-- tags 16 to 26 of document 01's table, in its order
pub data Expr : Type 0 where
  variable : Location → Expr
  number : Location → ℤ → Expr
  boolean : Location → ℕ → Expr
  text : Location → List ℕ → Expr
  logical : Location → ℕ → Expr → Expr → Expr
  compare : Location → ℕ → Expr → Expr → Expr
  unary : Location → ℕ → Expr → Expr
  binary : Location → ℕ → Expr → Expr → Expr
  hash : Location → ℕ → Expr → Expr
  checksig : Location → Expr
  length : Location → Expr → Expr

-- tags 1 to 4 of document 01's table: an if without an else and one with it, locktime, verify, return; and a list of statements
mutual
  pub data Stmt : Type 0 where
    ifs : Location → Expr → Block → Stmt
    ifelse : Location → Expr → Block → Block → Stmt
    locktime : Location → ℕ → ℤ → Stmt
    verify : Location → Expr → Stmt
    ret : Location → Expr → Stmt

  pub data Block : Type 0 where
    done : Block
    next : Stmt → Block → Block

-- "mode (0 or 1)", and the top list
pub record Contract : Type 0 where
  pub mode : ℕ
  pub block : Block
