-- What bytes begin with. The code that walks an image makes no tree: what it is handed is a part of the image, and what it promises
-- speaks of the tree with which that part begins. Document 01: "an expression is handed on as a part of the image that starts in its
-- middle".
use Rattle.std.specs.Prelude.{ℕ, ◌≡◌, List}
use Rattle.definition.specs.Tree.{Expr, Stmt, Block}
use Rattle.definition.specs.Writing.{put_e, put_s, put_b, count, FitE, FitS, FitB}

-- the bytes s begin with the expression e: its bytes, then others ("an expression is handed on as a part of the image"; its levels are
-- nobody's business)
pub record Begins (e : Expr) (s : List ℕ) : Type 0 where
  pub rest : List ℕ
  pub bytes : s ≡ put_e e rest
  pub level : ℕ
  pub fits : FitE e level

-- the bytes s begin with the statement x, whose blocks have at most l levels ("the statement level left falls")
pub record BeginsS (x : Stmt) (l : ℕ) (s : List ℕ) : Type 0 where
  pub rest : List ℕ
  pub bytes : s ≡ put_s x rest
  pub fits : FitS x l

-- the bytes s begin with the block b, of n statements and at most l levels ("Walking a statement list")
pub record BeginsB (b : Block) (n l : ℕ) (s : List ℕ) : Type 0 where
  pub rest : List ℕ
  pub bytes : s ≡ put_b b rest
  pub counted : n ≡ count b
  pub fits : FitB b l

-- there is such an expression, such a statement, such a block (no sentence of their own)
pub record Holds (s : List ℕ) : Type 0 where
  pub expr : Expr
  pub begins : Begins expr s

pub record HoldsS (s : List ℕ) (l : ℕ) : Type 0 where
  pub stmt : Stmt
  pub begins : BeginsS stmt l s

pub record HoldsB (s : List ℕ) (n l : ℕ) : Type 0 where
  pub block : Block
  pub begins : BeginsB block n l s
