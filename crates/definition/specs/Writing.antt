-- Writing: a contract to its bytes, and which contracts are within the sizes. Each writer puts its bytes in front of what
-- follows them (r), so that no two lists are joined but a string's. Document 01, "The contract image": "items in prefix order:
-- one tag byte, a location (start, end, line, column, 32 bits each), then the fields."
use Rattle.std.specs.Prelude.{ℕ, suc, ◌+◌, ◌-◌, ◌^◌, ◌<◌, ◌≤◌, List, [], ◌∷◌, ◌++◌, length, ℤ, pos, negsuc}
use Rattle.definition.specs.declared.Location.{Location}
use Rattle.definition.specs.Bytes.{put16, put32, put64, bits, Bytes}
use Rattle.definition.specs.Tree.{Expr, variable, number, boolean, text, logical, compare, unary, binary, hash, checksig, Stmt, ifs, ifelse, locktime, verify, ret, Block, done, next, Contract}

-- ---- the bytes

-- "one tag byte, a location (start, end, line, column, 32 bits each)"
abbrev pub item : ℕ → Location → List ℕ → List ℕ
item t p r = t ∷ put32 p.start (put32 p.end (put32 p.line (put32 p.column r)))

-- the table of document 01, tags 16 to 26
unfoldable pub put_e : Expr → List ℕ → List ℕ
put_e (variable p) r = item 16 p r
put_e (number p z) r = item 17 p (put64 (bits z) r)
put_e (boolean p b) r = item 18 p (b ∷ r)
put_e (text p bs) r = item 19 p (put16 (length bs) (bs ++ r))
put_e (logical p o a b) r = item 20 p (o ∷ put_e a (put_e b r))
put_e (compare p o a b) r = item 21 p (o ∷ put_e a (put_e b r))
put_e (unary p o a) r = item 22 p (o ∷ put_e a r)
put_e (binary p o a b) r = item 23 p (o ∷ put_e a (put_e b r))
put_e (hash p o a) r = item 24 p (o ∷ put_e a r)
put_e (checksig p) r = item 25 p r
put_e (Expr.length p a) r = item 26 p (put_e a r)

-- "16-bit count": the statements that a block has on its own level
unfoldable pub count : Block → ℕ
count done = 0
count (next x b) = suc (count b)

-- tags 1 to 4: "else flag 0/1; 16-bit count of the if block; the same for the else block if the flag is 1; condition; blocks"
unfoldable mutual
  pub put_s : Stmt → List ℕ → List ℕ
  put_s (ifs p e a) r = item 1 p (0 ∷ put16 (count a) (put_e e (put_b a r)))
  put_s (ifelse p e a b) r = item 1 p (1 ∷ put16 (count a) (put16 (count b) (put_e e (put_b a (put_b b r)))))
  put_s (locktime p o z) r = item 2 p (o ∷ put64 (bits z) r)
  put_s (verify p e) r = item 3 p (put_e e r)
  put_s (ret p e) r = item 4 p (put_e e r)

  pub put_b : Block → List ℕ → List ℕ
  put_b done r = r
  put_b (next x b) r = put_s x (put_b b r)

-- "Head of 8 bytes: BVN, 16-bit version 1, mode (0 or 1), 16-bit count of top statements."
unfoldable pub write : Contract → List ℕ
write c = 66 ∷ 86 ∷ 78 ∷ 0 ∷ 1 ∷ c.mode ∷ put16 (count c.block) (put_b c.block [])

-- ---- how large it is

-- "32,768 bytes": those of an expression
unfoldable pub size_e : Expr → ℕ
size_e (variable p) = 17
size_e (number p z) = 25
size_e (boolean p b) = 18
size_e (text p bs) = 19 + length bs
size_e (logical p o a b) = 18 + size_e a + size_e b
size_e (compare p o a b) = 18 + size_e a + size_e b
size_e (unary p o a) = 18 + size_e a
size_e (binary p o a b) = 18 + size_e a + size_e b
size_e (hash p o a) = 18 + size_e a
size_e (checksig p) = 17
size_e (Expr.length p a) = 17 + size_e a

-- "32,768 bytes": those of a statement, and of a block
unfoldable mutual
  pub size_s : Stmt → ℕ
  size_s (ifs p e a) = 20 + size_e e + size_b a
  size_s (ifelse p e a b) = 22 + size_e e + size_b a + size_b b
  size_s (locktime p o z) = 26
  size_s (verify p e) = 17 + size_e e
  size_s (ret p e) = 17 + size_e e

  pub size_b : Block → ℕ
  size_b done = 0
  size_b (next x b) = size_s x + size_b b

-- "expression nodes" of an expression
unfoldable pub nodes_e : Expr → ℕ
nodes_e (variable p) = 1
nodes_e (number p z) = 1
nodes_e (boolean p b) = 1
nodes_e (text p bs) = 1
nodes_e (logical p o a b) = 1 + (nodes_e a + nodes_e b)
nodes_e (compare p o a b) = 1 + (nodes_e a + nodes_e b)
nodes_e (unary p o a) = 1 + nodes_e a
nodes_e (binary p o a b) = 1 + (nodes_e a + nodes_e b)
nodes_e (hash p o a) = 1 + nodes_e a
nodes_e (checksig p) = 1
nodes_e (Expr.length p a) = 1 + nodes_e a

-- "expression nodes" of a statement, and of a block
unfoldable mutual
  pub nodes_s : Stmt → ℕ
  nodes_s (ifs p e a) = nodes_e e + nodes_b a
  nodes_s (ifelse p e a b) = nodes_e e + (nodes_b a + nodes_b b)
  nodes_s (locktime p o z) = 0
  nodes_s (verify p e) = nodes_e e
  nodes_s (ret p e) = nodes_e e

  pub nodes_b : Block → ℕ
  nodes_b done = 0
  nodes_b (next x b) = nodes_s x + nodes_b b

-- "statements" of a statement, and of a block, on all levels
unfoldable mutual
  pub stmts_s : Stmt → ℕ
  stmts_s (ifs p e a) = 1 + stmts_b a
  stmts_s (ifelse p e a b) = 1 + (stmts_b a + stmts_b b)
  stmts_s (locktime p o z) = 1
  stmts_s (verify p e) = 1
  stmts_s (ret p e) = 1

  pub stmts_b : Block → ℕ
  stmts_b done = 0
  stmts_b (next x b) = stmts_s x + stmts_b b

-- ---- which contracts have an image: every number fits its field, and the sizes are kept

-- "32 bits each"
pub record FitLocation (p : Location) : Type 0 where
  pub start : p.start < 4294967296
  pub end : p.end < 4294967296
  pub line : p.line < 4294967296
  pub column : p.column < 4294967296

-- "64-bit signed"
unfoldable pub Fit64 : ℤ → Type 0
Fit64 (pos n) = n < 2 ^ 63
Fit64 (negsuc n) = n < 2 ^ 63

-- an expression of at most l levels: "a root is level 1"
unfoldable pub FitE : Expr → ℕ → Type 0
FitE (variable p) l = (1 ≤ l) × FitLocation p
FitE (number p z) l = (1 ≤ l) × FitLocation p × Fit64 z
FitE (boolean p b) l = (1 ≤ l) × FitLocation p × (b < 2)
FitE (text p bs) l = (1 ≤ l) × FitLocation p × (length bs < 65536) × Bytes bs
FitE (logical p o a b) l = (1 ≤ l) × FitLocation p × (o < 2) × FitE a (l - 1) × FitE b (l - 1)
FitE (compare p o a b) l = (1 ≤ l) × FitLocation p × (o < 8) × FitE a (l - 1) × FitE b (l - 1)
FitE (unary p o a) l = (1 ≤ l) × FitLocation p × (o < 5) × FitE a (l - 1)
FitE (binary p o a b) l = (1 ≤ l) × FitLocation p × (o < 4) × FitE a (l - 1) × FitE b (l - 1)
FitE (hash p o a) l = (1 ≤ l) × FitLocation p × (o < 2) × FitE a (l - 1)
FitE (checksig p) l = (1 ≤ l) × FitLocation p
FitE (Expr.length p a) l = (1 ≤ l) × FitLocation p × FitE a (l - 1)

-- a block of at most l levels, and a statement whose blocks have at most l: "an empty block below level 16 is read"
unfoldable mutual
  pub FitS : Stmt → ℕ → Type 0
  FitS (ifs p e a) l = FitLocation p × FitE e 32 × FitB a l
  FitS (ifelse p e a b) l = FitLocation p × FitE e 32 × FitB a l × FitB b l
  FitS (locktime p o z) l = FitLocation p × (o < 2) × Fit64 z
  FitS (verify p e) l = FitLocation p × FitE e 32
  FitS (ret p e) l = FitLocation p × FitE e 32

  pub FitB : Block → ℕ → Type 0
  FitB done l = Unit {0}
  FitB (next x b) l = (1 ≤ l) × FitS x (l - 1) × FitB b l

-- "Greatest sizes: 32,768 bytes; 512 statements; 1,024 expression nodes; expression level 32 (a root is level 1); statement level 16
-- (the top list is level 1; an empty block below level 16 is read); .."
pub record Sized (c : Contract) : Type 0 where
  pub modes : c.mode < 2
  pub fits : FitB c.block 16
  pub stmts : stmts_b c.block ≤ 512
  pub nodes : nodes_b c.block ≤ 1024
  pub bytes : 8 + size_b c.block ≤ 32768
