-- How many bytes a writer puts in front: as many as the sizes say.
use mathlib.Core.Path.{◌≡◌}
use mathlib.Core.List.{List, []}
use Prim.Native.Nat.{ℕ, ◌+◌}
use native.Mathlib.Omega.{arith}
use lib.ListN.{length, length-append}
use Rattle.definition.specs.Tree.{Expr, variable, number, boolean, text, logical, compare, unary, binary, hash, checksig, Stmt, ifs, ifelse, locktime, verify, ret, Block, done, next, Contract}
use Rattle.definition.specs.Writing.{put_e, put_s, put_b, write, size_e, size_s, size_b}

pub length_e : (e : Expr) (r : List ℕ) → length (put_e e r) ≡ size_e e + length r
unfolding put_e size_e
length_e (variable p) r = omega arith
length_e (number p z) r = omega arith
length_e (boolean p b) r = omega arith
length_e (text p bs) r = omega (arith, length-append bs r)
length_e (logical p o a b) r = omega (arith, length_e a (put_e b r), length_e b r)
length_e (compare p o a b) r = omega (arith, length_e a (put_e b r), length_e b r)
length_e (unary p o a) r = omega (arith, length_e a r)
length_e (binary p o a b) r = omega (arith, length_e a (put_e b r), length_e b r)
length_e (hash p o a) r = omega (arith, length_e a r)
length_e (checksig p) r = omega arith
length_e (Expr.length p a) r = omega (arith, length_e a r)

mutual
  unfolding put_s size_s

  pub length_s : (x : Stmt) (r : List ℕ) → length (put_s x r) ≡ size_s x + length r
  length_s (ifs p e a) r = omega (arith, length_e e (put_b a r), length_b a r)
  length_s (ifelse p e a b) r = omega (arith, length_e e (put_b a (put_b b r)), length_b a (put_b b r), length_b b r)
  length_s (locktime p o z) r = omega arith
  length_s (verify p e) r = omega (arith, length_e e r)
  length_s (ret p e) r = omega (arith, length_e e r)

  pub length_b : (b : Block) (r : List ℕ) → length (put_b b r) ≡ size_b b + length r
  length_b done r = omega arith
  length_b (next x b) r = omega (arith, length_s x (put_b b r), length_b b r)

-- the length of a written contract
pub length_write : (c : Contract) → length (write c) ≡ 8 + size_b c.block
unfolding write
length_write c = omega (arith, length_b c.block [])
