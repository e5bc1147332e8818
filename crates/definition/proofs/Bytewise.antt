-- What is written is a list of bytes: the image of a contract within the sizes, and the checkpoint of a place that fits it.
use Rattle.std.specs.Prelude.{Ok}
use mathlib.Core.Path.{◌≡◌}
use mathlib.Core.Bool.{true}
use mathlib.Core.List.{List, [], ◌∷◌, ◌++◌}
use Prim.Native.Nat.{ℕ, zero, suc, ◌-◌, ◌<◌, ◌≤◌}
use native.Mathlib.Omega.{arith}
use lib.IntN.{ℤ, pos, negsuc}
use Rattle.definition.specs.declared.Location.{Location}
use Rattle.definition.specs.declared.Place.{Place}
use Rattle.definition.specs.Bytes.{Bytes, put16, put32, put64, bits}
use Rattle.definition.specs.Tree.{Expr, variable, number, boolean, text, logical, compare, unary, binary, hash, checksig, Stmt, ifs, ifelse, locktime, verify, ret, Block, done, next, Contract}
use Rattle.definition.specs.Writing.{item, put_e, count, put_s, put_b, write, stmts_s, stmts_b, FitLocation, Fit64, FitE, FitS, FitB, Sized}
use Rattle.definition.specs.Accepted.{Compiled, accepted}
use Rattle.definition.specs.Verdict.{the_bounds}
use Rattle.definition.specs.Place.{fits}
use Rattle.definition.specs.Checkpoint.{checkpoint}
use Rattle.definition.proofs.Fitting.{true_fits, fits_phase, fits_path, fits_mask}
use Rattle.definition.proofs.Acceptance.{accepted_few, accepted_count}

-- ---- bytes in front of bytes

none : Bytes []
unfolding Bytes
none i = omega arith

one : (b : ℕ) (r : List ℕ) → b < 256 → Bytes r → Bytes (b ∷ r)
unfolding Bytes
one b r h w zero = h
one b r h w (suc i) = w i

several : (bs r : List ℕ) → Bytes bs → Bytes r → Bytes (bs ++ r)
unfolding Bytes
several [] r v w i = w i
several (b ∷ bs) r v w zero = v 0
several (b ∷ bs) r v w (suc i) = several bs r (λ j. v (suc j)) w i

bytes16 : (n : ℕ) (r : List ℕ) → n < 65536 → Bytes r → Bytes (put16 n r)
bytes16 n r h w = one _ _ (omega arith) (one _ r (omega arith) w)

bytes32 : (n : ℕ) (r : List ℕ) → n < 4294967296 → Bytes r → Bytes (put32 n r)
bytes32 n r h w = bytes16 _ _ (omega arith) (bytes16 _ r (omega arith) w)

bytes64 : (z : ℤ) (r : List ℕ) → Fit64 z → Bytes r → Bytes (put64 (bits z) r)
unfolding Fit64 bits
bytes64 (pos n) r h w = bytes32 _ _ (omega arith) (bytes32 _ r (omega arith) w)
bytes64 (negsuc n) r h w = bytes32 _ _ (omega arith) (bytes32 _ r (omega arith) w)

tagged : (t : ℕ) (p : Location) (r : List ℕ) → t < 256 → FitLocation p → Bytes r → Bytes (item t p r)
tagged t p r h f w = one t _ h (bytes32 _ _ f.start (bytes32 _ _ f.end (bytes32 _ _ f.line (bytes32 _ r f.column w))))

-- ---- images

bytes_e : (e : Expr) (l : ℕ) (r : List ℕ) → FitE e l → Bytes r → Bytes (put_e e r)
unfolding put_e FitE
bytes_e (variable p) l r f w = tagged 16 p r (omega arith) f.1 w
bytes_e (number p z) l r f w = tagged 17 p _ (omega arith) f.1 (bytes64 z r f.2 w)
bytes_e (boolean p b) l r f w = tagged 18 p _ (omega arith) f.1 (one b r (omega (arith, f.2)) w)
bytes_e (text p bs) l r f w = tagged 19 p _ (omega arith) f.1 (bytes16 _ _ f.2 (several bs r f.3 w))
bytes_e (logical p o a b) l r f w = tagged 20 p _ (omega arith) f.1 (one o _ (omega (arith, f.2)) (bytes_e a (l - 1) _ f.3 (bytes_e b (l - 1) r f.4 w)))
bytes_e (compare p o a b) l r f w = tagged 21 p _ (omega arith) f.1 (one o _ (omega (arith, f.2)) (bytes_e a (l - 1) _ f.3 (bytes_e b (l - 1) r f.4 w)))
bytes_e (unary p o a) l r f w = tagged 22 p _ (omega arith) f.1 (one o _ (omega (arith, f.2)) (bytes_e a (l - 1) r f.3 w))
bytes_e (binary p o a b) l r f w = tagged 23 p _ (omega arith) f.1 (one o _ (omega (arith, f.2)) (bytes_e a (l - 1) _ f.3 (bytes_e b (l - 1) r f.4 w)))
bytes_e (hash p o a) l r f w = tagged 24 p _ (omega arith) f.1 (one o _ (omega (arith, f.2)) (bytes_e a (l - 1) r f.3 w))
bytes_e (checksig p) l r f w = tagged 25 p r (omega arith) f.1 w
bytes_e (Expr.length p a) l r f w = tagged 26 p _ (omega arith) f.1 (bytes_e a (l - 1) r f.2 w)

some : (x : Stmt) → 1 ≤ stmts_s x
unfolding stmts_s
some (ifs p e a) = omega arith
some (ifelse p e a b) = omega arith
some (locktime p o z) = omega arith
some (verify p e) = omega arith
some (ret p e) = omega arith

-- a list's own count is at most that of all its statements
count_le : (b : Block) → count b ≤ stmts_b b
unfolding count stmts_b
count_le done = omega arith
count_le (next x b) = omega (arith, count_le b, some x)

mutual
  unfolding put_s FitS stmts_s

  bytes_s : (x : Stmt) (l : ℕ) (r : List ℕ) → FitS x l → stmts_s x < 65536 → Bytes r → Bytes (put_s x r)
  bytes_s (ifs p e a) l r f n w = tagged 1 p _ (omega arith) f.0 (one 0 _ (omega arith) (bytes16 _ _ (omega (arith, count_le a)) (bytes_e e 32 _ f.1 (bytes_b a l r f.2 (omega arith) w))))
  bytes_s (ifelse p e a b) l r f n w = tagged 1 p _ (omega arith) f.0 (one 1 _ (omega arith) (bytes16 _ _ (omega (arith, count_le a)) (bytes16 _ _ (omega (arith, count_le b)) (bytes_e e 32 _ f.1 (bytes_b a l _ f.2 (omega arith) (bytes_b b l r f.3 (omega arith) w))))))
  bytes_s (locktime p o z) l r f n w = tagged 2 p _ (omega arith) f.0 (one o _ (omega (arith, f.1)) (bytes64 z r f.2 w))
  bytes_s (verify p e) l r f n w = tagged 3 p _ (omega arith) f.0 (bytes_e e 32 r f.1 w)
  bytes_s (ret p e) l r f n w = tagged 4 p _ (omega arith) f.0 (bytes_e e 32 r f.1 w)

  bytes_b : (b : Block) (l : ℕ) (r : List ℕ) → FitB b l → stmts_b b < 65536 → Bytes r → Bytes (put_b b r)
  bytes_b done l r f n w = w
  bytes_b (next x b) l r f n w = bytes_s x (l - 1) _ f.1 (omega arith) (bytes_b b l r f.2 (omega arith) w)

-- the image of a contract within the sizes is a list of bytes
pub bytes_write : (c : Contract) → Sized c → Bytes (write c)
unfolding write
bytes_write c z =
    one 66 _ (omega arith) (one 86 _ (omega arith) (one 78 _ (omega arith) (one 0 _ (omega arith) (one 1 _ (omega arith) (one c.mode _ (omega (arith, z.modes))
    (bytes16 _ _ (omega (arith, z.stmts, count_le c.block)) (bytes_b c.block 16 [] z.fits (omega (arith, z.stmts)) none)))))))

-- ---- checkpoints

-- the checkpoint of an accepted image at a place that fits it is a list of bytes: no field is cut
pub bytes_checkpoint : (image : List ℕ) (cs : List Compiled) (p : Place) → Bytes image → accepted image ≡ Ok cs → fits the_bounds cs p ≡ true → Bytes (checkpoint p image)
unfolding checkpoint
bytes_checkpoint image cs p w e h =
    let f = true_fits the_bounds cs p h in
    one 66 _ (omega arith) (one 86 _ (omega arith) (one 67 _ (omega arith) (one 0 _ (omega arith) (one 1 _ (omega arith) (one p.phase _ (omega (arith, fits_phase the_bounds cs p f))
    (bytes16 _ _ (omega (arith, fits_path the_bounds cs p f, accepted_few image cs e)) (bytes32 _ _ (omega (arith, fits_mask the_bounds cs p f)) (bytes32 _ image (omega (arith, accepted_count image cs e p h)) w))))))))
