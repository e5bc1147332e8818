-- At the offset of each piece of each path its expression stands: what a walker of expressions asks of a part of the image that begins
-- at a piece.
use Rattle.std.specs.Prelude.{Ok}
use Prim.Native.Nat.{ℕ, zero, suc, ◌+◌, ◌-◌, ◌<◌}
use mathlib.Core.Path.{◌≡◌, refl, ap, subst}
use mathlib.Core.Bool.{true, false}
use mathlib.Core.List.{List, [], ◌∷◌, ◌++◌, map}
use native.Mathlib.Omega.{arith}
use lib.ListN.{length, get_or, drop, length-drop}
use Rattle.definition.specs.Bytes.{Bytes}
use Rattle.definition.specs.Tree.{Stmt, ifs, ifelse, locktime, verify, ret, Block, done, next, Contract}
use Rattle.definition.specs.Writing.{put_e, put_s, put_b, size_e, size_s, size_b, FitS, FitB}
use Rattle.definition.specs.Begins.{Begins, BeginsS}
use Rattle.definition.specs.Reading.{read}
use Rattle.definition.specs.Paths.{Piece, Path, piece, with_condition, with_verify, paths_s, paths_b, pieces}
use Rattle.definition.proofs.Numbers.{skip}
use Rattle.definition.proofs.BackE.{sized_e}
use Rattle.definition.proofs.BackS.{sized_s, sized_b}
use Rattle.paths.specs.Walking.{Accepted}
use Rattle.paths.specs.Gathering.{Stands, Each}
use Rattle.paths.proofs.Pieces.{All, all_map, all_append}
use Rattle.paths.proofs.Whole.{top_begins, wanted_is}

each_append : (s : List ℕ) (xs ys : List Piece) → Each s xs → Each s ys → Each s (xs ++ ys)
unfolding Each
each_append s [] ys a b = b
each_append s (x ∷ xs) ys a b = (a.0, each_append s xs ys a.1 b)

pub record Standing (s : List ℕ) (p : Path) : Type 0 where
  pub conditions : Each s p.conditions
  pub verifies : Each s p.verifies
  pub ret : Stands s p.ret

-- with one piece more in front
module _ (s : List ℕ) (x : Piece) (h : Stands s x) where
  with_condition_lem : (l : List Path) → All (Standing s) l → All (Standing s) (map (with_condition x) l)
  unfolding Each
  with_condition_lem l = all_map (Standing s) (Standing s) (with_condition x) l (λ p a. record { conditions = (h, a.conditions); verifies = a.verifies; ret = a.ret })

  with_verify_lem : (l : List Path) → All (Standing s) l → All (Standing s) (map (with_verify x) l)
  unfolding Each
  with_verify_lem l = all_map (Standing s) (Standing s) (with_verify x) l (λ p a. record { conditions = a.conditions; verifies = (h, a.verifies); ret = a.ret })

mutual
  unfolding put_s FitS paths_s All Stands Each

  stand_s : (x : Stmt) (l at : ℕ) (s : List ℕ) (rest : List Path) → BeginsS x l (drop at s) → All (Standing s) rest → All (Standing s) (paths_s x at rest)
  stand_s (ifs p e a) l at s rest h k =
      let c : drop (at + 20) s ≡ put_e e (put_b a h.rest) = skip s at 20 h.bytes refl in
      let y : drop (at + 20 + size_e e) s ≡ put_b a h.rest = skip s (at + 20) (size_e e) c (sized_e e (put_b a h.rest)) in
      with_condition_lem s (piece (at + 20) e true) (record { rest = put_b a h.rest; bytes = c; level = 32; fits = h.fits.1 }) (paths_b a (at + 20 + size_e e))
      (stand_b a l (at + 20 + size_e e) s h.rest y h.fits.2)
  stand_s (ifelse p e a b) l at s rest h k =
      let c : drop (at + 22) s ≡ put_e e (put_b a (put_b b h.rest)) = skip s at 22 h.bytes refl in
      let y : drop (at + 22 + size_e e) s ≡ put_b a (put_b b h.rest) = skip s (at + 22) (size_e e) c (sized_e e (put_b a (put_b b h.rest))) in
      let n : drop (at + 22 + size_e e + size_b a) s ≡ put_b b h.rest = skip s (at + 22 + size_e e) (size_b a) y (sized_b a (put_b b h.rest)) in
      let f : Begins e (drop (at + 22) s) = record { rest = put_b a (put_b b h.rest); bytes = c; level = 32; fits = h.fits.1 } in
      all_append (Standing s) (map (with_condition (piece (at + 22) e true)) (paths_b a (at + 22 + size_e e))) (map (with_condition (piece (at + 22) e false)) (paths_b b (at + 22 + size_e e + size_b a)))
      (with_condition_lem s (piece (at + 22) e true) f (paths_b a (at + 22 + size_e e)) (stand_b a l (at + 22 + size_e e) s (put_b b h.rest) y h.fits.2))
      (with_condition_lem s (piece (at + 22) e false) f (paths_b b (at + 22 + size_e e + size_b a)) (stand_b b l (at + 22 + size_e e + size_b a) s h.rest n h.fits.3))
  stand_s (locktime p o z) l at s rest h k = k
  stand_s (verify p e) l at s rest h k = with_verify_lem s (piece (at + 17) e true) (record { rest = h.rest; bytes = skip s at 17 h.bytes refl; level = 32; fits = h.fits.1 }) rest k
  stand_s (ret p e) l at s rest h k = λ n d m. one n d m
    where
      one : (n : ℕ) (d : Path) → n < 1 → Standing s (get_or (record { conditions = []; verifies = []; ret = piece (at + 17) e true; location = p } ∷ []) n d)
      one zero d m = record { conditions = tt; verifies = tt; ret = record { rest = h.rest; bytes = skip s at 17 h.bytes refl; level = 32; fits = h.fits.1 } }
      one (suc n) d m = absurd (omega arith)

  stand_b : (b : Block) (l at : ℕ) (s r : List ℕ) → drop at s ≡ put_b b r → FitB b l → All (Standing s) (paths_b b at)
  stand_b done l at s r e f = λ n d m. absurd (omega arith)
  stand_b (next x b) l at s r e f =
      stand_s x (l - 1) at s (paths_b b (at + size_s x)) (record { rest = put_b b r; bytes = e; fits = f.1 })
      (stand_b b l (at + size_s x) s r (skip s at (size_s x) e (sized_s x (put_b b r))) f.2)

-- every piece of a path of an image that was read
pub pieces_stand : (s : List ℕ) (n : ℕ) → Bytes s → Accepted s n → (c : Contract) → read s ≡ Ok c → (wanted : ℕ) (p : Path) (ps : List Path) → drop wanted (paths_b c.block 8) ≡ p ∷ ps → Each s (pieces p)
unfolding pieces Each All
pieces_stand s n w a c e wanted p ps d =
    let t = top_begins s n w a c e in
    let k : Standing s p = subst (Standing s) (wanted_is (paths_b c.block 8) wanted p ps p d) (stand_b c.block 16 8 s t.rest t.bytes t.fits wanted p (omega (arith, length-drop wanted (paths_b c.block 8), ap length d))) in
    each_append s p.conditions (p.verifies ++ (p.ret ∷ [])) k.conditions (each_append s p.verifies (p.ret ∷ []) k.verifies (k.ret, tt))
