-- The pieces of a path of an image that was read hold all that the translation of a path asks for: they stand where their words say, and are
-- within the sizes.
use Rattle.std.specs.Prelude.{Ok}
use Prim.Native.Nat.{ℕ, zero, suc, ◌+◌, ◌≤◌, ◌<◌}
use mathlib.Core.Path.{◌≡◌, refl, sym, ap, subst, subst⁻¹, ◌∙◌}
use mathlib.Core.Bool.{true, false}
use mathlib.Core.List.{List, [], ◌∷◌, ◌++◌, map}
use native.Mathlib.Omega.{arith}
use lib.ListN.{length, get_or, take, drop, length-map, length-append, length-drop}
use lib.Seq.{sets, length-sets}
use Rattle.definition.specs.Bytes.{Bytes}
use Rattle.definition.specs.Tree.{Stmt, ifs, ifelse, locktime, verify, ret, Block, done, next, Contract}
use Rattle.definition.specs.Writing.{size_e, size_s, size_b, nodes_e, nodes_s, nodes_b, stmts_b}
use Rattle.definition.specs.Reading.{read}
use Rattle.definition.specs.Paths.{Piece, Path, piece, with_condition, with_verify, paths_s, paths_b, pieces}
use Rattle.definition.proofs.Lists.{element_at}
use Rattle.definition.proofs.Sound.{read_sound}
use Rattle.paths.specs.declared.Gathered.{Gathered}
use Rattle.paths.specs.Walking.{Accepted}
use Rattle.paths.specs.Gathering.{word, gathered, Asked}
use Rattle.paths.proofs.Lists.{front}
use Rattle.paths.proofs.Pieces.{All, all_map, all_append, Small, small_b}
use Rattle.paths.proofs.Whole.{wanted_is}
use Rattle.paths.proofs.Standing.{pieces_stand}
use Rattle.formula.specs.Areas.{nodes_p, Pieced, PathHolds}

-- ---- the nodes of every path of a block, at most the block's
record Light (k : ℕ) (p : Path) : Type 0 where
  nodes : nodes_p p.conditions + nodes_p p.verifies + nodes_e p.ret.expr ≤ k

-- with one piece more
module _ (k k' : ℕ) (x : Piece) (l : List Path) (h : nodes_e x.expr + k ≤ k') (a : All (Light k) l) where
  with_condition_lem : All (Light k') (map (with_condition x) l)
  unfolding nodes_p
  with_condition_lem = all_map (Light k) (Light k') (with_condition x) l (λ p b. record { nodes = omega (arith, b.nodes) }) a

  with_verify_lem : All (Light k') (map (with_verify x) l)
  unfolding nodes_p
  with_verify_lem = all_map (Light k) (Light k') (with_verify x) l (λ p b. record { nodes = omega (arith, b.nodes) }) a

mutual
  unfolding nodes_s paths_s nodes_p All

  light_s : (x : Stmt) (at : ℕ) (rest : List Path) (k : ℕ) → All (Light k) rest → All (Light (nodes_s x + k)) (paths_s x at rest)
  light_s (ifs p e a) at rest k h = with_condition_lem (nodes_b a) (nodes_e e + nodes_b a + k) (piece (at + 20) e true) (paths_b a (at + 20 + size_e e)) (omega arith) (light_b a (at + 20 + size_e e))
  light_s (ifelse p e a b) at rest k h =
      let yes = paths_b a (at + 22 + size_e e) in
      let no = paths_b b (at + 22 + size_e e + size_b a) in
      let most = nodes_e e + (nodes_b a + nodes_b b) + k in
      all_append (Light most) (map (with_condition (piece (at + 22) e true)) yes) (map (with_condition (piece (at + 22) e false)) no)
      (with_condition_lem (nodes_b a) most (piece (at + 22) e true) yes (omega arith) (light_b a (at + 22 + size_e e)))
      (with_condition_lem (nodes_b b) most (piece (at + 22) e false) no (omega arith) (light_b b (at + 22 + size_e e + size_b a)))
  light_s (locktime p o z) at rest k h = λ n d l. record { nodes = omega (arith, (h n d l).nodes) }
  light_s (verify p e) at rest k h = with_verify_lem k (nodes_e e + k) (piece (at + 17) e true) rest (omega arith) h
  light_s (ret p e) at rest k h = λ n d l. one n d l
    where
      one : (n : ℕ) (d : Path) → n < 1 → Light (nodes_e e + k) (get_or (record { conditions = []; verifies = []; ret = piece (at + 17) e true; location = p } ∷ []) n d)
      one zero d l = record { nodes = omega arith }
      one (suc n) d l = absurd (omega arith)

  light_b : (b : Block) (at : ℕ) → All (Light (nodes_b b)) (paths_b b at)
  light_b done at = λ n d l. absurd (omega arith)
  light_b (next x b) at = light_s x at (paths_b b (at + size_s x)) (nodes_b b) (light_b b (at + size_s x))

-- ---- the pieces of a path, counted
nodes_append : (xs ys : List Piece) → nodes_p (xs ++ ys) ≡ nodes_p xs + nodes_p ys
unfolding nodes_p
nodes_append [] ys = omega arith
nodes_append (x ∷ xs) ys = omega (arith, nodes_append xs ys)

nodes_are : (p : Path) → nodes_p (pieces p) ≡ nodes_p p.conditions + nodes_p p.verifies + nodes_e p.ret.expr
unfolding pieces nodes_p
nodes_are p = omega (arith, nodes_append p.conditions (p.verifies ++ (p.ret ∷ [])), nodes_append p.verifies (p.ret ∷ []))

many_are : (p : Path) → length (pieces p) ≡ length p.conditions + length p.verifies + 1
unfolding pieces
many_are p = omega (arith, length-append p.conditions (p.verifies ++ (p.ret ∷ [])), length-append p.verifies (p.ret ∷ []))

-- ---- a path of an image that was read
pub path_holds : (s : List ℕ) (n : ℕ) → Bytes s → Accepted s n → (c : Contract) → read s ≡ Ok c → (wanted : ℕ) (p : Path) (ps : List Path) → drop wanted (paths_b c.block 8) ≡ p ∷ ps → PathHolds s (map word (pieces p))
unfolding All
path_holds s n w a c e wanted p ps d =
    let z = (read_sound s c w e).sized in
    let all = paths_b c.block 8 in
    let here : get_or all wanted p ≡ p = wanted_is all wanted p ps p d in
    let below : wanted < length all = omega (arith, length-drop wanted all, ap length d) in
    let few : Small (stmts_b c.block) (8 + size_b c.block) p = subst (Small (stmts_b c.block) (8 + size_b c.block)) here (small_b c.block 8 wanted p below) in
    let light : Light (nodes_b c.block) p = subst (Light (nodes_b c.block)) here (light_b c.block 8 wanted p below) in
    record {
      pieces = pieces p;
      are = record { words = refl; stand = pieces_stand s n w a c e wanted p ps d };
      many = omega (arith, many_are p, few.many, z.stmts);
      nodes = omega (arith, nodes_are p, light.nodes, z.nodes);
    }

-- ---- the same of the words that `enumerate` left at the front of an area
module _ (s : List ℕ) (n wanted : ℕ) (w : Bytes s) (g : Asked s n wanted) (r : Gathered) (area area' : List ℕ) (full : length area ≡ 512)
    (told : (c : Contract) → read s ≡ Ok c → (p : Path) (ps : List Path) → drop wanted (paths_b c.block 8) ≡ p ∷ ps → (r ≡ gathered p) × (area' ≡ sets area 0 (map word (pieces p)))) where
  -- they are those of the path's pieces, and no more than there is room for
  module _ (c : Contract) (e : read s ≡ Ok c) (p : Path) (ps : List Path) (d : drop wanted (paths_b c.block 8) ≡ p ∷ ps) where
    fits : length (map word (pieces p)) ≤ 512
    fits = let h = path_holds s n w g.given c e wanted p ps d in omega (arith, ap length h.are.words, length-map h.pieces word, h.many)

    many : r.pieces ≡ length (map word (pieces p))
    unfolding gathered
    many = ap (λ (x : Gathered). x.pieces) (told c e p ps d).0 ∙ sym (length-map (pieces p) word)

    pub enumerated_pieced : Pieced s (take r.pieces area') (pieces p)
    enumerated_pieced =
        record {
          words = rw (many, (told c e p ps d).1) (front area (map word (pieces p)) (omega (arith, fits, full)));
          stand = pieces_stand s n w g.given c e wanted p ps d;
        }

  -- whichever path it is
  module _ (c : Contract) (e : read s ≡ Ok c) (f : (p : Path) × (ps : List Path) × (drop wanted (paths_b c.block 8) ≡ p ∷ ps)) where
    found_fits : r.pieces ≤ length area'
    found_fits =
        let long : length area' ≡ length area = ap length (told c e f.0 f.1 f.2).1 ∙ length-sets area 0 (map word (pieces f.0)) in
        omega (arith, many c e f.0 f.1 f.2, fits c e f.0 f.1 f.2, long, full)

    found_holds : PathHolds s (take r.pieces area')
    found_holds = subst⁻¹ (PathHolds s) (enumerated_pieced c e f.0 f.1 f.2).words (path_holds s n w g.given c e wanted f.0 f.1 f.2)

  pub enumerated_fits : r.pieces ≤ length area'
  enumerated_fits = found_fits g.given.contract g.given.is (element_at (paths_b g.given.contract.block 8) wanted g.below)

  pub enumerated_holds : PathHolds s (take r.pieces area')
  enumerated_holds = found_holds g.given.contract g.given.is (element_at (paths_b g.given.contract.block 8) wanted g.below)
