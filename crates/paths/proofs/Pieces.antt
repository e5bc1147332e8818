-- What is known of every path of a block: it has no more pieces than the block has statements, and its return stands within the block
-- and has to hold. And what is left in an area to which its conditions, its verifies and its return are written.
use Prim.Native.Nat.{ℕ, zero, suc, ◌+◌, ◌≤◌, ◌<◌}
use mathlib.Core.Path.{◌≡◌, refl, sym, ap, subst, ◌∙◌}
use mathlib.Core.Bool.{true, false}
use mathlib.Core.List.{List, [], ◌∷◌, ◌++◌, map, map-append, append_assoc}
use native.Mathlib.Omega.{arith}
use lib.ListN.{length, get_or, set, length-map, length-append}
use lib.Seq.{sets}
use Rattle.definition.specs.Tree.{Stmt, ifs, ifelse, locktime, verify, ret, Block, done, next}
use Rattle.definition.specs.Writing.{size_e, size_s, size_b, stmts_s, stmts_b}
use Rattle.definition.specs.Paths.{Piece, Path, piece, with_condition, with_verify, paths_s, paths_b, pieces}
use Rattle.folding.proofs.View.{size_least}
use Rattle.paths.specs.declared.Ended.{Ended}
use Rattle.paths.specs.declared.Gathered.{Gathered}
use Rattle.paths.specs.declared.Trail.{Trail}
use Rattle.paths.specs.Gathering.{word, gathered, Adds}
use Rattle.paths.proofs.Lists.{sets_append, get_d_map}

-- ---- every path of a list
pub record Small (k z : ℕ) (p : Path) : Type 0 where
  pub many : length p.conditions + length p.verifies + 1 ≤ k
  pub within : p.ret.at < z
  pub side : p.ret.side ≡ true

unfoldable pub All : (Path → Type 0) → List Path → Type 0
All P l = (n : ℕ) (d : Path) → n < length l → P (get_or l n d)

pub all_map : (P Q : Path → Type 0) (f : Path → Path) (l : List Path) → ((p : Path) → P p → Q (f p)) → All P l → All Q (map f l)
unfolding All
all_map P Q f l g a n d h = let h' : n < length l = omega (arith, length-map l f) in subst Q (sym (get_d_map f l n d d h')) (g (get_or l n d) (a n d h'))

pub all_append : (P : Path → Type 0) (l m : List Path) → All P l → All P m → All P (l ++ m)
unfolding All
all_append P [] m a b n d h = b n d h
all_append P (x ∷ l) m a b zero d h = a zero d (omega arith)
all_append P (x ∷ l) m a b (suc n) d h = all_append P l m (λ i e k. a (suc i) e (omega arith)) b n d (omega arith)

-- the paths of a block of an if, with its condition
within_block : (k k' z z' : ℕ) (x : Piece) (l : List Path) → k + 1 ≤ k' → z ≤ z' → All (Small k z) l → All (Small k' z') (map (with_condition x) l)
within_block k k' z z' x l h g = all_map (Small k z) (Small k' z') (with_condition x) l (λ p a. record { many = omega (arith, a.many); within = omega (arith, a.within); side = a.side })

more_verify : (k z : ℕ) (x : Piece) (p : Path) → Small k z p → Small (1 + k) z (with_verify x p)
more_verify k z x p a = record { many = omega (arith, a.many); within = a.within; side = a.side }

mutual
  unfolding stmts_s size_s paths_s All

  small_s : (x : Stmt) (at : ℕ) (rest : List Path) (k m : ℕ) → All (Small k (at + size_s x + m)) rest → All (Small (stmts_s x + k) (at + size_s x + m)) (paths_s x at rest)
  small_s (ifs p e a) at rest k m h = within_block (stmts_b a) (1 + stmts_b a + k) (at + 20 + size_e e + size_b a) (at + (20 + size_e e + size_b a) + m) (piece (at + 20) e true) (paths_b a (at + 20 + size_e e)) (omega arith) (omega arith) (small_b a (at + 20 + size_e e))
  small_s (ifelse p e a b) at rest k m h = all_append (Small (1 + (stmts_b a + stmts_b b) + k) (at + (22 + size_e e + size_b a + size_b b) + m)) (map (with_condition (piece (at + 22) e true)) (paths_b a (at + 22 + size_e e))) (map (with_condition (piece (at + 22) e false)) (paths_b b (at + 22 + size_e e + size_b a)))
      (within_block (stmts_b a) (1 + (stmts_b a + stmts_b b) + k) (at + 22 + size_e e + size_b a) (at + (22 + size_e e + size_b a + size_b b) + m) (piece (at + 22) e true) (paths_b a (at + 22 + size_e e)) (omega arith) (omega arith) (small_b a (at + 22 + size_e e)))
      (within_block (stmts_b b) (1 + (stmts_b a + stmts_b b) + k) (at + 22 + size_e e + size_b a + size_b b) (at + (22 + size_e e + size_b a + size_b b) + m) (piece (at + 22) e false) (paths_b b (at + 22 + size_e e + size_b a)) (omega arith) (omega arith) (small_b b (at + 22 + size_e e + size_b a)))
  small_s (locktime p o z) at rest k m h = λ n d l. let a = h n d l in record { many = omega (arith, a.many); within = a.within; side = a.side }
  small_s (verify p e) at rest k m h = all_map (Small k (at + (17 + size_e e) + m)) (Small (1 + k) (at + (17 + size_e e) + m)) (with_verify (piece (at + 17) e true)) rest (more_verify k (at + (17 + size_e e) + m) (piece (at + 17) e true)) h
  small_s (ret p e) at rest k m h = λ n d l. one n d l
    where
      one : (n : ℕ) (d : Path) → n < 1 → Small (1 + k) (at + (17 + size_e e) + m) (get_or (record { conditions = []; verifies = []; ret = piece (at + 17) e true; location = p } ∷ []) n d)
      one zero d l = record { many = omega arith; within = omega (arith, size_least e); side = refl }
      one (suc n) d l = absurd (omega arith)

  pub small_b : (b : Block) (at : ℕ) → All (Small (stmts_b b) (at + size_b b)) (paths_b b at)
  small_b done at = λ n d l. absurd (omega arith)
  small_b (next x b) at =
      let e : at + size_s x + size_b b ≡ at + (size_s x + size_b b) = omega arith in
      subst (λ (z : ℕ). All (Small (stmts_s x + stmts_b b) z) (paths_s x at (paths_b b (at + size_s x)))) e (small_s x at (paths_b b (at + size_s x)) (stmts_b b) (size_b b) (small_b b (at + size_s x)))

-- ---- the whole path in an area
module _ (p : Path) (r : Ended) (t t' : Trail) (a : Adds t p r t') (no_condition : t.conditions.items ≡ []) (no_verify : t.verifies.items ≡ []) where
  pub conditions_are : t'.conditions.items ≡ map word p.conditions
  conditions_are = a.conditions ∙ ap (λ (l : List ℕ). l ++ map word p.conditions) no_condition

  pub verifies_are : t'.verifies.items ≡ map word p.verifies
  verifies_are = a.verifies ∙ ap (λ (l : List ℕ). l ++ map word p.verifies) no_verify

  pub many : length t'.conditions.items + length t'.verifies.items ≡ length p.conditions + length p.verifies
  many = omega (arith, ap length conditions_are, ap length verifies_are, length-map p.conditions word, length-map p.verifies word)

  pub ret_is : r.ret ≡ p.ret.at
  ret_is = ap (λ (z : Ended). z.ret) a.ended

  -- the conditions, the verifies behind them, the return behind those
  pub all_words : (l : List ℕ) (w : ℕ) → w ≡ word p.ret → set (sets (sets l 0 t'.conditions.items) (length t'.conditions.items) t'.verifies.items) (length t'.conditions.items + length t'.verifies.items) w ≡ sets l 0 (map word (pieces p))
  unfolding pieces
  all_words l w q =
      let cs = t'.conditions.items in
      let vs = t'.verifies.items in
      let n : length cs + length vs ≡ 0 + length (cs ++ vs) = omega (arith, length-append cs vs) in
      let z : length cs ≡ 0 + length cs = omega arith in
      let behind : sets (sets l 0 cs) (length cs) vs ≡ sets l 0 (cs ++ vs) = ap (λ (k : ℕ). sets (sets l 0 cs) k vs) z ∙ sets_append l 0 cs vs in
      let words : map word (pieces p) ≡ (cs ++ vs) ++ (w ∷ []) = rw (q, conditions_are, verifies_are, map-append word p.conditions (p.verifies ++ (p.ret ∷ [])), map-append word p.verifies (p.ret ∷ [])) (sym (append_assoc (map word p.conditions) (map word p.verifies) (word p.ret ∷ []))) in
      rw (words, behind, n) (sets_append l 0 (cs ++ vs) (w ∷ []))

  pub gathered_is : (n : ℕ) → n ≡ length t'.conditions.items + length t'.verifies.items + 1 → ◌≡◌ {A = Gathered} (record { pieces = n; location = r.location }) (gathered p)
  unfolding gathered pieces
  gathered_is n e =
      let m : n ≡ length (p.conditions ++ (p.verifies ++ (p.ret ∷ []))) = omega (arith, e, many, length-append p.conditions (p.verifies ++ (p.ret ∷ [])), length-append p.verifies (p.ret ∷ [])) in
      rw (m, ap (λ (z : Ended). z.location) a.ended) refl
