-- Statements, and blocks of them, that were written are read back, with their counts and sizes.
use Rattle.std.specs.Prelude.{Ok}
use mathlib.Core.Path.{◌≡◌, refl, ap, ◌∙◌}
use mathlib.Core.List.{List, ◌∷◌}
use Prim.Native.Nat.{ℕ, suc, ◌+◌, ◌-◌, ◌<◌, ◌≤◌}
use native.Mathlib.Omega.{arith}
use lib.ListN.{length, get_or, drop}
use lib.IntN.{ℤ}
use borrow.Author.Tests.{le-ltb}
use Rattle.definition.specs.declared.Location.{Location}
use Rattle.definition.specs.declared.Kind.TheVariants.{OpUnknown}
use Rattle.definition.specs.declared.Tally.{Tally}
use Rattle.definition.specs.declared.Sort.{Sort}
use Rattle.definition.specs.declared.Sort.TheVariants.{If, Locktime, Verify, Return}
use Rattle.definition.specs.Bytes.{when◌then◌else◌, put16, put64, be16, bits}
use Rattle.definition.specs.Fault.{Read, ◌>>=◌, ◌>>◌, refuse}
use Rattle.definition.specs.Tree.{Expr, Stmt, ifs, ifelse, locktime, verify, ret, Block, done, next}
use Rattle.definition.specs.Writing.{item, put_e, count, put_s, put_b, size_e, size_s, size_b, nodes_e, nodes_s, nodes_b, stmts_s, stmts_b, Fit64, FitE, FitS, FitB}
use Rattle.definition.specs.Reading.{Part, tally, part, location_of, Reader, expr, stmt_tag, items, forks, if_fields, make_if, if_stmt, lock_stmt, expr_stmt, by_sort, stmt}
use Rattle.definition.proofs.Numbers.{skip, sign_back, loc_back, be16_18, be16_20, word_18}
use Rattle.definition.proofs.Fields.{begin_is, code_is, if_is, else_is, stmt_is}
use Rattle.definition.proofs.BackE.{sized_e, whole_e}

mutual
  unfolding size_s put_s

  -- a statement takes as many bytes as its size says
  pub sized_s : (x : Stmt) (r : List ℕ) → drop (size_s x) (put_s x r) ≡ r
  sized_s (ifs p e a) r = skip _ (20 + size_e e) (size_b a) (skip _ 20 (size_e e) refl (sized_e e (put_b a r))) (sized_b a r)
  sized_s (ifelse p e a b) r = skip _ (22 + size_e e + size_b a) (size_b b) (skip _ (22 + size_e e) (size_b a) (skip _ 22 (size_e e) refl (sized_e e (put_b a (put_b b r)))) (sized_b a (put_b b r))) (sized_b b r)
  sized_s (locktime p o z) r = refl
  sized_s (verify p e) r = skip _ 17 (size_e e) refl (sized_e e r)
  sized_s (ret p e) r = skip _ 17 (size_e e) refl (sized_e e r)

  -- a block takes as many bytes as its size says
  pub sized_b : (b : Block) (r : List ℕ) → drop (size_b b) (put_b b r) ≡ r
  sized_b done r = refl
  sized_b (next x b) r = skip _ (size_s x) (size_b b) (sized_s x (put_b b r)) (sized_b b r)

-- the same thing read, its numbers written otherwise
same : {A : Type 0} (x : A) (a b c d y z : ℕ) → a ≡ c → b ≡ d → y ≡ z → ◌≡◌ {A = Read (Part A)} (Ok (part x (tally a b) y)) (Ok (part x (tally c d) z))
same x a b c d y z p q r = rw (p, q, r)

-- past the tag and the location of a statement
stmt_back : (l : ℕ) (t : Tally) (at : ℕ) (s : List ℕ) (k : Sort) → stmt_tag (get_or s 0 0) at ≡ Ok k → 17 ≤ length s → 1 ≤ l → t.stmts < 512 → stmt l t at s ≡ by_sort k (stmt (l - 1)) (tally (t.stmts + 1) t.nodes) at s
stmt_back l t at s k known long deep room = stmt_is l t at s k deep (begin_is stmt_tag 512 l t.stmts at s k known long deep room)

-- a verify or a return
expr_back : (make : Location → Expr → Stmt) (t : Tally) (at k : ℕ) (p : Location) (e : Expr) (r : List ℕ) → FitE e 32 → t.nodes + nodes_e e ≤ 1024 → expr_stmt make t at (item k p (put_e e r)) ≡ Ok (part (make p e) (tally t.stmts (t.nodes + nodes_e e)) (17 + size_e e))
unfolding expr_stmt ◌>>=◌
expr_back make t at k p e r f h = rw (whole_e e 32 t (at + 17) r f h, loc_back k p (put_e e r))

-- a locktime
lock_back : (t : Tally) (at k : ℕ) (p : Location) (o : ℕ) (z : ℤ) (r : List ℕ) → o < 2 → Fit64 z → lock_stmt t at (item k p (o ∷ put64 (bits z) r)) ≡ Ok (part (locktime p o z) t 26)
unfolding lock_stmt refuse ◌>>◌ ◌>>=◌
lock_back t at k p o z r h f =
    let s : List ℕ = item k p (o ∷ put64 (bits z) r) in
    simp (code_is OpUnknown 2 at s (omega arith) h, le-ltb (length s) 26 (omega arith), loc_back k p (o ∷ put64 (bits z) r), word_18 k p o (bits z) r, sign_back z f)

-- an if: fields, condition, blocks
if_back : (f : Reader Stmt) (t : Tally) (at : ℕ) (s : List ℕ) (m n from : ℕ) (e : Expr) (u : Tally) (z : ℕ) (a : Block) (v : Tally) (y : ℕ) (b : Block) (w : Tally) (x : ℕ) →
    if_fields at s ≡ Ok (forks m n from) → expr 32 t (at + from) (drop from s) ≡ Ok (part e u z) → items f m u (from + z) at s ≡ Ok (part a v y) → items f n v y at s ≡ Ok (part b w x) →
    if_stmt f t at s ≡ Ok (part (make_if (get_or s 17 0) (location_of s) e a b) w x)
unfolding if_stmt ◌>>=◌
if_back f t at s m n from e u z a v y b w x h i j k = rw (h, i, j, k)

-- one statement more, at offset off
next_back : (f : Reader Stmt) (many : ℕ) (t : Tally) (off at : ℕ) (s q : List ℕ) (x : Stmt) (u : Tally) (z : ℕ) (b : Block) (v : Tally) (y : ℕ) →
    drop off s ≡ q → f t (at + off) q ≡ Ok (part x u z) → items f many u (off + z) at s ≡ Ok (part b v y) → items f (suc many) t off at s ≡ Ok (part (next x b) v y)
unfolding items ◌>>=◌
next_back f many t off at s q x u z b v y d e h = rw (d, e, h)

mutual
  unfolding put_s count size_s stmts_s nodes_s FitS stmt_tag by_sort items make_if when◌then◌else◌

  -- a statement within the levels and the counts left is read back
  pub whole_s : (x : Stmt) (l : ℕ) (t : Tally) (at : ℕ) (r : List ℕ) → 1 ≤ l → FitS x (l - 1) → t.stmts + stmts_s x ≤ 512 → t.nodes + nodes_s x ≤ 1024 → stmt l t at (put_s x r) ≡ Ok (part x (tally (t.stmts + stmts_s x) (t.nodes + nodes_s x)) (size_s x))
  whole_s (ifs p e a) l t at r d f h g =
      let q : List ℕ = 0 ∷ put16 (count a) (put_e e (put_b a r)) in
      let s : List ℕ = item 1 p q in
      let u : Tally = tally (t.stmts + 1) t.nodes in
      let v : Tally = tally (t.stmts + 1) (t.nodes + nodes_e e) in
      let w : Tally = tally (t.stmts + 1 + stmts_b a) (t.nodes + nodes_e e + nodes_b a) in
      let i : drop (20 + size_e e) s ≡ put_b a r = skip s 20 (size_e e) refl (sized_e e (put_b a r)) in
      stmt_back l t at s If refl (omega arith) d (omega arith)
      ∙ if_back (stmt (l - 1)) u at s (count a) 0 20 e v (size_e e) a w (20 + size_e e + size_b a) done w (20 + size_e e + size_b a)
      (if_is at s (omega arith) refl ∙ ap (λ (n : ℕ). Ok (forks n 0 20)) (be16_18 1 p 0 (count a) (put_e e (put_b a r))))
      (whole_e e 32 u (at + 20) (put_b a r) f.1 (omega arith))
      (whole_b a (l - 1) v (20 + size_e e) at s r i f.2 (omega arith) (omega arith))
      refl
      ∙ ap (λ x. Ok (part (ifs x e a) w (20 + size_e e + size_b a))) (loc_back 1 p q)
      ∙ same (ifs p e a) _ _ _ _ _ _ (omega arith) (omega arith) refl
  whole_s (ifelse p e a b) l t at r d f h g =
      let q : List ℕ = 1 ∷ put16 (count a) (put16 (count b) (put_e e (put_b a (put_b b r)))) in
      let s : List ℕ = item 1 p q in
      let u : Tally = tally (t.stmts + 1) t.nodes in
      let v : Tally = tally (t.stmts + 1) (t.nodes + nodes_e e) in
      let w : Tally = tally (t.stmts + 1 + stmts_b a) (t.nodes + nodes_e e + nodes_b a) in
      let x : Tally = tally (t.stmts + 1 + stmts_b a + stmts_b b) (t.nodes + nodes_e e + nodes_b a + nodes_b b) in
      let i : drop (22 + size_e e) s ≡ put_b a (put_b b r) = skip s 22 (size_e e) refl (sized_e e (put_b a (put_b b r))) in
      let j : drop (22 + size_e e + size_b a) s ≡ put_b b r = skip s (22 + size_e e) (size_b a) i (sized_b a (put_b b r)) in
      stmt_back l t at s If refl (omega arith) d (omega arith)
      ∙ if_back (stmt (l - 1)) u at s (count a) (count b) 22 e v (size_e e) a w (22 + size_e e + size_b a) b x (22 + size_e e + size_b a + size_b b)
      (else_is at s (omega arith) refl ∙ ap (λ (n : ℕ). Ok (forks n (be16 s 20) 22)) (be16_18 1 p 1 (count a) (put16 (count b) (put_e e (put_b a (put_b b r))))) ∙ ap (λ (n : ℕ). Ok (forks (count a) n 22)) (be16_20 1 p 1 (count a) (count b) (put_e e (put_b a (put_b b r)))))
      (whole_e e 32 u (at + 22) (put_b a (put_b b r)) f.1 (omega arith))
      (whole_b a (l - 1) v (22 + size_e e) at s (put_b b r) i f.2 (omega arith) (omega arith))
      (whole_b b (l - 1) w (22 + size_e e + size_b a) at s r j f.3 (omega arith) (omega arith))
      ∙ ap (λ y. Ok (part (ifelse y e a b) x (22 + size_e e + size_b a + size_b b))) (loc_back 1 p q)
      ∙ same (ifelse p e a b) _ _ _ _ _ _ (omega arith) (omega arith) refl
  whole_s (locktime p o z) l t at r d f h g =
      stmt_back l t at (item 2 p (o ∷ put64 (bits z) r)) Locktime refl (omega arith) d (omega arith)
      ∙ lock_back (tally (t.stmts + 1) t.nodes) at 2 p o z r f.1 f.2
      ∙ same (locktime p o z) _ _ _ _ _ _ refl (omega arith) refl
  whole_s (verify p e) l t at r d f h g =
      stmt_back l t at (item 3 p (put_e e r)) Verify refl (omega arith) d (omega arith)
      ∙ expr_back verify (tally (t.stmts + 1) t.nodes) at 3 p e r f.1 (omega arith)
  whole_s (ret p e) l t at r d f h g =
      stmt_back l t at (item 4 p (put_e e r)) Return refl (omega arith) d (omega arith)
      ∙ expr_back ret (tally (t.stmts + 1) t.nodes) at 4 p e r f.1 (omega arith)

  -- a block that stands at offset off of s, within the levels and the counts left, is read back
  pub whole_b : (b : Block) (l : ℕ) (t : Tally) (off at : ℕ) (s r : List ℕ) → drop off s ≡ put_b b r → FitB b l → t.stmts + stmts_b b ≤ 512 → t.nodes + nodes_b b ≤ 1024 → items (stmt l) (count b) t off at s ≡ Ok (part b (tally (t.stmts + stmts_b b) (t.nodes + nodes_b b)) (off + size_b b))
  whole_b done l t off at s r d f h g = same done _ _ _ _ _ _ (omega arith) (omega arith) (omega arith)
  whole_b (next x b) l t off at s r d f h g =
      let u : Tally = tally (t.stmts + stmts_s x) (t.nodes + nodes_s x) in
      let i : drop (off + size_s x) s ≡ put_b b r = skip s off (size_s x) d (sized_s x (put_b b r)) in
      next_back (stmt l) (count b) t off at s (put_s x (put_b b r)) x u (size_s x) b _ _ d
      (whole_s x l t (at + off) (put_b b r) f.0 f.1 (omega arith) (omega arith))
      (whole_b b l u (off + size_s x) at s r i f.2 (omega arith) (omega arith))
      ∙ same (next x b) _ _ _ _ _ _ (omega arith) (omega arith) (omega arith)
