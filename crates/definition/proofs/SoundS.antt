-- What is read as a statement or a list of them was so written: by the levels left, then by the count, then by the tag.
use Rattle.std.specs.Prelude.{Ok}
use mathlib.Core.Path.{◌≡◌, refl, sym, ap, subst, ◌∙◌}
use mathlib.Core.Logic.{◌⊎◌, ⊎_elim}
use mathlib.Core.List.{List, ◌∷◌}
use Prim.Native.Nat.{ℕ, zero, suc, ◌+◌, ◌-◌, ◌<◌, ◌≤◌}
use native.Mathlib.Omega.{arith}
use lib.ListN.{length, get_or, drop}
use lib.Seq.{drop-drop}
use borrow.Author.Tests.{ltb-false}
use Rattle.definition.specs.declared.Forks.{Forks}
use Rattle.definition.specs.declared.Location.{Location}
use Rattle.definition.specs.declared.Tally.{Tally}
use Rattle.definition.specs.declared.Sort.{Sort}
use Rattle.definition.specs.declared.Sort.TheVariants.{If, Locktime, Verify, Return}
use Rattle.definition.specs.Bytes.{when◌then◌else◌, Bytes, be16, be64, put16, put64}
use Rattle.definition.specs.Tree.{Expr, Stmt, verify, ret, Block, done, next}
use Rattle.definition.specs.Writing.{item, put_e, put_s, put_b, count, nodes_e, nodes_s, nodes_b, stmts_s, stmts_b, size_e, size_s, size_b, FitLocation, FitE, FitS, FitB}
use Rattle.definition.specs.Reading.{tally, Part, part, location_of, stmt_tag, items, make_if, if_stmt, lock_stmt, expr_stmt, by_sort, stmt}
use Rattle.definition.proofs.Steps.{bad_got, carried, step_got, past}
use Rattle.definition.proofs.Apart.{bytes_drop, at8, at16, at64, at_item, fit_location, less64, signed_bits}
use Rattle.definition.proofs.Inverse.{begun, stmt_byte, stmt_byte_lem, code_inv, Plain, Forked, if_inv}
use Rattle.definition.proofs.SoundE.{GoodE, SoundE, sound_e}

-- what is known of a statement that was read with l levels left and t counted before it
pub record GoodS (l : ℕ) (t : Tally) (s : List ℕ) (x : Part Stmt) : Type 0 where
  pub bytes : s ≡ put_s x.tree (drop x.size s)
  pub size : x.size ≡ size_s x.tree
  pub stmts : x.tally.stmts ≡ t.stmts + stmts_s x.tree
  pub nodes : x.tally.nodes ≡ t.nodes + nodes_s x.tree
  pub few : x.tally.stmts ≤ 512
  pub most : t.nodes ≤ 1024 → x.tally.nodes ≤ 1024
  pub deep : 1 ≤ l
  pub fits : FitS x.tree (l - 1)

-- and of a list of `many` statements, from offset `off` on
pub record GoodB (l many : ℕ) (t : Tally) (off : ℕ) (s : List ℕ) (b : Part Block) : Type 0 where
  pub bytes : drop off s ≡ put_b b.tree (drop b.size s)
  pub size : b.size ≡ off + size_b b.tree
  pub counted : many ≡ count b.tree
  pub stmts : b.tally.stmts ≡ t.stmts + stmts_b b.tree
  pub nodes : b.tally.nodes ≡ t.nodes + nodes_b b.tree
  pub few : t.stmts ≤ 512 → b.tally.stmts ≤ 512
  pub most : t.nodes ≤ 1024 → b.tally.nodes ≤ 1024
  pub fits : FitB b.tree l

unfoldable pub SoundS : ℕ → Type 0
SoundS l = (t : Tally) (at : ℕ) (s : List ℕ) (x : Part Stmt) → Bytes s → stmt l t at s ≡ Ok x → GoodS l t s x

empty : (b : Block) → count b ≡ 0 → b ≡ done
unfolding count
empty done e = refl
empty (next x b) e = absurd (omega arith)

pub list_sound : (l : ℕ) → SoundS l → (many : ℕ) (t : Tally) (off at : ℕ) (s : List ℕ) (b : Part Block) → Bytes s → items (stmt l) many t off at s ≡ Ok b → GoodB l many t off s b
unfolding items put_b size_b count stmts_b nodes_b FitB SoundS
list_sound l ok zero t off at s b w q =
    carried (λ z. GoodB l 0 t off s z) (part done t off) b q (record { bytes = refl; size = omega arith; counted = refl; stmts = omega arith; nodes = omega arith; few = λ h. h; most = λ h. h; fits = tt })
list_sound l ok (suc many) t off at s b w q =
    let i = step_got _ _ _ q in
    let j = step_got _ _ _ i.2 in
    let g = ok t (at + off) (drop off s) i.0 (bytes_drop off s w) i.1 in
    let h = list_sound l ok many i.0.tally (off + i.0.size) at s j.0 w j.1 in
    carried (λ z. GoodB l (suc many) t off s z) (part (next i.0.tree j.0.tree) j.0.tally j.0.size) b j.2 (record {
      bytes = g.bytes ∙ ap (put_s i.0.tree) (drop-drop i.0.size off s ∙ h.bytes);
      size = omega (arith, g.size, h.size);
      counted = ap suc h.counted;
      stmts = omega (arith, g.stmts, h.stmts);
      nodes = omega (arith, g.nodes, h.nodes);
      few = λ x. h.few g.few;
      most = λ x. h.most (g.most x);
      fits = (g.deep, g.fits, h.fits);
    })

module _ (l : ℕ) (ih : SoundS l) (t : Tally) (at : ℕ) (s : List ℕ) (x : Part Stmt) (w : Bytes s) (room : t.stmts < 512) (long : 17 ≤ length s) where
  more : Tally
  more = tally (t.stmts + 1) t.nodes

  -- a verify or a return
  single_sound : (k : ℕ) (make : Location → Expr → Stmt) → ((p : Location) (e : Expr) (r : List ℕ) → put_s (make p e) r ≡ item k p (put_e e r)) → ((p : Location) (e : Expr) → size_s (make p e) ≡ 17 + size_e e) → ((p : Location) (e : Expr) → stmts_s (make p e) ≡ 1) → ((p : Location) (e : Expr) → nodes_s (make p e) ≡ nodes_e e)
      → ((p : Location) (e : Expr) → FitLocation p → FitE e 32 → FitS (make p e) (suc l - 1)) → get_or s 0 0 ≡ k → expr_stmt make more at s ≡ Ok x → GoodS (suc l) t s x
  unfolding expr_stmt SoundE more
  single_sound k make ep es et en ef by q =
      let i = step_got _ _ _ q in
      let p : Location = location_of s in
      let g = sound_e 32 more (at + 17) (drop 17 s) i.0 (bytes_drop 17 s w) i.1 in
      carried (λ z. GoodS (suc l) t s z) _ x i.2 (record {
        bytes = at_item s w k by long ∙ ap (item k (location_of s)) (g.bytes ∙ ap (put_e i.0.tree) (drop-drop i.0.size 17 s)) ∙ sym (ep p i.0.tree (drop (17 + i.0.size) s));
        size = omega (arith, g.size, es p i.0.tree);
        stmts = omega (arith, g.stmts, et p i.0.tree);
        nodes = omega (arith, g.nodes, en p i.0.tree);
        few = omega (arith, g.stmts);
        most = λ h. g.most;
        deep = omega arith;
        fits = ef p i.0.tree (fit_location s w) g.fits;
      })

  lock_sound : get_or s 0 0 ≡ 2 → lock_stmt more at s ≡ Ok x → GoodS (suc l) t s x
  unfolding lock_stmt put_s size_s stmts_s nodes_s FitS more
  lock_sound by q =
      let i = step_got _ _ _ q in
      let h = code_inv _ 2 at s i.0 i.1 in
      let j = past _ _ _ _ i.2 in
      let n = ltb-false (length s) 26 j.0 in
      let b = signed_bits (be64 s 18) (less64 s w 18) in
      carried (λ z. GoodS (suc l) t s z) _ x j.1 (record {
        bytes = at_item s w 2 by long ∙ ap (item 2 (location_of s)) (at8 s w 17 h.0 ∙ ap (λ r. get_or s 17 0 ∷ r) (at64 s w 18 (omega arith) ∙ ap (λ v. put64 v (drop 26 s)) (sym b.0)));
        size = refl;
        stmts = refl;
        nodes = omega arith;
        few = omega arith;
        most = λ h. h;
        deep = omega arith;
        fits = (fit_location s w, h.1, b.1);
      })

  -- an if without an else, and one with it; the parts read after its fields
  module _ (by : get_or s 0 0 ≡ 1) (f : Forks) (e : Part Expr) (a b : Part Block)
      (ge : GoodE 32 more (drop f.from s) e) (ga : GoodB l f.yes e.tally (f.from + e.size) s a) (gb : GoodB l f.no a.tally a.size s b) where
    level : l ≡ suc l - 1
    level = omega arith

    parts : drop f.from s ≡ put_e e.tree (put_b a.tree (put_b b.tree (drop b.size s)))
    parts = ge.bytes ∙ ap (put_e e.tree) (drop-drop e.size f.from s ∙ (ga.bytes ∙ ap (put_b a.tree) gb.bytes))

    few_all : b.tally.stmts ≤ 512
    unfolding more
    few_all = gb.few (ga.few (omega (arith, ge.stmts)))

    most_all : b.tally.nodes ≤ 1024
    most_all = gb.most (ga.most ge.most)

    made : ℕ → Part Stmt
    made flag = part (make_if flag (location_of s) e.tree a.tree b.tree) b.tally b.size

    plain_sound : Plain s f → GoodS (suc l) t s (made (get_or s 17 0))
    unfolding made make_if when◌then◌else◌ more put_s size_s stmts_s nodes_s FitS
    plain_sound h =
        let from : f.from ≡ 20 = ap (λ (z : Forks). z.from) h.is in
        let yes-is : be16 s 18 ≡ count a.tree = sym (ap (λ (z : Forks). z.yes) h.is) ∙ ga.counted in
        let none : b.tree ≡ done = empty b.tree (sym gb.counted ∙ ap (λ (z : Forks). z.no) h.is) in
        let rest : drop 20 s ≡ put_e e.tree (put_b a.tree (drop b.size s)) = ap (λ (k : ℕ). drop k s) (sym from) ∙ (parts ∙ ap (λ (k : Block). put_e e.tree (put_b a.tree (put_b k (drop b.size s)))) none) in
        subst (λ k. GoodS (suc l) t s (made k)) (sym h.flag) (record {
          bytes = at_item s w 1 by long ∙ ap (item 1 (location_of s)) (at8 s w 17 (omega (arith, h.long)) ∙ (ap (λ k. k ∷ drop 18 s) h.flag ∙ ap (λ k. 0 ∷ k) (at16 s w 18 (omega (arith, h.long)) ∙ (ap (λ k. put16 k (drop 20 s)) yes-is ∙ ap (put16 (count a.tree)) rest))));
          size = omega (arith, from, ge.size, ga.size, gb.size, ap size_b none);
          stmts = omega (arith, ge.stmts, ga.stmts, gb.stmts, ap stmts_b none);
          nodes = omega (arith, ge.nodes, ga.nodes, gb.nodes, ap nodes_b none);
          few = few_all;
          most = λ h. most_all;
          deep = omega arith;
          fits = (fit_location s w, ge.fits, subst (λ k. FitB a.tree k) level ga.fits);
        })

    forked_sound : Forked s f → GoodS (suc l) t s (made (get_or s 17 0))
    unfolding made make_if when◌then◌else◌ more put_s size_s stmts_s nodes_s FitS
    forked_sound h =
        let from : f.from ≡ 22 = ap (λ (z : Forks). z.from) h.is in
        let yes-is : be16 s 18 ≡ count a.tree = sym (ap (λ (z : Forks). z.yes) h.is) ∙ ga.counted in
        let no-is : be16 s 20 ≡ count b.tree = sym (ap (λ (z : Forks). z.no) h.is) ∙ gb.counted in
        let rest : drop 22 s ≡ put_e e.tree (put_b a.tree (put_b b.tree (drop b.size s))) = ap (λ (k : ℕ). drop k s) (sym from) ∙ parts in
        subst (λ k. GoodS (suc l) t s (made k)) (sym h.flag) (record {
          bytes = at_item s w 1 by long ∙ ap (item 1 (location_of s)) (at8 s w 17 (omega (arith, h.long)) ∙ (ap (λ k. k ∷ drop 18 s) h.flag ∙ ap (λ k. 1 ∷ k) (at16 s w 18 (omega (arith, h.long)) ∙ (ap (λ k. put16 k (drop 20 s)) yes-is ∙ ap (put16 (count a.tree)) (at16 s w 20 (omega (arith, h.long)) ∙ (ap (λ k. put16 k (drop 22 s)) no-is ∙ ap (put16 (count b.tree)) rest))))));
          size = omega (arith, from, ge.size, ga.size, gb.size);
          stmts = omega (arith, ge.stmts, ga.stmts, gb.stmts);
          nodes = omega (arith, ge.nodes, ga.nodes, gb.nodes);
          few = few_all;
          most = λ h. most_all;
          deep = omega arith;
          fits = (fit_location s w, ge.fits, subst (λ k. FitB a.tree k) level ga.fits, subst (λ k. FitB b.tree k) level gb.fits);
        })

    fork_sound : Plain s f ⊎ Forked s f → GoodS (suc l) t s (made (get_or s 17 0))
    fork_sound h = ⊎_elim plain_sound forked_sound h

  if_sound : get_or s 0 0 ≡ 1 → if_stmt (stmt l) more at s ≡ Ok x → GoodS (suc l) t s x
  unfolding if_stmt SoundE made
  if_sound by q =
      let i = step_got _ _ _ q in
      let j = step_got _ _ _ i.2 in
      let u = step_got _ _ _ j.2 in
      let v = step_got _ _ _ u.2 in
      let ge = sound_e 32 more (at + i.0.from) (drop i.0.from s) j.0 (bytes_drop i.0.from s w) j.1 in
      let ga = list_sound l ih i.0.yes j.0.tally (i.0.from + j.0.size) at s u.0 w u.1 in
      let gb = list_sound l ih i.0.no u.0.tally u.0.size at s v.0 w v.1 in
      carried (λ z. GoodS (suc l) t s z) (made by i.0 j.0 u.0 v.0 ge ga gb (get_or s 17 0)) x v.2 (fork_sound by i.0 j.0 u.0 v.0 ge ga gb (if_inv at s i.0 i.1))

  by_sort_lem : (k : Sort) → get_or s 0 0 ≡ stmt_byte k → by_sort k (stmt l) more at s ≡ Ok x → GoodS (suc l) t s x
  unfolding by_sort stmt_byte put_s size_s stmts_s nodes_s FitS
  by_sort_lem If by q = if_sound by q
  by_sort_lem Locktime by q = lock_sound by q
  by_sort_lem Verify by q = single_sound 3 verify (λ p e r. refl) (λ p e. refl) (λ p e. refl) (λ p e. refl) (λ p e f g. (f, g)) by q
  by_sort_lem Return by q = single_sound 4 ret (λ p e r. refl) (λ p e. refl) (λ p e. refl) (λ p e. refl) (λ p e f g. (f, g)) by q

pub sound_s : (l : ℕ) → SoundS l
unfolding SoundS stmt more
sound_s zero t at s x w q = let i = step_got _ _ _ q in bad_got _ x i.2
sound_s (suc l) t at s x w q =
    let i = step_got _ _ _ q in
    let o = begun stmt_tag 512 (suc l) t.stmts at s i.0 i.1 in
    by_sort_lem l (sound_s l) t at s x w o.room o.long i.0 (stmt_byte_lem (get_or s 0 0) at i.0 o.known) i.2
