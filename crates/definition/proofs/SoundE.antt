-- What is read as an expression was so written: by the levels left, then by the tag.
use Rattle.std.specs.Prelude.{Ok}
use mathlib.Core.Path.{◌≡◌, refl, sym, ap, subst, ◌∙◌}
use mathlib.Core.List.{List, ◌∷◌, ◌++◌}
use Prim.Native.Nat.{ℕ, zero, suc, ◌+◌, ◌-◌, ◌<◌, ◌≤◌}
use native.Mathlib.Omega.{arith}
use lib.ListN.{length, get_or, take, drop, length-drop, length-take, take-append-drop}
use lib.Seq.{drop-drop}
use Rattle.definition.specs.declared.Location.{Location}
use Rattle.definition.specs.declared.Tally.{Tally}
use Rattle.definition.specs.declared.Tag.{Tag}
use Rattle.definition.specs.declared.Tag.TheVariants.{Variable, Number, Boolean, Text, Logical, Compare, Unary, Binary, Hash, Checksig, Length}
use Rattle.definition.specs.Bytes.{Bytes, be16, be64, put16, put64, signed}
use Rattle.definition.specs.Tree.{Expr, variable, number, boolean, text, logical, compare, unary, binary, hash, checksig}
use Rattle.definition.specs.Writing.{item, put_e, nodes_e, size_e, FitLocation, FitE}
use Rattle.definition.specs.Reading.{tally, Part, location_of, expr_tag, fields, Node, of_one, of_two, node_of, operands, by_tag, expr}
use Rattle.definition.proofs.Steps.{bad_got, same_got, carried, step_got}
use Rattle.definition.proofs.Apart.{bytes_drop, bytes_take, at8, at16, at64, at_item, fit_location, less16, less64, signed_bits}
use Rattle.definition.proofs.Inverse.{begun, expr_byte, expr_byte_lem, code_inv, number_inv, string_inv}

-- what is known of an expression that was read with l levels left and t counted before it
pub record GoodE (l : ℕ) (t : Tally) (s : List ℕ) (x : Part Expr) : Type 0 where
  pub bytes : s ≡ put_e x.tree (drop x.size s)
  pub size : x.size ≡ size_e x.tree
  pub stmts : x.tally.stmts ≡ t.stmts
  pub nodes : x.tally.nodes ≡ t.nodes + nodes_e x.tree
  pub most : x.tally.nodes ≤ 1024
  pub fits : FitE x.tree l

unfoldable pub SoundE : ℕ → Type 0
SoundE l = (t : Tally) (at : ℕ) (s : List ℕ) (x : Part Expr) → Bytes s → expr l t at s ≡ Ok x → GoodE l t s x

module _ (l : ℕ) (t : Tally) (at : ℕ) (s : List ℕ) (x : Part Expr) (w : Bytes s) (ih : SoundE (l - 1)) (deep : 1 ≤ l) (room : t.nodes < 1024) (long : 17 ≤ length s) where
  more : Tally
  more = tally t.stmts (t.nodes + 1)

  -- an op byte and two operands
  two_sound : (k n : ℕ) (make : Location → ℕ → Expr → Expr → Expr) → ((p : Location) (o : ℕ) (a b : Expr) (r : List ℕ) → put_e (make p o a b) r ≡ item k p (o ∷ put_e a (put_e b r))) → ((p : Location) (o : ℕ) (a b : Expr) → size_e (make p o a b) ≡ 18 + size_e a + size_e b) → ((p : Location) (o : ℕ) (a b : Expr) → nodes_e (make p o a b) ≡ 1 + (nodes_e a + nodes_e b))
      → ((p : Location) (o : ℕ) (a b : Expr) → FitLocation p → o < n → FitE a (l - 1) → FitE b (l - 1) → FitE (make p o a b) l) → get_or s 0 0 ≡ k → 18 ≤ length s → get_or s 17 0 < n → operands (of_two (make (location_of s) (get_or s 17 0))) (expr (l - 1)) 18 more at s ≡ Ok x → GoodE l t s x
  unfolding SoundE operands more
  two_sound k n make ep es en ef by h o q =
      let i = step_got _ _ _ q in
      let j = step_got _ _ _ i.2 in
      let p : Location = location_of s in
      let c : ℕ = get_or s 17 0 in
      let ga = ih more (at + 18) (drop 18 s) i.0 (bytes_drop 18 s w) i.1 in
      let gb = ih i.0.tally (at + (18 + i.0.size)) (drop (18 + i.0.size) s) j.0 (bytes_drop (18 + i.0.size) s w) j.1 in
      carried (λ z. GoodE l t s z) _ x j.2 (record {
        bytes = at_item s w k by long ∙ ap (item k (location_of s)) (at8 s w 17 h ∙ ap (λ r. get_or s 17 0 ∷ r) (ga.bytes ∙ ap (put_e i.0.tree) (drop-drop i.0.size 18 s ∙ (gb.bytes ∙ ap (put_e j.0.tree) (drop-drop j.0.size (18 + i.0.size) s))))) ∙ sym (ep p c i.0.tree j.0.tree (drop (18 + i.0.size + j.0.size) s));
        size = omega (arith, ga.size, gb.size, es p c i.0.tree j.0.tree);
        stmts = gb.stmts ∙ ga.stmts;
        nodes = omega (arith, ga.nodes, gb.nodes, en p c i.0.tree j.0.tree);
        most = gb.most;
        fits = ef p c i.0.tree j.0.tree (fit_location s w) o ga.fits gb.fits;
      })

  -- one operand, at offset `from`; `put` is what stands before it
  one_sound : (k from : ℕ) (make : Expr → Expr) (put : List ℕ → List ℕ) → ((a : Expr) (r : List ℕ) → put_e (make a) r ≡ item k (location_of s) (put (put_e a r))) → ((a : Expr) → size_e (make a) ≡ from + size_e a) → ((a : Expr) → nodes_e (make a) ≡ 1 + nodes_e a)
      → ((a : Expr) → FitLocation (location_of s) → FitE a (l - 1) → FitE (make a) l) → get_or s 0 0 ≡ k → drop 17 s ≡ put (drop from s) → operands (of_one make) (expr (l - 1)) from more at s ≡ Ok x → GoodE l t s x
  unfolding SoundE operands more
  one_sound k from make put ep es en ef by c q =
      let i = step_got _ _ _ q in
      let ga = ih more (at + from) (drop from s) i.0 (bytes_drop from s w) i.1 in
      carried (λ z. GoodE l t s z) _ x i.2 (record {
        bytes = at_item s w k by long ∙ ap (item k (location_of s)) (c ∙ ap put (ga.bytes ∙ ap (put_e i.0.tree) (drop-drop i.0.size from s))) ∙ sym (ep i.0.tree (drop (from + i.0.size) s));
        size = omega (arith, ga.size, es i.0.tree);
        stmts = ga.stmts;
        nodes = omega (arith, ga.nodes, en i.0.tree);
        most = ga.most;
        fits = ef i.0.tree (fit_location s w) ga.fits;
      })

  leaf_sound : (k from : ℕ) (d : Expr) (r : List ℕ) → put_e d (drop from s) ≡ item k (location_of s) r → size_e d ≡ from → nodes_e d ≡ 1 → FitE d l → get_or s 0 0 ≡ k → drop 17 s ≡ r → operands (Node.leaf d) (expr (l - 1)) from more at s ≡ Ok x → GoodE l t s x
  unfolding operands more
  leaf_sound k from d r ep es en ef by c q =
      carried (λ z. GoodE l t s z) _ x q (record {
        bytes = at_item s w k by long ∙ ap (item k (location_of s)) c ∙ sym ep;
        size = sym es;
        stmts = refl;
        nodes = omega (arith, en);
        most = omega arith;
        fits = ef;
      })

  by_tag_lem : (k : Tag) (from : ℕ) → get_or s 0 0 ≡ expr_byte k → fields k at s ≡ Ok from → operands (node_of k s) (expr (l - 1)) from more at s ≡ Ok x → GoodE l t s x
  unfolding expr_byte fields node_of put_e size_e nodes_e FitE
  by_tag_lem Variable from by o q = let h = sym (same_got 17 from o) in leaf_sound 16 17 (variable (location_of s)) (drop 17 s) refl refl refl (deep, fit_location s w) by refl (rw h at q)
  by_tag_lem Number from by o q =
      let h = number_inv at s from o in
      let b = signed_bits (be64 s 17) (less64 s w 17) in
      leaf_sound 17 25 (number (location_of s) (signed (be64 s 17))) (put64 (be64 s 17) (drop 25 s)) (ap (λ v. item 17 (location_of s) (put64 v (drop 25 s))) b.0) refl refl (deep, fit_location s w, b.1) by (at64 s w 17 (omega (arith, h.0))) (rw h.1 at q)
  by_tag_lem Boolean from by o q = let h = code_inv _ 2 at s from o in leaf_sound 18 18 (boolean (location_of s) (get_or s 17 0)) (get_or s 17 0 ∷ drop 18 s) refl refl refl (deep, fit_location s w, h.1) by (at8 s w 17 h.0) (rw h.2 at q)
  by_tag_lem Text from by o q =
      let h = string_inv at s from o in
      let j : length (take (be16 s 17) (drop 19 s)) ≡ be16 s 17 = omega (arith, length-take (be16 s 17) (drop 19 s), h.0, length-drop 19 s) in
      leaf_sound 19 (19 + be16 s 17) (text (location_of s) (take (be16 s 17) (drop 19 s))) (put16 (be16 s 17) (drop 19 s))
      (ap (λ v. item 19 (location_of s) (put16 v (take (be16 s 17) (drop 19 s) ++ drop (19 + be16 s 17) s))) j ∙ ap (λ v. item 19 (location_of s) (put16 (be16 s 17) (take (be16 s 17) (drop 19 s) ++ v))) (sym (drop-drop (be16 s 17) 19 s)) ∙ ap (λ v. item 19 (location_of s) (put16 (be16 s 17) v)) (take-append-drop (be16 s 17) (drop 19 s)))
      (ap (λ v. 19 + v) j) refl (deep, fit_location s w, omega (arith, j, less16 s w 17), bytes_take (be16 s 17) (drop 19 s) (bytes_drop 19 s w)) by (at16 s w 17 (omega (arith, h.0))) (rw h.1 at q)
  by_tag_lem Logical from by o q = let h = code_inv _ 2 at s from o in two_sound 20 2 logical (λ p o a b r. refl) (λ p o a b. refl) (λ p o a b. refl) (λ p o a b f g x y. (deep, f, g, x, y)) by h.0 h.1 (rw h.2 at q)
  by_tag_lem Compare from by o q = let h = code_inv _ 8 at s from o in two_sound 21 8 compare (λ p o a b r. refl) (λ p o a b. refl) (λ p o a b. refl) (λ p o a b f g x y. (deep, f, g, x, y)) by h.0 h.1 (rw h.2 at q)
  by_tag_lem Unary from by o q = let h = code_inv _ 5 at s from o in one_sound 22 18 (unary (location_of s) (get_or s 17 0)) (λ r. get_or s 17 0 ∷ r) (λ a r. refl) (λ a. refl) (λ a. refl) (λ a f x. (deep, f, h.1, x)) by (at8 s w 17 h.0) (rw h.2 at q)
  by_tag_lem Binary from by o q = let h = code_inv _ 4 at s from o in two_sound 23 4 binary (λ p o a b r. refl) (λ p o a b. refl) (λ p o a b. refl) (λ p o a b f g x y. (deep, f, g, x, y)) by h.0 h.1 (rw h.2 at q)
  by_tag_lem Hash from by o q = let h = code_inv _ 2 at s from o in one_sound 24 18 (hash (location_of s) (get_or s 17 0)) (λ r. get_or s 17 0 ∷ r) (λ a r. refl) (λ a. refl) (λ a. refl) (λ a f x. (deep, f, h.1, x)) by (at8 s w 17 h.0) (rw h.2 at q)
  by_tag_lem Checksig from by o q = let h = sym (same_got 17 from o) in leaf_sound 25 17 (checksig (location_of s)) (drop 17 s) refl refl refl (deep, fit_location s w) by refl (rw h at q)
  by_tag_lem Length from by o q = let h = sym (same_got 17 from o) in one_sound 26 17 (Expr.length (location_of s)) (λ r. r) (λ a r. refl) (λ a. refl) (λ a. refl) (λ a f x. (deep, f, x)) by refl (rw h at q)

pub sound_e : (l : ℕ) → SoundE l
unfolding SoundE expr by_tag more
sound_e zero t at s x w q = let i = step_got _ _ _ q in bad_got _ x i.2
sound_e (suc l) t at s x w q =
    let i = step_got _ _ _ q in
    let o = begun expr_tag 1024 (suc l) t.nodes at s i.0 i.1 in
    let j = step_got _ _ _ i.2 in
    let lv : l ≡ suc l - 1 = omega arith in
    by_tag_lem (suc l) t at s x w (subst SoundE lv (sound_e l)) (omega arith) o.room o.long i.0 j.0 (expr_byte_lem (get_or s 0 0) at i.0 o.known) j.1 (ap (λ k. operands (node_of i.0 s) (expr k) j.0 (tally t.stmts (t.nodes + 1)) at s) (sym lv) ∙ j.2)
