-- An expression that was written is read back, with its count of nodes and its size.
use Rattle.std.specs.Prelude.{Ok}
use mathlib.Core.Path.{◌≡◌, refl, ap, ◌∙◌}
use mathlib.Core.List.{List, ◌∷◌, ◌++◌}
use Prim.Native.Nat.{ℕ, ◌+◌, ◌-◌, ◌<◌, ◌≤◌}
use native.Mathlib.Omega.{arith}
use lib.ListN.{length, get_or, take, drop, length-append}
use lib.Seq.{drop_at, take_at}
use Rattle.definition.specs.declared.Location.{Location}
use Rattle.definition.specs.declared.Kind.TheVariants.{OpUnknown, BadBoolean}
use Rattle.definition.specs.declared.Tally.{Tally}
use Rattle.definition.specs.declared.Tag.{Tag}
use Rattle.definition.specs.declared.Tag.TheVariants.{Variable, Number, Boolean, Text, Logical, Compare, Unary, Binary, Hash, Checksig, Length}
use Rattle.definition.specs.Bytes.{when◌then◌else◌, put16, put64, be16, be64, signed, bits}
use Rattle.definition.specs.Fault.{◌>>=◌}
use Rattle.definition.specs.Tree.{Expr, variable, number, boolean, text, logical, compare, unary, binary, hash, checksig}
use Rattle.definition.specs.Writing.{item, put_e, size_e, nodes_e, FitE}
use Rattle.definition.specs.Reading.{tally, part, expr_tag, fields, leaf, of_one, of_two, node_of, operands, by_tag, expr}
use Rattle.definition.proofs.Numbers.{skip, sign_back, loc_back, be16_17, word_17}
use Rattle.definition.proofs.Fields.{begin_is, code_is, number_is, string_is, expr_is}

-- an expression takes as many bytes as its size says
pub sized_e : (e : Expr) (r : List ℕ) → drop (size_e e) (put_e e r) ≡ r
unfolding size_e put_e
sized_e (variable p) r = refl
sized_e (number p z) r = refl
sized_e (boolean p b) r = refl
sized_e (text p bs) r = skip _ 19 (length bs) refl (drop_at bs r (length bs) refl)
sized_e (logical p o a b) r = skip _ (18 + size_e a) (size_e b) (skip _ 18 (size_e a) refl (sized_e a (put_e b r))) (sized_e b r)
sized_e (compare p o a b) r = skip _ (18 + size_e a) (size_e b) (skip _ 18 (size_e a) refl (sized_e a (put_e b r))) (sized_e b r)
sized_e (unary p o a) r = skip _ 18 (size_e a) refl (sized_e a r)
sized_e (binary p o a b) r = skip _ (18 + size_e a) (size_e b) (skip _ 18 (size_e a) refl (sized_e a (put_e b r))) (sized_e b r)
sized_e (hash p o a) r = skip _ 18 (size_e a) refl (sized_e a r)
sized_e (checksig p) r = refl
sized_e (Expr.length p a) r = skip _ 17 (size_e a) refl (sized_e a r)

-- an expression of tag k, in order up to the offset `from` of its operands
module _ (l : ℕ) (t : Tally) (at : ℕ) (s : List ℕ) (k : Tag) (known : expr_tag (get_or s 0 0) at ≡ Ok k) (long : 17 ≤ length s) (deep : 1 ≤ l) (room : t.nodes < 1024) (from : ℕ) (own : fields k at s ≡ Ok from) where
  begun : expr l t at s ≡ operands (node_of k s) (expr (l - 1)) from (tally t.stmts (t.nodes + 1)) at s
  unfolding by_tag ◌>>=◌
  begun = expr_is l t at s k deep (begin_is expr_tag 1024 l t.nodes at s k known long deep room) ∙ (rw own)

  leaf_back : (e : Expr) → node_of k s ≡ leaf e → expr l t at s ≡ Ok (part e (tally t.stmts (t.nodes + 1)) from)
  unfolding operands
  leaf_back e d = begun ∙ (rw d)

  one_back : (make : Expr → Expr) (a : Expr) (m z : ℕ) → node_of k s ≡ of_one make →
      expr (l - 1) (tally t.stmts (t.nodes + 1)) (at + from) (drop from s) ≡ Ok (part a (tally t.stmts (t.nodes + 1 + m)) z) →
      expr l t at s ≡ Ok (part (make a) (tally t.stmts (t.nodes + (1 + m))) (from + z))
  unfolding operands ◌>>=◌
  one_back make a m z d ih = let e : t.nodes + 1 + m ≡ t.nodes + (1 + m) = omega arith in begun ∙ (rw (d, ih, e))

  two_back : (make : Expr → Expr → Expr) (a b : Expr) (m n z y : ℕ) → node_of k s ≡ of_two make →
      expr (l - 1) (tally t.stmts (t.nodes + 1)) (at + from) (drop from s) ≡ Ok (part a (tally t.stmts (t.nodes + 1 + m)) z) →
      expr (l - 1) (tally t.stmts (t.nodes + 1 + m)) (at + (from + z)) (drop (from + z) s) ≡ Ok (part b (tally t.stmts (t.nodes + 1 + m + n)) y) →
      expr l t at s ≡ Ok (part (make a b) (tally t.stmts (t.nodes + (1 + (m + n)))) (from + z + y))
  unfolding operands ◌>>=◌
  two_back make a b m n z y d ih jh = let e : t.nodes + 1 + m + n ≡ t.nodes + (1 + (m + n)) = omega arith in begun ∙ (rw (d, ih, jh, e))

-- an item of an op and two operands
two_ops : (i : ℕ) (k : Tag) (p : Location) (o : ℕ) (make : Expr → Expr → Expr) (a b : Expr) (l : ℕ) (t : Tally) (at : ℕ) (r : List ℕ) →
    expr_tag i at ≡ Ok k → fields k at (item i p (o ∷ put_e a (put_e b r))) ≡ Ok 18 → node_of k (item i p (o ∷ put_e a (put_e b r))) ≡ of_two make →
    1 ≤ l → t.nodes + (1 + (nodes_e a + nodes_e b)) ≤ 1024 →
    expr (l - 1) (tally t.stmts (t.nodes + 1)) (at + 18) (put_e a (put_e b r)) ≡ Ok (part a (tally t.stmts (t.nodes + 1 + nodes_e a)) (size_e a)) →
    expr (l - 1) (tally t.stmts (t.nodes + 1 + nodes_e a)) (at + (18 + size_e a)) (put_e b r) ≡ Ok (part b (tally t.stmts (t.nodes + 1 + nodes_e a + nodes_e b)) (size_e b)) →
    expr l t at (item i p (o ∷ put_e a (put_e b r))) ≡ Ok (part (make a b) (tally t.stmts (t.nodes + (1 + (nodes_e a + nodes_e b)))) (18 + size_e a + size_e b))
two_ops i k p o make a b l t at r known own node deep h ih jh =
    let s : List ℕ = item i p (o ∷ put_e a (put_e b r)) in
    let d : drop (18 + size_e a) s ≡ put_e b r = skip s 18 (size_e a) refl (sized_e a (put_e b r)) in
    two_back l t at s k known (omega arith) deep (omega arith) 18 own make a b (nodes_e a) (nodes_e b) (size_e a) (size_e b) node ih (ap (expr (l - 1) (tally t.stmts (t.nodes + 1 + nodes_e a)) (at + (18 + size_e a))) d ∙ jh)

-- an expression within the levels and the count left is read back
pub whole_e : (e : Expr) (l : ℕ) (t : Tally) (at : ℕ) (r : List ℕ) → FitE e l → t.nodes + nodes_e e ≤ 1024 → expr l t at (put_e e r) ≡ Ok (part e (tally t.stmts (t.nodes + nodes_e e)) (size_e e))
unfolding put_e nodes_e size_e FitE expr_tag fields node_of when◌then◌else◌
whole_e (variable p) l t at r f h = leaf_back l t at (item 16 p r) Variable refl (omega arith) f.0 (omega arith) 17 refl (variable p) (ap (λ q. leaf (variable q)) (loc_back 16 p r))
whole_e (number p z) l t at r f h =
    let s : List ℕ = item 17 p (put64 (bits z) r) in
    leaf_back l t at s Number refl (omega arith) f.0 (omega arith) 25 (number_is at s (omega arith)) (number p z)
    (ap (λ q. leaf (number q (signed (be64 s 17)))) (loc_back 17 p (put64 (bits z) r)) ∙ ap (λ v. leaf (number p (signed v))) (word_17 17 p (bits z) r) ∙ ap (λ v. leaf (number p v)) (sign_back z f.2))
whole_e (boolean p b) l t at r f h =
    let s : List ℕ = item 18 p (b ∷ r) in
    leaf_back l t at s Boolean refl (omega arith) f.0 (omega arith) 18 (code_is BadBoolean 2 at s (omega arith) f.2) (boolean p b) (ap (λ q. leaf (boolean q b)) (loc_back 18 p (b ∷ r)))
whole_e (text p bs) l t at r f h =
    let s : List ℕ = item 19 p (put16 (length bs) (bs ++ r)) in
    let e : be16 s 17 ≡ length bs = be16_17 19 p (length bs) (bs ++ r) in
    let v : take (be16 s 17) (drop 19 s) ≡ bs = ap (λ i. take i (bs ++ r)) e ∙ take_at bs r (length bs) refl in
    leaf_back l t at s Text refl (omega arith) f.0 (omega arith) (19 + length bs) (string_is at s (omega (arith, length-append bs r)) ∙ ap (λ (i : ℕ). Ok (19 + i)) e) (text p bs)
    (ap (λ q. leaf (text q (take (be16 s 17) (drop 19 s)))) (loc_back 19 p (put16 (length bs) (bs ++ r))) ∙ ap (λ x. leaf (text p x)) v)
whole_e (logical p o a b) l t at r f h =
    let q : List ℕ = o ∷ put_e a (put_e b r) in
    two_ops 20 Logical p o (logical p o) a b l t at r refl (code_is OpUnknown 2 at (item 20 p q) (omega arith) f.2) (ap (λ x. of_two (logical x o)) (loc_back 20 p q)) f.0 h
    (whole_e a (l - 1) (tally t.stmts (t.nodes + 1)) (at + 18) (put_e b r) f.3 (omega arith))
    (whole_e b (l - 1) (tally t.stmts (t.nodes + 1 + nodes_e a)) (at + (18 + size_e a)) r f.4 (omega arith))
whole_e (compare p o a b) l t at r f h =
    let q : List ℕ = o ∷ put_e a (put_e b r) in
    two_ops 21 Compare p o (compare p o) a b l t at r refl (code_is OpUnknown 8 at (item 21 p q) (omega arith) f.2) (ap (λ x. of_two (compare x o)) (loc_back 21 p q)) f.0 h
    (whole_e a (l - 1) (tally t.stmts (t.nodes + 1)) (at + 18) (put_e b r) f.3 (omega arith))
    (whole_e b (l - 1) (tally t.stmts (t.nodes + 1 + nodes_e a)) (at + (18 + size_e a)) r f.4 (omega arith))
whole_e (unary p o a) l t at r f h =
    let q : List ℕ = o ∷ put_e a r in
    one_back l t at (item 22 p q) Unary refl (omega arith) f.0 (omega arith) 18 (code_is OpUnknown 5 at (item 22 p q) (omega arith) f.2) (unary p o) a (nodes_e a) (size_e a) (ap (λ x. of_one (unary x o)) (loc_back 22 p q))
    (whole_e a (l - 1) (tally t.stmts (t.nodes + 1)) (at + 18) r f.3 (omega arith))
whole_e (binary p o a b) l t at r f h =
    let q : List ℕ = o ∷ put_e a (put_e b r) in
    two_ops 23 Binary p o (binary p o) a b l t at r refl (code_is OpUnknown 4 at (item 23 p q) (omega arith) f.2) (ap (λ x. of_two (binary x o)) (loc_back 23 p q)) f.0 h
    (whole_e a (l - 1) (tally t.stmts (t.nodes + 1)) (at + 18) (put_e b r) f.3 (omega arith))
    (whole_e b (l - 1) (tally t.stmts (t.nodes + 1 + nodes_e a)) (at + (18 + size_e a)) r f.4 (omega arith))
whole_e (hash p o a) l t at r f h =
    let q : List ℕ = o ∷ put_e a r in
    one_back l t at (item 24 p q) Hash refl (omega arith) f.0 (omega arith) 18 (code_is OpUnknown 2 at (item 24 p q) (omega arith) f.2) (hash p o) a (nodes_e a) (size_e a) (ap (λ x. of_one (hash x o)) (loc_back 24 p q))
    (whole_e a (l - 1) (tally t.stmts (t.nodes + 1)) (at + 18) r f.3 (omega arith))
whole_e (checksig p) l t at r f h = leaf_back l t at (item 25 p r) Checksig refl (omega arith) f.0 (omega arith) 17 refl (checksig p) (ap (λ q. leaf (checksig q)) (loc_back 25 p r))
whole_e (Expr.length p a) l t at r f h = one_back l t at (item 26 p (put_e a r)) Length refl (omega arith) f.0 (omega arith) 17 refl (Expr.length p) a (nodes_e a) (size_e a) (ap (λ x. of_one (Expr.length x)) (loc_back 26 p (put_e a r)))
    (whole_e a (l - 1) (tally t.stmts (t.nodes + 1)) (at + 17) r f.2 (omega arith))
