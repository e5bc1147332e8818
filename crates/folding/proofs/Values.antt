-- What an expression folds to, from what its operands fold to; and an overflow lies within the expression's bytes.
use mathlib.Core.Path.{◌≡◌, refl, sym, ap, ◌∙◌}
use mathlib.Core.Bool.{Bool, true, false}
use mathlib.Core.List.{List}
use Rattle.std.proofs.Math.Logic.{∥∥₁_elim}
use Rattle.std.specs.Coded.{le_prop}
use Prim.Native.Nat.{ℕ, ◌+◌, ◌<◌, ◌≤◌}
use native.Mathlib.Omega.{arith}
use lib.ListN.{length, get_or, drop}
use lib.Seq.{drop-drop}
use lib.IntN.{ℤ}
use lib.Dec.{eqb}
use borrow.Author.Tests.{eq-eqb, ne_eqb}
use Rattle.definition.specs.declared.Folded.{Folded}
use Rattle.definition.specs.declared.Folded.TheVariants.{Value, Nothing, Overflow}
use Rattle.definition.specs.Bytes.{when◌then◌else◌, be64, signed}
use Rattle.definition.specs.Tree.{Expr, variable, number, boolean, text, logical, compare, unary, binary, hash, checksig}
use Rattle.definition.specs.Writing.{size_e}
use Rattle.definition.specs.Begins.{Begins, Holds}
use Rattle.definition.specs.Folding.{kept, flag, logical_of, compare_of, unary_of, binary_of, on_value, fold}
use Rattle.folding.specs.declared.Shape.{Shape}
use Rattle.folding.specs.Shape.{shape_of}
use Rattle.folding.specs.Operation.{two_of}
use Rattle.folding.proofs.View.{tag_at, leaf_fold, leaf_size, leaf_size_lem, size_ok, leaf_at, one_at, two_at, IsSize, Operand, size_fits, tagged}

-- r is what the expression at the front of s folds to, whichever it is
abbrev pub IsFold : Folded → List ℕ → Type 0
IsFold r s = (e : Expr) → Begins e s → r ≡ fold e

-- an expression with an operand has a byte after its location
pub op_room : {s : List ℕ} {n : ℕ} → Operand s n → 17 < length s
op_room {s} {n} o = omega (arith, tagged (drop n s) o.holds, o.shorter)

-- ---- an operand without a value

-- as the arm past `Value` knows it
abbrev pub Stopped : Folded → Type 0
Stopped r = (v : ℤ) → r ≡ Value v → ⊥

-- what would be done with the value makes no difference
stopped : (n : ℕ) (r : Folded) (k j : ℤ → Folded) → Stopped r → on_value n r k ≡ on_value n r j
unfolding on_value
stopped n (Value v) k j s = absurd (s v refl)
stopped n Nothing k j s = refl
stopped n (Overflow d) k j s = refl

-- ---- the value from those of the operands

module _ (s : List ℕ) where
  module _ (q : shape_of (tag_at s) ≡ Shape.Leaf) where
    leaf_fold_lem : IsFold (leaf_fold s) s
    leaf_fold_lem e h = (leaf_at e s h q).fold_is

    leaf_room : Holds s → leaf_size s ≤ length s
    leaf_room h = size_ok s (leaf_size s) h (leaf_size_lem s q)

    pub number_fold : tag_at s ≡ 17 → IsFold (Value (signed (be64 s 17))) s
    unfolding leaf_fold
    number_fold t e h = let z = leaf_fold_lem e h in rw t at z

    pub boolean_room : tag_at s ≡ 18 → Holds s → 18 ≤ length s
    unfolding leaf_size
    boolean_room t h = let z = leaf_room h in rw t at z

    pub boolean_fold : tag_at s ≡ 18 → IsFold (Value (flag (eqb (get_or s 17 0) 1))) s
    unfolding leaf_fold
    boolean_fold t e h = let z = leaf_fold_lem e h in rw t at z

    pub other_fold : (tag_at s ≡ 17 → ⊥) → (tag_at s ≡ 18 → ⊥) → IsFold Nothing s
    unfolding leaf_fold
    other_fold m n e h = let z = leaf_fold_lem e h in rw (ne_eqb (tag_at s) 17 m, ne_eqb (tag_at s) 18 n) at z

  module _ {from : ℕ} (q : Shape.One from ≡ shape_of (tag_at s)) where
    -- a hash or a length
    pub no_value : (tag_at s ≡ 22 → ⊥) → IsFold Nothing s
    unfolding when◌then◌else◌
    no_value n e h = let a = one_at e s h from (sym q) in sym (a.fold_is ∙ ap (λ (b : Bool). when b then on_value from (fold a.arg) (unary_of (get_or s 17 0)) else Nothing) (ne_eqb (tag_at s) 22 n))

    -- r is what the operand folds to
    module _ (u : tag_at s ≡ 22) {p : List ℕ} (b : p ≡ drop from s) {r : Folded} (i : IsFold r p) where
      one_fold : IsFold (on_value from r (unary_of (get_or s 17 0))) s
      unfolding when◌then◌else◌
      one_fold e h =
          let a = one_at e s h from (sym q) in
          ap (λ (x : Folded). on_value from x (unary_of (get_or s 17 0))) (i a.arg (rw b a.begins)) ∙ sym (a.fold_is ∙ ap (λ (t : Bool). when t then on_value from (fold a.arg) (unary_of (get_or s 17 0)) else Nothing) (eq-eqb (tag_at s) 22 u))

      pub one_stops : Stopped r → IsFold (on_value from r Value) s
      one_stops t e h = stopped from r _ _ t ∙ one_fold e h

      -- the code holds its value v as x
      pub one_ends : {v x : ℤ} → r ≡ Value v → x ≡ v → IsFold (unary_of (get_or s 17 0) x) s
      unfolding on_value
      one_ends o f e h = let z = one_fold e h in rw f (rw o at z)

  -- r is what the first of two folds to
  module _ (q : Shape.Two ≡ shape_of (tag_at s)) {l : List ℕ} (b : l ≡ drop 18 s) {r : Folded} (i : IsFold r l) where
    pub first_stops : Stopped r → IsFold (on_value 18 r Value) s
    first_stops t e h = let a = two_at e s h (sym q) in rw (a.fold_is, ← i a.left (rw b a.begins_left)) (stopped 18 r _ _ t)

    -- its value is v, its size n, and p is what the second folds to
    module _ {v : ℤ} (o : r ≡ Value v) {n : ℕ} (sized : IsSize n l) {m : List ℕ} (d : m ≡ drop (18 + n) s) {p : Folded} (j : IsFold p m) where
      two_fold : IsFold (on_value (18 + n) p (two_of (tag_at s) (get_or s 17 0) v)) s
      unfolding on_value
      two_fold e h =
          let a = two_at e s h (sym q) in
          let z = sized a.left (rw b a.begins_left) in
          rw (a.fold_is, ← i a.left (rw b a.begins_left), o, ← z, ← j a.right (rw (d, ← drop-drop n 18 s, z) a.begins_right))

      pub second_stops : Stopped p → IsFold (on_value (18 + n) p Value) s
      second_stops t e h = stopped (18 + n) p _ _ t ∙ two_fold e h

      -- the code holds the values v and w as x and y
      pub two_ends : {w x y : ℤ} → p ≡ Value w → x ≡ v → y ≡ w → IsFold (two_of (tag_at s) (get_or s 17 0) x y) s
      unfolding on_value
      two_ends k f g e h = let z = two_fold e h in rw (f, g) (rw k at z)

-- ---- how far an overflow can lie

abbrev distance : Folded → ℕ
distance (Value v) = 0
distance Nothing = 0
distance (Overflow d) = d

-- an operation on values overflows at its own tag
record Here (r : Folded) : Type 0 where
  here : distance r ≡ 0

choice : (t : Bool) {a b : Folded} → Here a → Here b → Here (when t then a else b)
unfolding when◌then◌else◌
choice true p q = p
choice false p q = q

value_here : (v : ℤ) → Here (Value v)
value_here v = record { here = refl }

kept_here : (z : ℤ) → Here (kept z)
unfolding kept
kept_here z = choice _ (value_here z) (record { here = refl })

unary_here : (op : ℕ) (v : ℤ) → Here (unary_of op v)
unfolding unary_of
unary_here op v = choice _ (kept_here _) (choice _ (kept_here _) (choice _ (kept_here _) (choice _ (kept_here _) (value_here _))))

binary_here : (op : ℕ) (v w : ℤ) → Here (binary_of op v w)
unfolding binary_of
binary_here op v w = choice _ (kept_here _) (choice _ (kept_here _) (choice _ (value_here _) (value_here _)))

-- t is the size of the whole
on_within : (n t : ℕ) (r : Folded) (k : ℤ → Folded) → n + distance r < t → ((v : ℤ) → distance (k v) < t) → distance (on_value n r k) < t
unfolding on_value
on_within n t (Value v) k h j = j v
on_within n t Nothing k h j = omega arith
on_within n t (Overflow d) k h j = h

two_within : (a b : ℕ) (r q : Folded) (k : ℤ → ℤ → Folded) → distance r < a → distance q < b → ((v w : ℤ) → Here (k v w)) → distance (on_value 18 r (λ v. on_value (18 + a) q (k v))) < 18 + a + b
two_within a b r q k h i j = on_within 18 (18 + a + b) r _ (omega arith) (λ v. on_within (18 + a) (18 + a + b) q (k v) (omega arith) (λ w. omega (arith, (j v w).here)))

within : (e : Expr) → distance (fold e) < size_e e
unfolding fold size_e
within (variable p) = omega arith
within (number p z) = omega arith
within (boolean p b) = omega arith
within (text p bs) = omega arith
within (logical p o a b) = two_within (size_e a) (size_e b) (fold a) (fold b) _ (within a) (within b) (λ v w. value_here (flag (logical_of o v w)))
within (compare p o a b) = two_within (size_e a) (size_e b) (fold a) (fold b) _ (within a) (within b) (λ v w. value_here (flag (compare_of o v w)))
within (unary p o a) = on_within 18 (18 + size_e a) (fold a) (unary_of o) (omega (arith, within a)) (λ v. omega (arith, (unary_here o v).here))
within (binary p o a b) = two_within (size_e a) (size_e b) (fold a) (fold b) _ (within a) (within b) (binary_here o)
within (hash p o a) = omega arith
within (checksig p) = omega arith
within (Expr.length p a) = omega arith

-- an overflow lies within the expression
pub fold_within : (e : Expr) (d : ℕ) → fold e ≡ Overflow d → d < size_e e
fold_within e d o = omega (arith, within e, ap distance o)

-- an overflow in the expression at the front of s lies within s
pub overflow_within : (s : List ℕ) (r : Folded) → Holds s → IsFold r s → (d : ℕ) → r ≡ Overflow d → d < length s
overflow_within s r h i d o = omega (arith, size_fits h.expr s h.begins, fold_within h.expr d (sym (i h.expr h.begins) ∙ o))

pub overflow_known : (s : List ℕ) (r : Folded) → ∥ Holds s ∥₁ → IsFold r s → (d : ℕ) → r ≡ Overflow d → d < length s
overflow_known s r t i d o = ∥∥₁_elim t le_prop (λ h. overflow_within s r h i d o)
