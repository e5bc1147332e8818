-- Bytes that begin with an expression, as its tag shows them: a leaf, one operand, or two. One view serves every walker.
use mathlib.Core.Path.{◌≡◌, refl, sym, ap, subst, subst⁻¹, ◌∙◌}
use Prim.Native.Nat.{ℕ, ◌+◌, ◌-◌, ◌≤◌, ◌<◌}
use native.Mathlib.Omega.{arith}
use mathlib.Core.List.{List}
use Rattle.std.proofs.Math.Logic.{∥∥₁_elim, ∥∥₁_map}
use Rattle.std.specs.Coded.{le_prop}
use mathlib.Core.Bool.{cond, ◌||◌}
use lib.ListN.{length, get_or, drop, length-drop}
use lib.Seq.{drop-drop}
use lib.Dec.{eqb}
use Rattle.definition.specs.Bytes.{when◌then◌else◌, be16, be64, signed, bits}
use Rattle.definition.specs.Tree.{Expr, variable, number, boolean, text, logical, compare, unary, binary, hash, checksig}
use Rattle.definition.specs.Writing.{put_e, size_e, FitE}
use Rattle.definition.specs.Begins.{Begins, Holds}
use Rattle.definition.specs.declared.Folded.{Folded}
use Rattle.definition.specs.declared.Folded.TheVariants.{Value, Nothing}
use Rattle.definition.specs.Folding.{contains, fold, on_value, flag, unary_of}
use Rattle.definition.proofs.Numbers.{be16_17, word_17, sign_back}
use Rattle.definition.proofs.Lengths.{length_e}
use Rattle.definition.proofs.BackE.{sized_e}
use Rattle.folding.specs.declared.Shape.{Shape}
use Rattle.folding.specs.Shape.{shape_of}
use Rattle.folding.specs.Operation.{two_of}

abbrev pub tag_at : List ℕ → ℕ
tag_at s = get_or s 0 0

-- how many bytes a leaf has, by its tag
unfoldable pub leaf_size : List ℕ → ℕ
leaf_size s = cond (eqb (tag_at s) 17) 25 (cond (eqb (tag_at s) 18) 18 (cond (eqb (tag_at s) 19) (19 + be16 s 17) 17))

-- the value of a leaf, by its tag
unfoldable pub leaf_fold : List ℕ → Folded
leaf_fold s = cond (eqb (tag_at s) 17) (Value (signed (be64 s 17))) (cond (eqb (tag_at s) 18) (Value (flag (eqb (get_or s 17 0) 1))) Nothing)

pub record LeafAt (e : Expr) (s : List ℕ) : Type 0 where
  pub shape : shape_of (tag_at s) ≡ Shape.Leaf
  pub size_is : leaf_size s ≡ size_e e
  pub contains_is : (t : ℕ) → contains t e ≡ eqb t (tag_at s)
  pub fold_is : leaf_fold s ≡ fold e

pub record OneAt (e : Expr) (s : List ℕ) (from : ℕ) : Type 0 where
  pub shape : shape_of (tag_at s) ≡ Shape.One from
  pub far : 17 ≤ from
  pub arg : Expr
  pub begins : Begins arg (drop from s)
  pub size_is : size_e e ≡ from + size_e arg
  pub contains_is : (t : ℕ) → contains t e ≡ contains t arg
  pub fold_is : fold e ≡ (when eqb (tag_at s) 22 then on_value from (fold arg) (unary_of (get_or s 17 0)) else Nothing)

pub record TwoAt (e : Expr) (s : List ℕ) : Type 0 where
  pub shape : shape_of (tag_at s) ≡ Shape.Two
  pub left : Expr
  pub right : Expr
  pub begins_left : Begins left (drop 18 s)
  pub begins_right : Begins right (drop (size_e left) (drop 18 s))
  pub size_is : size_e e ≡ 18 + size_e left + size_e right
  pub contains_is : (t : ℕ) → contains t e ≡ (contains t left || contains t right)
  pub fold_is : fold e ≡ on_value 18 (fold left) (λ v. on_value (18 + size_e left) (fold right) (two_of (tag_at s) (get_or s 17 0) v))

pub data View (e : Expr) (s : List ℕ) : Type 0 where
  leaf : LeafAt e s → View e s
  one : (from : ℕ) → OneAt e s from → View e s
  two : TwoAt e s → View e s

-- an operand of what was put
pub operand : (a : Expr) (l : ℕ) (r : List ℕ) → FitE a l → Begins a (put_e a r)
operand a l r f = record { rest = r; bytes = refl; level = l; fits = f }

pub later : (a b : Expr) (l : ℕ) (r : List ℕ) → FitE b l → Begins b (drop (size_e a) (put_e a (put_e b r)))
later a b l r f = record { rest = r; bytes = sized_e a (put_e b r); level = l; fits = f }

view_put : (e : Expr) (l : ℕ) (r : List ℕ) → FitE e l → View e (put_e e r)
unfolding put_e size_e FitE contains fold shape_of two_of leaf_size leaf_fold when◌then◌else◌
view_put (variable p) l r f = leaf (record { shape = refl; size_is = refl; contains_is = λ t. refl; fold_is = refl })
view_put (number p z) l r f = leaf (record { shape = refl; size_is = refl; contains_is = λ t. refl; fold_is = ap (λ (n : ℕ). Value (signed n)) (word_17 17 p (bits z) r) ∙ ap Value (sign_back z f.2) })
view_put (boolean p b) l r f = leaf (record { shape = refl; size_is = refl; contains_is = λ t. refl; fold_is = refl })
view_put (text p bs) l r f = leaf (record { shape = refl; size_is = ap (λ (n : ℕ). 19 + n) (be16_17 19 p _ _); contains_is = λ t. refl; fold_is = refl })
view_put (logical p o a b) l r f = two (record { shape = refl; left = a; right = b; begins_left = operand a (l - 1) (put_e b r) f.3; begins_right = later a b (l - 1) r f.4; size_is = refl; contains_is = λ t. refl; fold_is = refl })
view_put (compare p o a b) l r f = two (record { shape = refl; left = a; right = b; begins_left = operand a (l - 1) (put_e b r) f.3; begins_right = later a b (l - 1) r f.4; size_is = refl; contains_is = λ t. refl; fold_is = refl })
view_put (unary p o a) l r f = one 18 (record { shape = refl; far = omega arith; arg = a; begins = operand a (l - 1) r f.3; size_is = refl; contains_is = λ t. refl; fold_is = refl })
view_put (binary p o a b) l r f = two (record { shape = refl; left = a; right = b; begins_left = operand a (l - 1) (put_e b r) f.3; begins_right = later a b (l - 1) r f.4; size_is = refl; contains_is = λ t. refl; fold_is = refl })
view_put (hash p o a) l r f = one 18 (record { shape = refl; far = omega arith; arg = a; begins = operand a (l - 1) r f.3; size_is = refl; contains_is = λ t. refl; fold_is = refl })
view_put (checksig p) l r f = leaf (record { shape = refl; size_is = refl; contains_is = λ t. refl; fold_is = refl })
view_put (Expr.length p a) l r f = one 17 (record { shape = refl; far = omega arith; arg = a; begins = operand a (l - 1) r f.2; size_is = refl; contains_is = λ t. refl; fold_is = refl })

pub view : (e : Expr) (s : List ℕ) → Begins e s → View e s
view e s h = subst⁻¹ (View e) h.bytes (view_put e h.level h.rest h.fits)

-- ---- which of them it is, from the shape that the tag tells
leaf_one : {A : Type 0} (n : ℕ) → Shape.Leaf ≡ Shape.One n → A
leaf_one n e = let z : ◌≡◌ {A = ℕ} 0 1 = cc in absurd (omega arith)

leaf_two : {A : Type 0} → Shape.Leaf ≡ Shape.Two → A
leaf_two e = let z : ◌≡◌ {A = ℕ} 0 1 = cc in absurd (omega arith)

one_two : {A : Type 0} (n : ℕ) → Shape.One n ≡ Shape.Two → A
one_two n e = let z : ◌≡◌ {A = ℕ} 0 1 = cc in absurd (omega arith)

same_one : (m n : ℕ) → Shape.One m ≡ Shape.One n → m ≡ n
same_one m n e = cc

module _ (e : Expr) (s : List ℕ) (h : Begins e s) where
  pub leaf_at : shape_of (tag_at s) ≡ Shape.Leaf → LeafAt e s
  leaf_at q = by (view e s h)
    where
      by : View e s → LeafAt e s
      by (leaf a) = a
      by (one n a) = leaf_one n (sym q ∙ a.shape)
      by (two a) = leaf_two (sym q ∙ a.shape)

  pub one_at : (from : ℕ) → shape_of (tag_at s) ≡ Shape.One from → OneAt e s from
  one_at from q = by (view e s h)
    where
      by : View e s → OneAt e s from
      by (leaf a) = leaf_one from (sym a.shape ∙ q)
      by (one n a) = subst (OneAt e s) (same_one n from (sym a.shape ∙ q)) a
      by (two a) = one_two from (sym q ∙ a.shape)

  pub two_at : shape_of (tag_at s) ≡ Shape.Two → TwoAt e s
  two_at q = by (view e s h)
    where
      by : View e s → TwoAt e s
      by (leaf a) = leaf_two (sym a.shape ∙ q)
      by (one n a) = one_two n (sym a.shape ∙ q)
      by (two a) = a

-- ---- sizes
-- an expression is no longer than the bytes that begin with it, and has a tag and a location
pub size_fits : (e : Expr) (s : List ℕ) → Begins e s → size_e e ≤ length s
size_fits e s h = omega (arith, ap length h.bytes, length_e e h.rest)

pub size_least : (e : Expr) → 17 ≤ size_e e
unfolding size_e
size_least (variable p) = omega arith
size_least (number p z) = omega arith
size_least (boolean p b) = omega arith
size_least (text p bs) = omega arith
size_least (logical p o a b) = omega arith
size_least (compare p o a b) = omega arith
size_least (unary p o a) = omega arith
size_least (binary p o a b) = omega arith
size_least (hash p o a) = omega arith
size_least (checksig p) = omega arith
size_least (Expr.length p a) = omega arith

pub tagged : (s : List ℕ) → Holds s → 17 ≤ length s
tagged s h = omega (arith, size_fits h.expr s h.begins, size_least h.expr)

-- n is the size of the expression at the front of s, whichever it is
abbrev pub IsSize : ℕ → List ℕ → Type 0
IsSize n s = (e : Expr) → Begins e s → n ≡ size_e e

-- the same of a part from offset n on
pub part_size : (s : List ℕ) (n : ℕ) {r : List ℕ} {z : ℕ} → r ≡ drop n s → IsSize z r → IsSize z (drop n s)
part_size s n q k e h = k e (rw q h)

pub size_ok : (s : List ℕ) (n : ℕ) → Holds s → IsSize n s → n ≤ length s
size_ok s n h k = omega (arith, k h.expr h.begins, size_fits h.expr s h.begins)

-- ---- where the operands stand
-- an operand begins n bytes after the tag: the part from there on is shorter, and begins with an expression
pub record Operand (s : List ℕ) (n : ℕ) : Type 0 where
  pub room : n ≤ length s
  pub shorter : length (drop n s) < length s
  pub holds : Holds (drop n s)

operand_is : (s : List ℕ) (n : ℕ) (a : Expr) → 17 ≤ n → Begins a (drop n s) → Operand s n
operand_is s n a f b =
    let z : n ≤ length s = omega (arith, size_fits a (drop n s) b, size_least a, length-drop n s) in
    record { room = z; shorter = omega (arith, length-drop n s, z); holds = record { expr = a; begins = b } }

module _ (s : List ℕ) (h : Holds s) where
  pub only : (from : ℕ) → shape_of (tag_at s) ≡ Shape.One from → Operand s from
  only from q = let a = one_at h.expr s h.begins from q in operand_is s from a.arg a.far a.begins

  module _ (q : shape_of (tag_at s) ≡ Shape.Two) where
    pub first : Operand s 18
    first = let a = two_at h.expr s h.begins q in operand_is s 18 a.left (omega arith) a.begins_left

    -- n is the size of the first
    pub second : (n : ℕ) → IsSize n (drop 18 s) → Operand (drop 18 s) n
    second n k =
        let a = two_at h.expr s h.begins q in
        let z = k a.left a.begins_left in
        operand_is (drop 18 s) n a.right (omega (arith, z, size_least a.left)) (rw z a.begins_right)

-- p is what stands behind n bytes of s, and an expression begins there
pub record Part (s : List ℕ) (n : ℕ) (p : List ℕ) : Type 0 where
  pub long : n + length p ≡ length s
  pub shorter : length p < length s
  pub holds : ∥ Holds p ∥₁

-- ---- what an `Expression` knows: that its bytes s begin with one, and not which
module _ (s : List ℕ) (t : ∥ Holds s ∥₁) where
  pub tagged_known : 17 ≤ length s
  tagged_known = ∥∥₁_elim t le_prop (tagged s)

  pub leaf_room : shape_of (tag_at s) ≡ Shape.Leaf → leaf_size s ≤ length s
  leaf_room q = ∥∥₁_elim t le_prop (λ h. size_ok s (leaf_size s) h (λ e b. (leaf_at e s b q).size_is))

  pub size_room : {n : ℕ} → IsSize n s → n ≤ length s
  size_room {n} k = ∥∥₁_elim t le_prop (λ h. size_ok s n h k)

  -- the part p behind n bytes of it is an operand
  operand_room : (n : ℕ) → (Holds s → Operand s n) → n ≤ length s
  operand_room n f = ∥∥₁_elim t le_prop (λ h. (f h).room)

  operand_known : (n : ℕ) → (Holds s → Operand s n) → {p : List ℕ} → p ≡ drop n s → Part s n p
  operand_known n f i =
      rw i (record {
        long = omega (arith, length-drop n s, operand_room n f);
        shorter = ∥∥₁_elim t le_prop (λ h. (f h).shorter);
        holds = ∥∥₁_map t (λ h. (f h).holds);
      })

  module _ {from : ℕ} (q : shape_of (tag_at s) ≡ Shape.One from) where
    pub only_room : from ≤ length s
    only_room = operand_room from (λ h. only s h from q)

    pub only_part : {p : List ℕ} → p ≡ drop from s → Part s from p
    only_part = operand_known from (λ h. only s h from q)

  module _ (q : shape_of (tag_at s) ≡ Shape.Two) where
    pub left_room : 18 ≤ length s
    left_room = operand_room 18 (λ h. first s h q)

    pub left_part : {p : List ℕ} → p ≡ drop 18 s → Part s 18 p
    left_part = operand_known 18 (λ h. first s h q)

    -- n is the size of the first
    module _ (n : ℕ) (k : IsSize n (drop 18 s)) where
      behind : Holds s → Operand s (18 + n)
      behind h =
          let a = first s h q in
          let b = second s h q n k in
          let e = drop-drop n 18 s in
          record {
            room = omega (arith, a.room, b.room, length-drop 18 s);
            shorter = let x : length (drop n (drop 18 s)) < length s = omega (arith, a.shorter, b.shorter) in rw e at x;
            holds = rw e at b.holds;
          }

      pub right_room : 18 + n ≤ length s
      right_room = operand_room (18 + n) behind

      pub right_part : {p : List ℕ} → p ≡ drop (18 + n) s → Part s (18 + n) p
      right_part = operand_known (18 + n) behind

-- ---- the size from those of the operands
module _ (s : List ℕ) where
  pub leaf_size_lem : shape_of (tag_at s) ≡ Shape.Leaf → IsSize (leaf_size s) s
  leaf_size_lem q e h = (leaf_at e s h q).size_is

  pub one_size : {from n : ℕ} → Shape.One from ≡ shape_of (tag_at s) → {p : List ℕ} → p ≡ drop from s → IsSize n p → IsSize (from + n) s
  one_size {from} q i k e h = let a = one_at e s h from (sym q) in omega (arith, a.size_is, k a.arg (rw i a.begins))

  pub two_size : {n m : ℕ} → Shape.Two ≡ shape_of (tag_at s) → {l r : List ℕ} → l ≡ drop 18 s → IsSize n l → r ≡ drop (18 + n) s → IsSize m r → IsSize (18 + n + m) s
  two_size {n} q i k j o e h =
      let a = two_at e s h (sym q) in
      let z = k a.left (rw i a.begins_left) in
      omega (arith, a.size_is, z, o a.right (rw (j, ← drop-drop n 18 s, z) a.begins_right))
