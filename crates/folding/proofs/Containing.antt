-- Whether a leaf of a tag stands in an expression, from its operands: first the first one, and the second where that has none.
use mathlib.Core.Path.{◌≡◌, sym, ◌∙◌}
use mathlib.Core.Bool.{Bool, true, false}
use mathlib.Core.List.{List}
use Prim.Native.Nat.{ℕ, ◌+◌}
use lib.ListN.{drop}
use lib.Seq.{drop-drop}
use lib.Dec.{eqb}
use Rattle.definition.specs.Tree.{Expr}
use Rattle.definition.specs.Begins.{Begins}
use Rattle.definition.specs.Folding.{contains}
use Rattle.folding.specs.declared.Shape.{Shape}
use Rattle.folding.specs.Shape.{shape_of}
use Rattle.folding.proofs.View.{tag_at, leaf_at, one_at, two_at, IsSize}

-- r tells whether a leaf of the tag stands in the expression at the front of s, whichever it is
abbrev pub Tells : ℕ → Bool → List ℕ → Type 0
Tells what r s = (e : Expr) → Begins e s → r ≡ contains what e

module _ (what : ℕ) (s : List ℕ) where
  pub leaf_tells : shape_of (tag_at s) ≡ Shape.Leaf → Tells what (eqb what (tag_at s)) s
  leaf_tells q e h = sym ((leaf_at e s h q).contains_is what)

  pub one_tells : {from : ℕ} {r : Bool} → Shape.One from ≡ shape_of (tag_at s) → {p : List ℕ} → p ≡ drop from s → Tells what r p → Tells what r s
  one_tells {from} q i k e h = let a = one_at e s h from (sym q) in k a.arg (rw i a.begins) ∙ sym (a.contains_is what)

  module _ (q : Shape.Two ≡ shape_of (tag_at s)) {l : List ℕ} (i : l ≡ drop 18 s) {t : Bool} (k : Tells what t l) where
    pub first_tells : t ≡ true → Tells what true s
    first_tells y e h = let a = two_at e s h (sym q) in rw (a.contains_is what, ← k a.left (rw i a.begins_left), y)

    -- n is the size of the first
    pub second_tells : t ≡ false → {n : ℕ} → IsSize n l → {r : List ℕ} → r ≡ drop (18 + n) s → {u : Bool} → Tells what u r → Tells what u s
    second_tells y {n} sized j o e h =
        let a = two_at e s h (sym q) in
        rw (a.contains_is what, ← k a.left (rw i a.begins_left), y) (o a.right (rw (j, ← drop-drop n 18 s, sized a.left (rw i a.begins_left)) a.begins_right))
