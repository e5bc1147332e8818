-- What an expression's first bytes tell of its translation: the plan, and what the definition's translation is under each plan.
use Rattle.std.specs.Prelude.{Option, Some, None}
use Prim.Native.Nat.{ℕ, ◌+◌, ◌-◌, ◌≤◌, ◌<◌}
use mathlib.Core.Path.{◌≡◌, refl, sym, ap, subst⁻¹, ◌∙◌}
use mathlib.Core.Bool.{Bool, true, false, not, beq}
use mathlib.Core.List.{List}
use native.Mathlib.Omega.{arith}
use lib.Dec.{eqb, ltb}
use lib.ListN.{length, get_or, drop}
use lib.Seq.{drop-drop}
use borrow.Author.Tests.{ne_eqb, lt-ltb, le-ltb}
use Rattle.definition.specs.declared.Folded.{Folded}
use Rattle.definition.specs.declared.Folded.TheVariants.{Value, Nothing}
use Rattle.definition.specs.declared.Location.{Location}
use Rattle.definition.specs.Bytes.{when◌then◌else◌}
use Rattle.definition.specs.Tree.{Expr, variable, number, boolean, text, logical, compare, unary, binary, hash, checksig}
use Rattle.definition.specs.Writing.{put_e, size_e, nodes_e, FitE}
use Rattle.definition.specs.Begins.{Begins, Holds}
use Rattle.definition.specs.Reading.{location_of}
use Rattle.definition.specs.Folding.{fold, flag, is_zero, same_z, contains}
use Rattle.definition.specs.Formula.{Const, Not, Atoms, Made, made, on_made, sided, joined, by_fold, sig_atom, otherwise, Literal, truth, none, literal_of, beside, translate}
use Rattle.definition.proofs.Numbers.{loc_back}
use Rattle.folding.proofs.View.{tag_at, IsSize, Operand, tagged, only, first, second, operand, later}
use Rattle.folding.proofs.Values.{boolean_room, op_room}
use Rattle.folding.specs.Shape.{shape_of}
use Rattle.formula.specs.declared.Plan.{Plan}
use Rattle.formula.specs.Plans.{beside_of, beside_plan, plan_of}

-- ---- what is planned

-- the op of an expression, or a boolean
abbrev pub op_at : List ℕ → ℕ
op_at s = get_or s 17 0

literal_put : (e : Expr) (r : List ℕ) → (when eqb (tag_at (put_e e r)) 18 then Some (eqb (op_at (put_e e r)) 1) else None) ≡ beside_of (literal_of e)
unfolding put_e literal_of when◌then◌else◌
literal_put (variable p) r = refl
literal_put (number p z) r = refl
literal_put (boolean p b) r = refl
literal_put (text p bs) r = refl
literal_put (logical p o a b) r = refl
literal_put (compare p o a b) r = refl
literal_put (unary p o a) r = refl
literal_put (binary p o a b) r = refl
literal_put (hash p o a) r = refl
literal_put (checksig p) r = refl
literal_put (Expr.length p a) r = refl

plan_put : (e : Expr) (r : List ℕ) →
    (when eqb (tag_at (put_e e r)) 20 then Plan.Two (op_at (put_e e r)) else
    when eqb (tag_at (put_e e r)) 21 then plan_of e else
    when eqb (tag_at (put_e e r)) 22 then (when eqb (op_at (put_e e r)) 4 then Plan.One 18 false else Plan.Whole) else
    Plan.Whole) ≡ plan_of e
unfolding put_e plan_of when◌then◌else◌
plan_put (variable p) r = refl
plan_put (number p z) r = refl
plan_put (boolean p b) r = refl
plan_put (text p bs) r = refl
plan_put (logical p o a b) r = refl
plan_put (compare p o a b) r = refl
plan_put (unary p o a) r = refl
plan_put (binary p o a b) r = refl
plan_put (hash p o a) r = refl
plan_put (checksig p) r = refl
plan_put (Expr.length p a) r = refl

-- a comparison with its sides
record Compared (e : Expr) (s : List ℕ) : Type 0 where
  pub left : Expr
  pub right : Expr
  pub begins_left : Begins left (drop 18 s)
  pub begins_right : Begins right (drop (size_e left) (drop 18 s))
  pub plan : (when ltb (op_at s) 2 then beside_plan (op_at s) (literal_of right) 18 (beside_plan (op_at s) (literal_of left) (18 + size_e left) Plan.Whole) else Plan.Whole) ≡ plan_of e

compared_put : (e : Expr) (l : ℕ) (r : List ℕ) → FitE e l → tag_at (put_e e r) ≡ 21 → Compared e (put_e e r)
unfolding put_e FitE plan_of
compared_put (variable p) l r f t = absurd (omega (arith, t))
compared_put (number p z) l r f t = absurd (omega (arith, t))
compared_put (boolean p b) l r f t = absurd (omega (arith, t))
compared_put (text p bs) l r f t = absurd (omega (arith, t))
compared_put (logical p o a b) l r f t = absurd (omega (arith, t))
compared_put (compare p o a b) l r f t = record { left = a; right = b; begins_left = operand a (l - 1) (put_e b r) f.3; begins_right = later a b (l - 1) r f.4; plan = refl }
compared_put (unary p o a) l r f t = absurd (omega (arith, t))
compared_put (binary p o a b) l r f t = absurd (omega (arith, t))
compared_put (hash p o a) l r f t = absurd (omega (arith, t))
compared_put (checksig p) l r f t = absurd (omega (arith, t))
compared_put (Expr.length p a) l r f t = absurd (omega (arith, t))

module _ (e : Expr) (s : List ℕ) (h : Begins e s) where
  literal_is : (when eqb (tag_at s) 18 then Some (eqb (op_at s) 1) else None) ≡ beside_of (literal_of e)
  literal_is = rw h.bytes (literal_put e h.rest)

  pub literal_yes : tag_at s ≡ 18 → Some (eqb (op_at s) 1) ≡ beside_of (literal_of e)
  unfolding when◌then◌else◌
  literal_yes t = let z = literal_is in rw t at z

  pub literal_no : (tag_at s ≡ 18 → ⊥) → None ≡ beside_of (literal_of e)
  unfolding when◌then◌else◌
  literal_no t = let z = literal_is in rw (ne_eqb (tag_at s) 18 t) at z

  plan-is :
      (when eqb (tag_at s) 20 then Plan.Two (op_at s) else
      when eqb (tag_at s) 21 then plan_of e else
      when eqb (tag_at s) 22 then (when eqb (op_at s) 4 then Plan.One 18 false else Plan.Whole) else
      Plan.Whole) ≡ plan_of e
  plan-is = rw h.bytes (plan_put e h.rest)

  pub plan_two : tag_at s ≡ 20 → Plan.Two (op_at s) ≡ plan_of e
  unfolding when◌then◌else◌
  plan_two t = let z = plan-is in rw t at z

  pub plan_not : tag_at s ≡ 22 → op_at s ≡ 4 → Plan.One 18 false ≡ plan_of e
  unfolding when◌then◌else◌
  plan_not t o = let z = plan-is in rw (t, o) at z

  pub plan_unary : tag_at s ≡ 22 → (op_at s ≡ 4 → ⊥) → Plan.Whole ≡ plan_of e
  unfolding when◌then◌else◌
  plan_unary t o = let z = plan-is in rw (t, ne_eqb (op_at s) 4 o) at z

  pub plan_whole : (tag_at s ≡ 20 → ⊥) → (tag_at s ≡ 21 → ⊥) → (tag_at s ≡ 22 → ⊥) → Plan.Whole ≡ plan_of e
  unfolding when◌then◌else◌
  plan_whole a b c = let z = plan-is in rw (ne_eqb (tag_at s) 20 a, ne_eqb (tag_at s) 21 b, ne_eqb (tag_at s) 22 c) at z

  compared : tag_at s ≡ 21 → Compared e s
  compared t = subst⁻¹ (Compared e) h.bytes (compared_put e h.level h.rest h.fits (rw h.bytes at t))

-- ---- a comparison's plan, from what the code finds beside its sides
truth_beside : (l : Literal) (b : Bool) → beside_of l ≡ Some b → l ≡ truth b
truth_beside (truth a) b q = let e : a ≡ b = cc in ap truth e
truth_beside none b q = cc

none_beside : (l : Literal) → beside_of l ≡ None → l ≡ none
none_beside (truth a) q = cc
none_beside none q = refl

-- the side that is taken beside it
side_is : (b t : Bool) → beq b t ≡ (when t then b else not b)
unfolding when◌then◌else◌
side_is true true = refl
side_is true false = refl
side_is false true = refl
side_is false false = refl

-- r is the literal at the front of s
abbrev pub IsBeside : Option Bool → List ℕ → Type 0
IsBeside r s = (e : Expr) → Begins e s → r ≡ beside_of (literal_of e)

module _ (e : Expr) (s : List ℕ) (h : Begins e s) (t : tag_at s ≡ 21) where
  pub plan_over : 1 < op_at s → Plan.Whole ≡ plan_of e
  unfolding when◌then◌else◌
  plan_over o = let z = (compared e s h t).plan in rw (le-ltb (op_at s) 2 (omega arith)) at z

  -- n is the size of the left side, x and y the literals that the sides are
  module _ (o : op_at s ≤ 1) (n : ℕ) (sized : IsSize n (drop 18 s)) (y : Option Bool) (right : IsBeside y (drop n (drop 18 s))) where
    right_is : y ≡ beside_of (literal_of (compared e s h t).right)
    right_is = let c = compared e s h t in let z = sized c.left c.begins_left in right c.right (rw z c.begins_right)

    pub plan_right : (b : Bool) → y ≡ Some b → Plan.One 18 (beq b (eqb (op_at s) 0)) ≡ plan_of e
    unfolding when◌then◌else◌ beside_plan
    plan_right b q =
        let z = (compared e s h t).plan in
        let l = truth_beside _ b (sym right_is ∙ q) in
        rw (side_is b (eqb (op_at s) 0)) (rw (lt-ltb (op_at s) 2 (omega arith), l) at z)

    module _ (q : y ≡ None) (x : Option Bool) (left : IsBeside x (drop 18 s)) where
      left_is : x ≡ beside_of (literal_of (compared e s h t).left)
      left_is = let c = compared e s h t in left c.left c.begins_left

      pub plan_left : (b : Bool) → x ≡ Some b → Plan.One (18 + n) (beq b (eqb (op_at s) 0)) ≡ plan_of e
      unfolding when◌then◌else◌ beside_plan
      plan_left b u =
          let c = compared e s h t in
          let z = c.plan in
          let l = none_beside _ (sym right_is ∙ q) in
          let k = truth_beside _ b (sym left_is ∙ u) in
          let m = sized c.left c.begins_left in
          rw (m, side_is b (eqb (op_at s) 0)) (rw (lt-ltb (op_at s) 2 (omega arith), l, k) at z)

      pub plan_neither : x ≡ None → Plan.Whole ≡ plan_of e
      unfolding when◌then◌else◌ beside_plan
      plan_neither u =
          let z = (compared e s h t).plan in
          let l = none_beside _ (sym right_is ∙ q) in
          let k = none_beside _ (sym left_is ∙ u) in
          rw (lt-ltb (op_at s) 2 (omega arith), l, k) at z

-- ---- where the op and the operands stand
module _ (s : List ℕ) where
  module _ (h : Holds s) where
    pub boolean_byte : tag_at s ≡ 18 → 17 < length s
    unfolding shape_of when◌then◌else◌
    boolean_byte t = omega (arith, boolean_room s (ap shape_of t) t h)

    pub logical_op : tag_at s ≡ 20 → 17 < length s
    unfolding shape_of when◌then◌else◌
    logical_op t = op_room (first s h (ap shape_of t))

    pub unary_op : tag_at s ≡ 22 → 17 < length s
    unfolding shape_of when◌then◌else◌
    unary_op t = op_room (only s h 18 (ap shape_of t))

    module _ (t : tag_at s ≡ 21) where
      pub compare_left : Operand s 18
      unfolding shape_of when◌then◌else◌
      compare_left = first s h (ap shape_of t)

      pub compare_op : 17 < length s
      compare_op = op_room compare_left

      pub compare_right : (n : ℕ) → IsSize n (drop 18 s) → Operand (drop 18 s) n
      unfolding shape_of when◌then◌else◌
      compare_right n k = second s h (ap shape_of t) n k

-- what a tag tells of room and of plans
pub ruleset by_tag = (tagged, boolean_byte, logical_op, unary_op, compare_op, literal_yes, plan_two, plan_not, plan_unary)

-- ---- taken as a whole
-- a number that is 1 or 0 as a truth value
truth_back : (b : Bool) → not (is_zero (flag b)) ≡ b
unfolding is_zero same_z flag
truth_back true = refl
truth_back false = refl

-- what a truth value is worth
pub truth_worth : (r : Folded) (b : Bool) (a : Atoms) (m : Made) → r ≡ Value (flag b) → made (Const b) a ≡ m → by_fold r a ≡ m
unfolding by_fold
truth_worth r b a m e q = rw (e, truth_back b) q

-- what is planned for a comparison by the op o whose left side is x, by whether that op is Equal or NotEqual and by its sides' literals
abbrev compare_plan : ℕ → Expr → Bool → Literal → Literal → Plan
compare_plan o x t right left = when t then beside_plan o right 18 (beside_plan o left (18 + size_e x) Plan.Whole) else Plan.Whole

-- a comparison under its plan
module _ (mode : ℕ) (p : Location) (o : ℕ) (x y : Expr) (a : Atoms) where
  abbrev Makes : Bool → Literal → Literal → Made
  Makes t right left = when t then beside o right 18 (translate mode x a) (beside o left (18 + size_e x) (translate mode y a) (otherwise (compare p o x y) a)) else otherwise (compare p o x y) a

  compare_whole : (t : Bool) (right left : Literal) → compare_plan o x t right left ≡ Plan.Whole → otherwise (compare p o x y) a ≡ Makes t right left
  unfolding when◌then◌else◌ beside_plan beside
  compare_whole false right left q = refl
  compare_whole true none none q = refl
  compare_whole true none (truth b) q = cc
  compare_whole true (truth b) left q = cc

whole_put : (e : Expr) (r : List ℕ) → plan_of e ≡ Plan.Whole → (tag_at (put_e e r) ≡ 19 → ⊥) → (tag_at (put_e e r) ≡ 25 → ⊥) → (mode : ℕ) (a : Atoms) → otherwise e a ≡ translate mode e a
unfolding put_e plan_of translate otherwise contains fold by_fold when◌then◌else◌
whole_put (variable p) r q n m mode a = refl
whole_put (number p z) r q n m mode a = refl
whole_put (boolean p b) r q n m mode a = ap (λ (t : Bool). made (Const t) a) (truth_back (eqb b 1))
whole_put (text p bs) r q n m mode a = absurd (n refl)
whole_put (logical p o x y) r q n m mode a = cc
whole_put (compare p o x y) r q n m mode a = compare_whole mode p o x y a (ltb o 2) (literal_of y) (literal_of x) q
whole_put (unary p o x) r q n m mode a = by (eqb o 4) q
  where
    by : (t : Bool) → (when t then Plan.One 18 false else Plan.Whole) ≡ Plan.Whole → otherwise (unary p o x) a ≡ (when t then on_made 18 (translate mode x a) (λ f b. made (Not f) b) else otherwise (unary p o x) a)
    by true e = cc
    by false e = refl
whole_put (binary p o x y) r q n m mode a = refl
whole_put (hash p o x) r q n m mode a = refl
whole_put (checksig p) r q n m mode a = absurd (m refl)
whole_put (Expr.length p x) r q n m mode a = refl

sig_put : (e : Expr) (r : List ℕ) → tag_at (put_e e r) ≡ 25 → (mode : ℕ) (a : Atoms) → sig_atom (location_of (put_e e r)) a ≡ translate mode e a
unfolding put_e translate
sig_put (variable p) r t mode a = absurd (omega (arith, t))
sig_put (number p z) r t mode a = absurd (omega (arith, t))
sig_put (boolean p b) r t mode a = absurd (omega (arith, t))
sig_put (text p bs) r t mode a = absurd (omega (arith, t))
sig_put (logical p o x y) r t mode a = absurd (omega (arith, t))
sig_put (compare p o x y) r t mode a = absurd (omega (arith, t))
sig_put (unary p o x) r t mode a = absurd (omega (arith, t))
sig_put (binary p o x y) r t mode a = absurd (omega (arith, t))
sig_put (hash p o x) r t mode a = absurd (omega (arith, t))
sig_put (checksig p) r t mode a = ap (λ (q : Location). sig_atom q a) (loc_back 25 p r)
sig_put (Expr.length p x) r t mode a = absurd (omega (arith, t))

module _ (e : Expr) (s : List ℕ) (h : Begins e s) (mode : ℕ) (a : Atoms) where
  pub sig_is : tag_at s ≡ 25 → sig_atom (location_of s) a ≡ translate mode e a
  sig_is t = rw h.bytes (sig_put e h.rest (rw h.bytes at t) mode a)

  -- what is no string and no checksig
  module _ (q : plan_of e ≡ Plan.Whole) (n : tag_at s ≡ 19 → ⊥) (m : tag_at s ≡ 25 → ⊥) where
    whole_is : otherwise e a ≡ translate mode e a
    whole_is = whole_put e h.rest q (λ t. n (rw h.bytes t)) (λ t. m (rw h.bytes t)) mode a

    -- with a checksig in it, or a variable: a Free atom; with neither: what it folds to
    pub holds_checksig : contains 25 e ≡ true → by_fold Nothing a ≡ translate mode e a
    unfolding otherwise by_fold when◌then◌else◌
    holds_checksig c = let z = whole_is in rw c at z

    pub holds_variable : contains 25 e ≡ false → contains 16 e ≡ true → by_fold Nothing a ≡ translate mode e a
    unfolding otherwise by_fold when◌then◌else◌
    holds_variable c v = let z = whole_is in rw (c, v) at z

    pub folds : contains 25 e ≡ false → contains 16 e ≡ false → by_fold (fold e) a ≡ translate mode e a
    unfolding otherwise when◌then◌else◌
    folds c v = let z = whole_is in rw (c, v) at z

-- ---- taken as one operand, or as two

-- the operand that begins n bytes on, or its negation
pub record OneBy (e : Expr) (s : List ℕ) (n : ℕ) (side : Bool) : Type 0 where
  pub arg : Expr
  pub begins : Begins arg (drop n s)
  pub far : 17 ≤ n
  pub nodes : 1 + nodes_e arg ≤ nodes_e e
  pub size : n + size_e arg ≤ size_e e
  pub is : (mode : ℕ) (a : Atoms) → translate mode e a ≡ on_made n (translate mode arg a) (λ f b. made (sided side f) b)

-- two operands, joined by the op
pub record TwoBy (e : Expr) (s : List ℕ) (op : ℕ) : Type 0 where
  pub left : Expr
  pub right : Expr
  pub begins_left : Begins left (drop 18 s)
  pub begins_right : Begins right (drop (size_e left) (drop 18 s))
  pub nodes : nodes_e e ≡ 1 + (nodes_e left + nodes_e right)
  pub size : size_e e ≡ 18 + size_e left + size_e right
  pub is : (mode : ℕ) (a : Atoms) → translate mode e a ≡ on_made 18 (translate mode left a) (λ f b. on_made (18 + size_e left) (translate mode right b) (λ g c. made (joined op f g) c))

-- a comparison beside a literal
module _ (p : Location) (o : ℕ) (x y : Expr) (l : ℕ) (r : List ℕ) (fx : FitE x (l - 1)) (fy : FitE y (l - 1)) (n : ℕ) (side : Bool) where
  compare_one : (t : Bool) (right left : Literal) → ltb o 2 ≡ t → literal_of y ≡ right → literal_of x ≡ left
      → compare_plan o x t right left ≡ Plan.One n side → OneBy (compare p o x y) (put_e (compare p o x y) r) n side
  unfolding put_e size_e nodes_e translate when◌then◌else◌ beside_plan beside
  compare_one false right left et er el q = cc
  compare_one true none none et er el q = cc
  compare_one true none (truth b) et er el q =
      let en : n ≡ 18 + size_e x = cc in
      let es : side ≡ (when eqb o 0 then b else not b) = cc in
      record {
        arg = y;
        begins = rw (en, ← drop-drop (size_e x) 18 (put_e (compare p o x y) r)) (later x y (l - 1) r fy);
        far = omega (arith, en);
        nodes = omega arith;
        size = omega (arith, en);
        is = λ mode a. rw (et, er, el, en, es);
      }
  compare_one true (truth b) left et er el q =
      let en : n ≡ 18 = cc in
      let es : side ≡ (when eqb o 0 then b else not b) = cc in
      record {
        arg = x;
        begins = rw en (operand x (l - 1) (put_e y r) fx);
        far = omega (arith, en);
        nodes = omega arith;
        size = omega (arith, en);
        is = λ mode a. rw (et, er, en, es);
      }

-- a negation
unary_one : (p : Location) (o : ℕ) (x : Expr) (l : ℕ) (r : List ℕ) (n : ℕ) (side : Bool) → FitE x (l - 1) → (t : Bool) → eqb o 4 ≡ t
    → (when t then Plan.One 18 false else Plan.Whole) ≡ Plan.One n side → OneBy (unary p o x) (put_e (unary p o x) r) n side
unfolding put_e size_e nodes_e translate sided when◌then◌else◌
unary_one p o x l r n side f false t q = cc
unary_one p o x l r n side f true t q =
    let en : n ≡ 18 = cc in
    let es : side ≡ false = cc in
    record {
      arg = x;
      begins = rw en (operand x (l - 1) r f);
      far = omega (arith, en);
      nodes = omega arith;
      size = omega (arith, en);
      is = λ mode a. rw (t, en, es);
    }

one_put : (e : Expr) (l : ℕ) (r : List ℕ) (n : ℕ) (side : Bool) → FitE e l → plan_of e ≡ Plan.One n side → OneBy e (put_e e r) n side
unfolding plan_of FitE
one_put (variable p) l r n side f q = cc
one_put (number p z) l r n side f q = cc
one_put (boolean p b) l r n side f q = cc
one_put (text p bs) l r n side f q = cc
one_put (logical p o x y) l r n side f q = cc
one_put (compare p o x y) l r n side f q = compare_one p o x y l r f.3 f.4 n side (ltb o 2) (literal_of y) (literal_of x) refl refl refl q
one_put (unary p o x) l r n side f q = unary_one p o x l r n side f.3 (eqb o 4) refl q
one_put (binary p o x y) l r n side f q = cc
one_put (hash p o x) l r n side f q = cc
one_put (checksig p) l r n side f q = cc
one_put (Expr.length p x) l r n side f q = cc

-- a comparison or a negation is never taken as two
compare_two : {A : Type 0} (o op : ℕ) (x : Expr) (t : Bool) (right left : Literal) → compare_plan o x t right left ≡ Plan.Two op → A
unfolding when◌then◌else◌ beside_plan
compare_two o op x false right left q = cc
compare_two o op x true none none q = cc
compare_two o op x true none (truth b) q = cc
compare_two o op x true (truth b) left q = cc

unary_two : {A : Type 0} (op : ℕ) (t : Bool) → (when t then Plan.One 18 false else Plan.Whole) ≡ Plan.Two op → A
unfolding when◌then◌else◌
unary_two op true q = cc
unary_two op false q = cc

two_put : (e : Expr) (l : ℕ) (r : List ℕ) (op : ℕ) → FitE e l → plan_of e ≡ Plan.Two op → TwoBy e (put_e e r) op
unfolding put_e plan_of FitE size_e nodes_e translate
two_put (variable p) l r op f q = cc
two_put (number p z) l r op f q = cc
two_put (boolean p b) l r op f q = cc
two_put (text p bs) l r op f q = cc
two_put (logical p o x y) l r op f q =
    let e : o ≡ op = cc in
    record { left = x; right = y; begins_left = operand x (l - 1) (put_e y r) f.3; begins_right = later x y (l - 1) r f.4; nodes = refl; size = refl; is = λ mode a. rw e }
two_put (compare p o x y) l r op f q = compare_two o op x (ltb o 2) (literal_of y) (literal_of x) q
two_put (unary p o x) l r op f q = unary_two op (eqb o 4) q
two_put (binary p o x y) l r op f q = cc
two_put (hash p o x) l r op f q = cc
two_put (checksig p) l r op f q = cc
two_put (Expr.length p x) l r op f q = cc

module _ (e : Expr) (s : List ℕ) (h : Begins e s) where
  pub one_by : (n : ℕ) (side : Bool) → plan_of e ≡ Plan.One n side → OneBy e s n side
  one_by n side q = subst⁻¹ (λ (t : List ℕ). OneBy e t n side) h.bytes (one_put e h.level h.rest n side h.fits q)

  pub two_by : (op : ℕ) → plan_of e ≡ Plan.Two op → TwoBy e s op
  two_by op q = subst⁻¹ (λ (t : List ℕ). TwoBy e t op) h.bytes (two_put e h.level h.rest op h.fits q)
