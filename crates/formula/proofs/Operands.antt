-- The operands of an expression, by its plan: what each call of the translation asks and tells, and what the expression makes of it. One record
-- for each step: planned, one operand or its negation, the left operand, what is there when it is written, the right operand.
use Rattle.std.specs.Prelude.{Ok, Err}
use Prim.Native.Nat.{ℕ, ◌+◌, ◌-◌, ◌≤◌, ◌<◌}
use mathlib.Core.Path.{◌≡◌, sym, ap, ◌∙◌}
use mathlib.Core.Bool.{Bool}
use mathlib.Core.List.{List}
use native.Mathlib.Omega.{arith}
use lib.ListN.{length, drop, length-drop}
use Rattle.definition.specs.Tree.{Expr}
use Rattle.definition.specs.Writing.{size_e, nodes_e}
use Rattle.definition.specs.Begins.{Begins}
use Rattle.definition.specs.Formula.{Atoms, Made, translate}
use Rattle.folding.proofs.View.{IsSize, part_size, Operand, size_fits, size_least}
use Rattle.evaluation.specs.Words.{join_word}
use Rattle.formula.specs.declared.Counts.{Counts}
use Rattle.formula.specs.declared.Overflow.{Overflow}
use Rattle.formula.specs.declared.Area.{Area}
use Rattle.formula.specs.declared.Plan.{Plan}
use Rattle.formula.specs.Plans.{plan_of}
use Rattle.formula.specs.Areas.{one_more, Tied, Ready, SidedReady, Forms, on_side, moved}
use Rattle.formula.proofs.Plans.{OneBy, TwoBy, one_by, two_by}
use Rattle.formula.proofs.Growing.{grows, keeps}
use Rattle.formula.proofs.Results.{Formed, with_word, Mid, mid_of, mid_tied, room_mid, result_as, one_result, stop_result, not_moved, sided_within, stop_within, pair_result}

-- what is told of the expression at the front of s, whichever it is: of what its translation makes, behind what is written
abbrev pub Told : (Made → Made) → ℕ → List ℕ → Counts → Formed → Area → Area → Type 0
Told of mode s at r area area' = (e : Expr) → Begins e s → (a : Atoms) → Tied a at area.sigs → Forms (of (translate mode e a)) at.words r area area'

-- what it makes itself
abbrev pub itself : Made → Made
itself m = m

-- the same of a part and of counts by other names
pub told_as : (of : Made → Made) (mode : ℕ) {s s' : List ℕ} {at at' : Counts} (r : Formed) (area area' : Area) → s' ≡ s → at' ≡ at → Told of mode s' at' r area area' → Told of mode s at r area area'
told_as of mode r area area' p q g e b a t = rw q at (g e (rw p b) a (rw q t))

-- p is the plan for the expression at the front of s
abbrev pub IsPlan : Plan → List ℕ → Type 0
IsPlan p s = (e : Expr) → Begins e s → p ≡ plan_of e

-- ---- the steps

-- one operand, which begins n bytes on, or its negation
pub record AsOne (s : List ℕ) (at : Counts) (area : Area) (n : ℕ) (side : Bool) : Type 0 where
  pub room : n ≤ length s
  pub shorter : length (drop n s) < length s
  pub ready : SidedReady (drop n s) at area.sigs
  pub far : (mode : ℕ) (r : Formed) (area' : Area) → Told (on_side side) mode (drop n s) at r area area' → (o : Overflow) → r ≡ Err o → n + o.at < length s
  pub returns : (mode : ℕ) (r : Formed) (area' : Area) → Told (on_side side) mode (drop n s) at r area area' → (r' : Formed) → r' ≡ moved n r → Told itself mode s at r' area area'

-- the right operand, behind a left one of n bytes
pub record AsRight (s : List ℕ) (at : Counts) (area : Area) (op mode : ℕ) (mid : Counts) (area₁ : Area) (n : ℕ) : Type 0 where
  pub operand : Operand (drop 18 s) n
  pub ready : Ready (drop n (drop 18 s)) mid area₁.sigs
  pub far : (v : ℕ) (r : Formed) (area₂ : Area) → Told itself mode (drop n (drop 18 s)) mid r (with_word area₁ at.words v) area₂ → (o : Overflow) → r ≡ Err o → 18 + n + o.at < length s
  pub returns : (v : ℕ) (r : Formed) (area₂ : Area) → Told itself mode (drop n (drop 18 s)) mid r (with_word area₁ at.words v) area₂
      → v ≡ join_word op (mid.words - (at.words + 1)) → (r' : Formed) → r' ≡ moved (18 + n) r → Told itself mode s at r' area area₂

-- the left operand is written
pub record AsMid (s : List ℕ) (at : Counts) (area : Area) (op mode : ℕ) (mid : Counts) (area₁ : Area) : Type 0 where
  pub least : at.words + 1 ≤ mid.words
  pub most : mid.words ≤ 2049
  pub right : (n : ℕ) → IsSize n (drop 18 s) → AsRight s at area op mode mid area₁ n

-- what is told of the left operand is r
pub record AsLeft (s : List ℕ) (at : Counts) (area : Area) (op mode : ℕ) (r : Formed) (area₁ : Area) : Type 0 where
  pub far : (o : Overflow) → r ≡ Err o → 18 + o.at < length s
  pub stops : (r' : Formed) → r' ≡ moved 18 r → (o : Overflow) → r' ≡ Err o → Told itself mode s at (Err o) area area₁
  pub written : (r' : Formed) → r' ≡ moved 18 r → (mid : Counts) → r' ≡ Ok mid → AsMid s at area op mode mid area₁

-- two operands, joined by the op
pub record AsTwo (s : List ℕ) (at : Counts) (area : Area) (op : ℕ) : Type 0 where
  pub operand : Operand s 18
  pub ready : Ready (drop 18 s) (one_more at) area.sigs
  pub left : (mode : ℕ) (r : Formed) (area₁ : Area) → Told itself mode (drop 18 s) (one_more at) r area area₁ → AsLeft s at area op mode r area₁

-- the expression at the front of s, whose plan is p
pub record AsPlanned (s : List ℕ) (at : Counts) (area : Area) (p : Plan) : Type 0 where
  pub one : (n : ℕ) (side : Bool) → p ≡ Plan.One n side → AsOne s at area n side
  pub two : (op : ℕ) → p ≡ Plan.Two op → AsTwo s at area op

-- ---- how they are met
module _ (s : List ℕ) (at : Counts) (area : Area) (full : length area.sigs ≡ 1024) (h : Ready s at area.sigs) (p : Plan) (plan : IsPlan p s) where
  -- one operand
  module _ (n : ℕ) (side : Bool) (q : p ≡ Plan.One n side) where
    one_of : (e : Expr) → Begins e s → OneBy e s n side
    one_of e b = one_by e s b n side (sym (plan e b) ∙ q)

    abbrev mine : OneBy h.expr s n side
    mine = one_of h.expr h.begins

    -- it ends within the part
    one_whole : n + size_e mine.arg ≤ length s
    one_whole = omega (arith, mine.size, size_fits h.expr s h.begins)

    one_room : n ≤ length s
    one_room = omega (arith, one_whole)

    one_shorter : length (drop n s) < length s
    one_shorter = omega (arith, length-drop n s, one_room, mine.far)

    one_ready : SidedReady (drop n s) at area.sigs
    one_ready =
        let o = mine in
        record {
          ready = record { expr = o.arg; begins = o.begins; atoms = h.atoms; tied = h.tied; words = omega (arith, h.words, o.nodes); sigs = omega (arith, h.sigs, o.nodes); frees = omega (arith, h.frees, o.nodes) };
          room = omega (arith, h.words, o.nodes);
        }

    module _ (mode : ℕ) (r : Formed) (area' : Area) where
      one_far : Told (on_side side) mode (drop n s) at r area area' → (o : Overflow) → r ≡ Err o → n + o.at < length s
      one_far told o q =
          let x = mine in
          let z = sided_within side (nodes_e x.arg) (size_e x.arg) h.atoms (translate mode x.arg h.atoms) _ o r area area' (told x.arg x.begins h.atoms h.tied) (grows mode x.arg h.atoms) q in
          omega (arith, z, one_whole)

      one_returns : Told (on_side side) mode (drop n s) at r area area' → (r' : Formed) → r' ≡ moved n r → Told itself mode s at r' area area'
      one_returns told r' m e b a t =
          let x = one_of e b in
          result_as _ _ _ _ _ _ (sym (x.is mode a)) (one_result area area' side n at.words (translate mode x.arg a) r r' m (told x.arg x.begins a t))

    as_one : AsOne s at area n side
    as_one = record { room = one_room; shorter = one_shorter; ready = one_ready; far = one_far; returns = one_returns }

  -- two operands
  module _ (op : ℕ) (q : p ≡ Plan.Two op) where
    two_of_lem : (e : Expr) → Begins e s → TwoBy e s op
    two_of_lem e b = two_by e s b op (sym (plan e b) ∙ q)

    abbrev both : TwoBy h.expr s op
    both = two_of_lem h.expr h.begins

    two_room : 18 + size_e both.left + size_e both.right ≤ length s
    two_room = omega (arith, both.size, size_fits h.expr s h.begins)

    left_operand : Operand s 18
    left_operand =
        let x = both in
        record { room = omega (arith, two_room); shorter = omega (arith, length-drop 18 s, two_room); holds = record { expr = x.left; begins = x.begins_left } }

    left_ready : Ready (drop 18 s) (one_more at) area.sigs
    left_ready =
        let x = both in
        let t = h.tied in
        record { expr = x.left; begins = x.begins_left; atoms = h.atoms; tied = record { sigs = t.sigs; frees = t.frees }; words = omega (arith, h.words, x.nodes); sigs = omega (arith, h.sigs, x.nodes); frees = omega (arith, h.frees, x.nodes) }

    module _ (mode : ℕ) (r : Formed) (area₁ : Area) where
      module _ (told : Told itself mode (drop 18 s) (one_more at) r area area₁) where
        left_told : (e : Expr) (b : Begins e s) (a : Atoms) → Tied a at area.sigs → Forms (translate mode (two_of_lem e b).left a) (at.words + 1) r area area₁
        left_told e b a t = let x = two_of_lem e b in told x.left x.begins_left a (record { sigs = t.sigs; frees = t.frees })

        left_far : (o : Overflow) → r ≡ Err o → 18 + o.at < length s
        left_far o q =
            let x = both in
            let z = stop_within (nodes_e x.left) (size_e x.left) h.atoms (translate mode x.left h.atoms) _ o r area area₁ (left_told h.expr h.begins h.atoms h.tied) (grows mode x.left h.atoms) q in
            omega (arith, z, two_room)

        left_stops : (r' : Formed) → r' ≡ moved 18 r → (o : Overflow) → r' ≡ Err o → Told itself mode s at (Err o) area area₁
        left_stops r' m o q e b a t =
            let x = two_of_lem e b in
            result_as _ _ _ _ _ _ (sym (x.is mode a)) (stop_result (translate mode x.left a) 18 _ at.words o _ r r' area area₁ area area₁ (left_told e b a t) m q)

        -- the left operand is written
        module _ (mid : Counts) (is : r ≡ Ok mid) where
          mid_at : (e : Expr) (b : Begins e s) (a : Atoms) → Tied a at area.sigs → Mid (translate mode (two_of_lem e b).left a) (at.words + 1) mid area area₁
          mid_at e b a t = mid_of _ _ r mid area area₁ (left_told e b a t) is

          abbrev mid_here : Mid (translate mode both.left h.atoms) (at.words + 1) mid area area₁
          mid_here = mid_at h.expr h.begins h.atoms h.tied

          here_room : (mid.words + nodes_e both.right ≤ 2049) × (mid.sigs + nodes_e both.right ≤ 1024) × (mid.frees + nodes_e both.right ≤ 1024)
          here_room = room_mid h.expr both.left both.right at mode h.atoms mid area area₁ both.nodes h.tied mid_here h.words h.sigs h.frees

          mid_words : (at.words + 1 ≤ mid.words) × (mid.words ≤ 2049)
          mid_words = (omega (arith, mid_here.count), omega (arith, here_room.0))

          tied_at : (e : Expr) (b : Begins e s) (a : Atoms) (t : Tied a at area.sigs) → Tied (mid_at e b a t).atoms mid area₁.sigs
          tied_at e b a t = mid_tied _ _ mid area area₁ (mid_at e b a t) (omega (arith, here_room.1, full))

          -- n is its size
          module _ (n : ℕ) (sized : IsSize n (drop 18 s)) where
            mid_size : (e : Expr) (b : Begins e s) → n ≡ size_e (two_of_lem e b).left
            mid_size e b = let x = two_of_lem e b in sized x.left x.begins_left

            right_operand : Operand (drop 18 s) n
            right_operand =
                let x = both in
                let z = mid_size h.expr h.begins in
                record { room = omega (arith, length-drop 18 s, two_room, z); shorter = omega (arith, length-drop n (drop 18 s), length-drop 18 s, two_room, z, size_least x.left); holds = record { expr = x.right; begins = rw z x.begins_right } }

            right_ready : Ready (drop n (drop 18 s)) mid area₁.sigs
            right_ready =
                let x = both in
                let z = here_room in
                record { expr = x.right; begins = rw (mid_size h.expr h.begins) x.begins_right; atoms = mid_here.atoms; tied = tied_at h.expr h.begins h.atoms h.tied; words = z.0; sigs = z.1; frees = z.2 }

            module _ (v : ℕ) (r₂ : Formed) (area₂ : Area) where
              -- the word of the join is v
              module _ (after : Told itself mode (drop n (drop 18 s)) mid r₂ (with_word area₁ at.words v) area₂) where
                right_told : (e : Expr) (b : Begins e s) (a : Atoms) (t : Tied a at area.sigs) → Forms (translate mode (two_of_lem e b).right (mid_at e b a t).atoms) mid.words r₂ (with_word area₁ at.words v) area₂
                right_told e b a t = let x = two_of_lem e b in after x.right (rw (mid_size e b) x.begins_right) (mid_at e b a t).atoms (tied_at e b a t)

                right_far : (o : Overflow) → r₂ ≡ Err o → 18 + n + o.at < length s
                right_far o k =
                    let x = both in
                    let c = mid_here.atoms in
                    let z = stop_within (nodes_e x.right) (size_e x.right) c (translate mode x.right c) _ o r₂ _ area₂ (right_told h.expr h.begins h.atoms h.tied) (grows mode x.right c) k in
                    omega (arith, z, two_room, mid_size h.expr h.begins)

                pair_returns : v ≡ join_word op (mid.words - (at.words + 1)) → (r' : Formed) → r' ≡ moved (18 + n) r₂ → Told itself mode s at r' area area₂
                pair_returns j r' m e b a t =
                    let x = two_of_lem e b in
                    let g = mid_at e b a t in
                    result_as _ _ _ _ _ _ (sym (x.is mode a))
                    (pair_result op at.words (translate mode x.left a) mid area area₁ area₂ g (translate mode x.right) 18 (18 + size_e x.left) v r₂ r' j (keeps mode x.right g.atoms) (m ∙ ap (λ (k : ℕ). moved (18 + k) r₂) (mid_size e b)) (right_told e b a t))

            as_right : AsRight s at area op mode mid area₁ n
            as_right = record { operand = right_operand; ready = right_ready; far = right_far; returns = pair_returns }

          as_mid : AsMid s at area op mode mid area₁
          as_mid = record { least = mid_words.0; most = mid_words.1; right = as_right }

        as_left : AsLeft s at area op mode r area₁
        as_left = record { far = left_far; stops = left_stops; written = λ r' m mid q. as_mid mid (not_moved 18 r r' mid m q) }

    as_two : AsTwo s at area op
    as_two = record { operand = left_operand; ready = left_ready; left = as_left }

  pub as_planned : AsPlanned s at area p
  as_planned = record { one = as_one; two = as_two }

-- ---- the steps of two operands, by what the code has of them
module _ (s : List ℕ) (at : Counts) (area : Area) (full : length area.sigs ≡ 1024) (h : Ready s at area.sigs) (p : Plan) (plan : IsPlan p s) (op : ℕ) (q : p ≡ Plan.Two op) (mode : ℕ) (s' : List ℕ) (at' : Counts) (r : Formed) (area₁ : Area)
    (cut : s' ≡ drop 18 s) (more : at' ≡ one_more at) (told : Told itself mode s' at' r area area₁) where
  pub left_at : AsLeft s at area op mode r area₁
  left_at = ((as_planned s at area full h p plan).two op q).left mode r area₁ (told_as itself mode r area area₁ cut more told)

  module _ (r' : Formed) (m : r' ≡ moved 18 r) (mid : Counts) (o : r' ≡ Ok mid) where
    pub written_at : AsMid s at area op mode mid area₁
    written_at = left_at.written r' m mid o

    pub right_at : (n : ℕ) → IsSize n s' → AsRight s at area op mode mid area₁ n
    right_at n e = written_at.right n (part_size s 18 cut e)
