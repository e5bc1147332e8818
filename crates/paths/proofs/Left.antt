-- Where the walk of a list stands: what is left of it begins at an offset of the list's part. The counting and the gathering walker
-- both go by this.
use Prim.Native.Nat.{ℕ, ◌+◌, ◌-◌, ◌≤◌, ◌<◌}
use mathlib.Core.Path.{◌≡◌, refl, sym, ap, subst, ◌∙◌}
use mathlib.Core.List.{List}
use native.Mathlib.Omega.{arith}
use lib.ListN.{length, drop, length-drop}
use lib.Seq.{drop-drop}
use Rattle.definition.specs.Tree.{Block, done, next}
use Rattle.definition.specs.Writing.{count, size_s, size_b, stmts_s, stmts_b}
use Rattle.definition.specs.Begins.{BeginsB, HoldsS}
use Rattle.definition.specs.Paths.{paths_s, paths_b}
use Rattle.paths.proofs.Statements.{fits_s, fits_b, least_s, Cut, cut}

-- of the block b in front of s, `left` statements are left from offset `off` on
pub record Left (s : List ℕ) (l : ℕ) (b : Block) (off left : ℕ) : Type 0 where
  pub tail : Block
  pub here : BeginsB tail left l (drop off s)
  pub size : off + size_b tail ≡ size_b b

-- at first all of it
abbrev pub whole : {b : Block} {n l : ℕ} {s : List ℕ} → BeginsB b n l s → Left s l b 0 n
whole {b} h = record { tail = b; here = h; size = omega arith }

-- at last nothing
pub none_left : {s : List ℕ} {l : ℕ} {b : Block} {off left : ℕ} (w : Left s l b off left) → left ≤ 0 → w.tail ≡ done
unfolding count
none_left {s} {l} {b} {off} {left} w p = by w.tail w.here
  where
    by : (u : Block) → BeginsB u left l (drop off s) → u ≡ done
    by done k = refl
    by (next x u) k = absurd (omega (arith, k.counted))

module _ {s : List ℕ} {l : ℕ} {b : Block} {off left : ℕ} (w : Left s l b off left) where
  pub in_slice : {n : ℕ} → BeginsB b n l s → off ≤ length s
  in_slice h = omega (arith, fits_b h, w.size)

  -- the next statement
  module _ (p : 0 < left) where
    pub now_cut : Cut w.tail left l (drop off s)
    now_cut = cut w.tail w.here p

    pub now_holds : HoldsS (drop off s) (l - 1)
    now_holds = record { stmt = now_cut.stmt; begins = now_cut.first }

    pub there : 17 ≤ length (drop off s)
    there = omega (arith, fits_s now_cut.first, least_s now_cut.stmt)

    pub within : {n : ℕ} → BeginsB b n l s → off + size_s now_cut.stmt ≤ length s
    within h = omega (arith, in_slice h, length-drop off s, fits_s now_cut.first)

    pub now_stmts : stmts_b w.tail ≡ stmts_s now_cut.stmt + stmts_b now_cut.tail
    unfolding stmts_b
    now_stmts = ap stmts_b now_cut.same

    pub now_paths : (at : ℕ) → paths_b w.tail (at + off) ≡ paths_s now_cut.stmt (at + off) (paths_b now_cut.tail (at + off + size_s now_cut.stmt))
    unfolding paths_b
    now_paths at = ap (λ u. paths_b u (at + off)) now_cut.same

    pub now_size : size_b w.tail ≡ size_s now_cut.stmt + size_b now_cut.tail
    unfolding size_b
    now_size = ap size_b now_cut.same

    -- past its z bytes
    abbrev pub past : {z : ℕ} → z ≡ size_s now_cut.stmt → Left s l b (off + z) (left - 1)
    past {z} q = record {
      tail = now_cut.tail;
      here = subst (BeginsB now_cut.tail (left - 1) l) (drop-drop (size_s now_cut.stmt) off s ∙ ap (λ (k : ℕ). drop (off + k) s) (sym q)) now_cut.more;
      size = omega (arith, q, now_size, w.size);
    }
