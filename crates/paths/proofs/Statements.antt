-- Bytes that begin with a statement, as its tag shows it: an if with its condition and blocks, a locktime, a verify or a return. No else
-- is an empty block.
use Rattle.std.specs.Prelude.{Ok}
use Prim.Native.Nat.{ℕ, ◌+◌, ◌-◌, ◌≤◌, ◌<◌}
use mathlib.Core.Path.{◌≡◌, refl, sym, ap, subst, subst⁻¹, ◌∙◌}
use mathlib.Core.Logic.{⊎_elim}
use mathlib.Core.Bool.{true, false}
use mathlib.Core.List.{List, [], ◌∷◌, ◌++◌, map, append-nil}
use native.Mathlib.Omega.{arith}
use lib.ListN.{length, get_or, drop}
use Rattle.definition.specs.Bytes.{be16}
use Rattle.definition.specs.declared.Forks.{Forks}
use Rattle.definition.specs.Tree.{Expr, Stmt, ifs, ifelse, locktime, verify, ret, Block, done, next}
use Rattle.definition.specs.Writing.{put_e, put_s, put_b, count, size_e, size_s, size_b, stmts_s, stmts_b, FitS, FitB}
use Rattle.definition.specs.Begins.{Begins, BeginsS, BeginsB}
use Rattle.definition.specs.Reading.{location_of, forks, if_fields}
use Rattle.definition.specs.Paths.{Path, piece, with_condition, with_verify, paths_s, paths_b}
use Rattle.definition.proofs.Steps.{same_got}
use Rattle.definition.proofs.Fields.{if_is, else_is}
use Rattle.definition.proofs.Inverse.{if_inv}
use Rattle.definition.proofs.Numbers.{skip, loc_back, be16_18, be16_20}
use Rattle.definition.proofs.Lengths.{length_s, length_b}
use Rattle.definition.proofs.BackE.{sized_e}
use Rattle.definition.proofs.BackS.{sized_s, sized_b}

-- ---- what stands where

-- an if
pub record Fork (x : Stmt) (l : ℕ) (s : List ℕ) (f : Forks) : Type 0 where
  pub cond : Expr
  pub yes : Block
  pub no : Block
  pub begins : Begins cond (drop f.from s)
  pub begins_yes : BeginsB yes f.yes l (drop (f.from + size_e cond) s)
  pub begins_no : BeginsB no f.no l (drop (f.from + size_e cond + size_b yes) s)
  pub size_is : size_s x ≡ f.from + size_e cond + size_b yes + size_b no
  pub stmts_is : stmts_s x ≡ 1 + (stmts_b yes + stmts_b no)
  pub paths_is : (at : ℕ) (rest : List Path) → paths_s x at rest ≡ map (with_condition (piece (at + f.from) cond true)) (paths_b yes (at + f.from + size_e cond)) ++ map (with_condition (piece (at + f.from) cond false)) (paths_b no (at + f.from + size_e cond + size_b yes))

-- a locktime
pub record Lock (x : Stmt) : Type 0 where
  pub size_is : size_s x ≡ 26
  pub paths_is : (at : ℕ) (rest : List Path) → paths_s x at rest ≡ rest

-- the expression of a verify or a return
pub record Held (x : Stmt) (s : List ℕ) : Type 0 where
  pub expr : Expr
  pub begins : Begins expr (drop 17 s)
  pub size_is : size_s x ≡ 17 + size_e expr

-- a verify
pub record Check (x : Stmt) (s : List ℕ) : Type 0 where
  pub held : Held x s
  pub paths_is : (at : ℕ) (rest : List Path) → paths_s x at rest ≡ map (with_verify (piece (at + 17) held.expr true)) rest

-- a return
pub record Final (x : Stmt) (s : List ℕ) : Type 0 where
  pub held : Held x s
  pub paths_is : (at : ℕ) (rest : List Path) → paths_s x at rest ≡ record { conditions = []; verifies = []; ret = piece (at + 17) held.expr true; location = location_of s } ∷ []

pub data View (x : Stmt) (l : ℕ) (s : List ℕ) : Type 0 where
  fork : get_or s 0 0 ≡ 1 → (f : Forks) → if_fields 0 s ≡ Ok f → Fork x l s f → View x l s
  lock : get_or s 0 0 ≡ 2 → Lock x → View x l s
  check : get_or s 0 0 ≡ 3 → Check x s → View x l s
  final : get_or s 0 0 ≡ 4 → Final x s → View x l s

-- ---- by the writing of each statement

view_put : (x : Stmt) (l : ℕ) (r : List ℕ) → FitS x l → View x l (put_s x r)
unfolding put_s put_b size_s stmts_s paths_s FitS count
view_put (ifs p e a) l r f =
    let s = put_s (ifs p e a) r in
    let y : drop (20 + size_e e) s ≡ put_b a r = skip s 20 (size_e e) refl (sized_e e (put_b a r)) in
    fork refl (forks (be16 s 18) 0 20) (if_is 0 s (omega arith) refl) (record {
      cond = e;
      yes = a;
      no = done;
      begins = record { rest = put_b a r; bytes = refl; level = 32; fits = f.1 };
      begins_yes = record { rest = r; bytes = y; counted = be16_18 1 p 0 (count a) _; fits = f.2 };
      begins_no = record { rest = r; bytes = skip s (20 + size_e e) (size_b a) y (sized_b a r); counted = refl; fits = tt };
      size_is = omega arith;
      stmts_is = omega arith;
      paths_is = λ at rest. sym (append-nil _);
    })
view_put (ifelse p e a b) l r f =
    let s = put_s (ifelse p e a b) r in
    let y : drop (22 + size_e e) s ≡ put_b a (put_b b r) = skip s 22 (size_e e) refl (sized_e e (put_b a (put_b b r))) in
    fork refl (forks (be16 s 18) (be16 s 20) 22) (else_is 0 s (omega arith) refl) (record {
      cond = e;
      yes = a;
      no = b;
      begins = record { rest = put_b a (put_b b r); bytes = refl; level = 32; fits = f.1 };
      begins_yes = record { rest = put_b b r; bytes = y; counted = be16_18 1 p 1 (count a) _; fits = f.2 };
      begins_no = record { rest = r; bytes = skip s (22 + size_e e) (size_b a) y (sized_b a (put_b b r)); counted = be16_20 1 p 1 (count a) (count b) _; fits = f.3 };
      size_is = refl;
      stmts_is = refl;
      paths_is = λ at rest. refl;
    })
view_put (locktime p o z) l r f = lock refl (record { size_is = refl; paths_is = λ at rest. refl })
view_put (verify p e) l r f = check refl (record { held = record { expr = e; begins = record { rest = r; bytes = refl; level = 32; fits = f.1 }; size_is = refl }; paths_is = λ at rest. refl })
view_put (ret p e) l r f = final refl (record { held = record { expr = e; begins = record { rest = r; bytes = refl; level = 32; fits = f.1 }; size_is = refl }; paths_is = λ at rest. ap (λ q. record { conditions = []; verifies = []; ret = piece (at + 17) e true; location = q } ∷ []) (sym (loc_back 4 p (put_e e r))) })

pub view : {x : Stmt} {l : ℕ} {s : List ℕ} → BeginsS x l s → View x l s
view {x} {l} {s} h = subst⁻¹ (View x l) h.bytes (view_put x l h.rest h.fits)

-- ---- the fields of an if that are in order: how many bytes they have
module _ (s : List ℕ) (f : Forks) (q : if_fields 0 s ≡ Ok f) where
  pub fields_long : 20 ≤ length s
  fields_long = ⊎_elim (λ a. a.long) (λ a. omega (arith, a.long)) (if_inv 0 s f q)

  pub fields_else : (get_or s 17 0 ≡ 0 → ⊥) → (get_or s 17 0 ≡ 1) × (22 ≤ length s)
  fields_else n = ⊎_elim (λ a. absurd (n a.flag)) (λ a. (a.flag, a.long)) (if_inv 0 s f q)

-- ---- by the tag
module _ {x : Stmt} {l : ℕ} {s : List ℕ} (h : BeginsS x l s) where
  -- the fields of an if are judged to be in order
  pub fields_at : get_or s 0 0 ≡ 1 → (f : Forks) × (if_fields 0 s ≡ Ok f)
  fields_at t = by (view h)
    where
      by : View x l s → (f : Forks) × (if_fields 0 s ≡ Ok f)
      by (fork e f q a) = (f, q)
      by (lock e a) = absurd (omega arith)
      by (check e a) = absurd (omega arith)
      by (final e a) = absurd (omega arith)

  pub fork_at : get_or s 0 0 ≡ 1 → {f : Forks} → if_fields 0 s ≡ Ok f → Fork x l s f
  fork_at t {f} q = by (view h)
    where
      by : View x l s → Fork x l s f
      by (fork e g p a) = subst (Fork x l s) (same_got g f (sym p ∙ q)) a
      by (lock e a) = absurd (omega arith)
      by (check e a) = absurd (omega arith)
      by (final e a) = absurd (omega arith)

  pub lock_at : get_or s 0 0 ≡ 2 → Lock x
  lock_at t = by (view h)
    where
      by : View x l s → Lock x
      by (fork e f p a) = absurd (omega arith)
      by (lock e a) = a
      by (check e a) = absurd (omega arith)
      by (final e a) = absurd (omega arith)

  pub check_at : get_or s 0 0 ≡ 3 → Check x s
  check_at t = by (view h)
    where
      by : View x l s → Check x s
      by (fork e f p a) = absurd (omega arith)
      by (lock e a) = absurd (omega arith)
      by (check e a) = a
      by (final e a) = absurd (omega arith)

  pub final_at : get_or s 0 0 ≡ 4 → Final x s
  final_at t = by (view h)
    where
      by : View x l s → Final x s
      by (fork e f p a) = absurd (omega arith)
      by (lock e a) = absurd (omega arith)
      by (check e a) = absurd (omega arith)
      by (final e a) = a

  -- there is no other tag
  pub check_tag : (get_or s 0 0 ≡ 1 → ⊥) → (get_or s 0 0 ≡ 2 → ⊥) → (get_or s 0 0 ≡ 4 → ⊥) → get_or s 0 0 ≡ 3
  check_tag a b c = by (view h)
    where
      by : View x l s → get_or s 0 0 ≡ 3
      by (fork e f p q) = absurd (a e)
      by (lock e q) = absurd (b e)
      by (check e q) = e
      by (final e q) = absurd (c e)

  pub lock_tag : (get_or s 0 0 ≡ 1 → ⊥) → (get_or s 0 0 ≡ 4 → ⊥) → (get_or s 0 0 ≡ 3 → ⊥) → get_or s 0 0 ≡ 2
  lock_tag a b c = by (view h)
    where
      by : View x l s → get_or s 0 0 ≡ 2
      by (fork e f p q) = absurd (a e)
      by (lock e q) = e
      by (check e q) = absurd (c e)
      by (final e q) = absurd (b e)

  pub held_at : (get_or s 0 0 ≡ 1 → ⊥) → (get_or s 0 0 ≡ 2 → ⊥) → Held x s
  held_at a b = by (view h)
    where
      by : View x l s → Held x s
      by (fork e f p q) = absurd (a e)
      by (lock e q) = absurd (b e)
      by (check e q) = q.held
      by (final e q) = q.held

  -- a statement is no longer than the bytes that begin with it
  pub fits_s : size_s x ≤ length s
  fits_s = omega (arith, ap length h.bytes, length_s x h.rest)

-- it has a tag and a location
pub least_s : (x : Stmt) → 17 ≤ size_s x
unfolding size_s
least_s (ifs p e a) = omega arith
least_s (ifelse p e a b) = omega arith
least_s (locktime p o z) = omega arith
least_s (verify p e) = omega arith
least_s (ret p e) = omega arith

pub fits_b : {b : Block} {n l : ℕ} {s : List ℕ} → BeginsB b n l s → size_b b ≤ length s
fits_b {b} h = omega (arith, ap length h.bytes, length_b b h.rest)

-- ---- a list that is not empty: its first statement, and the list after it
pub record Cut (b : Block) (n l : ℕ) (s : List ℕ) : Type 0 where
  pub stmt : Stmt
  pub tail : Block
  pub same : b ≡ next stmt tail
  pub low : 1 ≤ l
  pub first : BeginsS stmt (l - 1) s
  pub more : BeginsB tail (n - 1) l (drop (size_s stmt) s)

pub cut : (b : Block) {n l : ℕ} {s : List ℕ} → BeginsB b n l s → 0 < n → Cut b n l s
unfolding put_b FitB count
cut done h p = absurd (omega (arith, h.counted))
cut (next x b) h p =
    record {
      stmt = x;
      tail = b;
      same = refl;
      low = h.fits.0;
      first = record { rest = put_b b h.rest; bytes = h.bytes; fits = h.fits.1 };
      more = record { rest = h.rest; bytes = ap (drop (size_s x)) h.bytes ∙ sized_s x (put_b b h.rest); counted = omega (arith, h.counted); fits = h.fits.2 };
    }
