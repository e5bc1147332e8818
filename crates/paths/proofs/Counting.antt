-- How many paths a statement and a list have: the laws for each return of the counting walkers, and where the list walker stands.
use Rattle.std.specs.Prelude.{Ok, Option, None, Some}
use Rattle.std.specs.Option.{unwrap_or, option_or}
use Prim.Native.Nat.{ℕ, ◌+◌, ◌-◌, ◌≤◌, ◌<◌}
use mathlib.Core.Path.{◌≡◌, refl, sym, ap, ◌∙◌}
use mathlib.Core.Bool.{true, false}
use mathlib.Core.List.{List, ◌++◌, map}
use native.Mathlib.Omega.{arith}
use lib.ListN.{length, get_or, drop, length-map, length-append}
use Rattle.definition.specs.declared.Forks.{Forks}
use Rattle.definition.specs.Tree.{Stmt, ifs, ifelse, locktime, verify, ret, Block, done, next}
use Rattle.definition.specs.Writing.{size_e, size_s, size_b}
use Rattle.definition.specs.Begins.{Holds, BeginsS, BeginsB, HoldsB}
use Rattle.definition.specs.Reading.{if_fields}
use Rattle.definition.specs.Paths.{Path, piece, with_condition, with_verify, paths_s, paths_b}
use Rattle.folding.proofs.View.{IsSize, part_size}
use Rattle.paths.specs.declared.One.{One}
use Rattle.paths.specs.declared.Listed.{Listed}
use Rattle.paths.specs.Walking.{IsOne, IsList}
use Rattle.paths.proofs.Left.{Left, whole, none_left, now_cut, now_paths, past}
use Rattle.paths.proofs.Statements.{Fork, fork_at, lock_at, check_at, final_at, fits_s}

-- ---- no more paths than bytes
-- both blocks' paths together
pub both : (f g : Path → Path) (xs ys : List Path) → length (map f xs ++ map g ys) ≡ length xs + length ys
both f g xs ys = omega (arith, length-append (map f xs) (map g ys), length-map xs f, length-map ys g)

mutual
  unfolding size_s paths_s

  few_s : (x : Stmt) (at : ℕ) (rest : List Path) → length (paths_s x at rest) ≤ size_s x + length rest
  few_s (ifs p e a) at rest = omega (arith, length-map (paths_b a (at + 20 + size_e e)) (with_condition (piece (at + 20) e true)), few_b a (at + 20 + size_e e))
  few_s (ifelse p e a b) at rest = omega (arith, both (with_condition (piece (at + 22) e true)) (with_condition (piece (at + 22) e false)) (paths_b a (at + 22 + size_e e)) (paths_b b (at + 22 + size_e e + size_b a)), few_b a (at + 22 + size_e e), few_b b (at + 22 + size_e e + size_b a))
  few_s (locktime p o z) at rest = omega arith
  few_s (verify p e) at rest = omega (arith, length-map rest (with_verify (piece (at + 17) e true)))
  few_s (ret p e) at rest = omega arith

  pub few_b : (b : Block) (at : ℕ) → length (paths_b b at) ≤ size_b b
  few_b done at = omega arith
  few_b (next x b) at = omega (arith, few_s x at (paths_b b (at + size_s x)), few_b b (at + size_s x))

-- ---- a statement that is no if
module _ {x : Stmt} {l : ℕ} {s : List ℕ} (h : BeginsS x l s) where
  pub one_lock : get_or s 0 0 ≡ 2 → IsOne x (record { paths = None; size = 26 })
  one_lock t = let a = lock_at h t in record { paths = λ at rest. ap length (a.paths_is at rest); size = sym a.size_is }

  module _ {z : ℕ} (q : z ≡ size_s x) where
    pub one_final : get_or s 0 0 ≡ 4 → IsOne x (record { paths = Some 1; size = z })
    one_final t = let a = final_at h t in record { paths = λ at rest. ap length (a.paths_is at rest); size = q }

    pub one_check : get_or s 0 0 ≡ 3 → IsOne x (record { paths = None; size = z })
    one_check t = let a = check_at h t in record { paths = λ at rest. ap length (a.paths_is at rest) ∙ length-map rest (with_verify (piece (at + 17) a.held.expr true)); size = q }

-- ---- an if, from the counts of its blocks
module _ {x : Stmt} {l : ℕ} {s : List ℕ} (h : BeginsS x l s) (t : get_or s 0 0 ≡ 1) {f : Forks} (q : if_fields 0 s ≡ Ok f) where
  pub the_fork : Fork x l s f
  the_fork = fork_at h t q

  pub cond_holds : Holds (drop f.from s)
  cond_holds = record { expr = the_fork.cond; begins = the_fork.begins }

  pub cond_at : f.from ≤ length s
  cond_at = omega (arith, the_fork.size_is, fits_s h)

  -- u is the condition's part, z its size
  module _ {u : List ℕ} (part : u ≡ drop f.from s) {z : ℕ} (k : IsSize z u) where
    cond_size : z ≡ size_e the_fork.cond
    cond_size = part_size s f.from part k the_fork.cond the_fork.begins

    pub yes_at : f.from + z ≤ length s
    yes_at = omega (arith, cond_size, the_fork.size_is, fits_s h)

    pub yes_begins : BeginsB the_fork.yes f.yes l (drop (f.from + z) s)
    yes_begins = rw cond_size the_fork.begins_yes

    pub yes_holds : HoldsB (drop (f.from + z) s) f.yes l
    yes_holds = record { block = the_fork.yes; begins = yes_begins }

    -- y is the first block's
    module _ {y : ℕ} (i : y ≡ size_b the_fork.yes) where
      pub no_at : f.from + z + y ≤ length s
      no_at = omega (arith, cond_size, i, the_fork.size_is, fits_s h)

      pub no_begins : BeginsB the_fork.no f.no l (drop (f.from + z + y) s)
      no_begins = rw (cond_size, i) the_fork.begins_no

      pub no_holds : HoldsB (drop (f.from + z + y) s) f.no l
      no_holds = record { block = the_fork.no; begins = no_begins }

      -- n is the second block's
      module _ {n : ℕ} (j : n ≡ size_b the_fork.no) where
        pub if_size : f.from + z + y + n ≡ size_s x
        if_size = omega (arith, cond_size, i, j, the_fork.size_is)

        pub if_at : f.from + z + y + n ≤ length s
        if_at = omega (arith, if_size, fits_s h)

    module _ {a b : Listed} (i : IsList the_fork.yes a) (j : IsList the_fork.no b) where
      pub count_fits : a.paths + b.paths ≤ length s
      count_fits = omega (arith, i.paths 0, j.paths 0, the_fork.size_is, few_b the_fork.yes 0, few_b the_fork.no 0, fits_s h)

      pub one_fork : IsOne x (record { paths = Some (a.paths + b.paths); size = f.from + z + a.size + b.size })
      one_fork = record {
        paths = λ at rest.
            let o = the_fork in
            let n = at + f.from + size_e o.cond in
            ap length (o.paths_is at rest) ∙ both (with_condition (piece (at + f.from) o.cond true)) (with_condition (piece (at + f.from) o.cond false)) (paths_b o.yes n) (paths_b o.no (n + size_b o.yes)) ∙ (omega (arith, i.paths n, j.paths (n + size_b o.yes)));
        size = if_size i.size j.size;
      }

-- ---- where the walk of a list stands
-- what was found stays; as long as there is nothing, the rest has all paths
pub record Walk (s : List ℕ) (l : ℕ) (b : Block) (off left : ℕ) (paths : Option ℕ) : Type 0 where
  pub rest : Left s l b off left
  pub found : (at : ℕ) → unwrap_or paths (length (paths_b rest.tail (at + off))) ≡ length (paths_b b at)

pub start : {b : Block} {n m l : ℕ} {s : List ℕ} → BeginsB b n l s → m ≡ n → Walk s l b 0 m None
start {b} h e = rw e (record { rest = whole h; found = λ at. ap (λ (k : ℕ). length (paths_b b k)) (omega arith) })

or_else : (p q : Option ℕ) (k : ℕ) → unwrap_or (option_or p q) k ≡ unwrap_or p (unwrap_or q k)
or_else None q k = refl
or_else (Some n) q k = refl

module _ {s : List ℕ} {l : ℕ} {b : Block} {off left : ℕ} {paths : Option ℕ} (w : Walk s l b off left paths) where
  -- none are left
  pub over : left ≤ 0 → IsList b (record { paths = unwrap_or paths 0; size = off })
  unfolding paths_b size_b
  over p = let e = none_left w.rest p in record { paths = λ at. rw e at (w.found at); size = omega (arith, w.rest.size, ap size_b e) }

  -- past the statement
  pub turn : (p : 0 < left) {r : One} → IsOne (now_cut w.rest p).stmt r → Walk s l b (off + r.size) (left - 1) (option_or paths r.paths)
  turn p {r} i =
      let k = now_cut w.rest p in
      let z = size_s k.stmt in
      record {
        rest = past w.rest p i.size;
        found = λ at.
            let e : at + off + z ≡ at + (off + r.size) = omega (arith, i.size) in
            let n = length (paths_b k.tail (at + (off + r.size))) in
            let here : length (paths_b w.rest.tail (at + off)) ≡ unwrap_or r.paths n = ap length (now_paths w.rest p at) ∙ i.paths (at + off) (paths_b k.tail (at + off + z)) ∙ ap (λ (j : ℕ). unwrap_or r.paths (length (paths_b k.tail j))) e in
            or_else paths r.paths n ∙ ap (unwrap_or paths) (sym here) ∙ w.found at;
      }
