-- The walk to one path: the laws for each return of the gathering walkers, and where the list walker stands.
use Rattle.std.specs.Prelude.{Ok}
use Rattle.std.specs.declared.ops.ControlFlow.{ControlFlow}
use Rattle.std.specs.declared.ops.ControlFlow.TheVariants.{Break, Continue}
use Prim.Native.Nat.{ℕ, ◌+◌, ◌-◌, ◌≤◌, ◌<◌}
use mathlib.Core.Path.{◌≡◌, refl, sym, ap, ◌∙◌}
use mathlib.Core.Bool.{Bool, true, false}
use mathlib.Core.List.{List, [], ◌∷◌, ◌++◌, map, append-nil, append_assoc}
use native.Mathlib.Omega.{arith}
use lib.ListN.{length, get_or, take, drop, length-drop, length-map, length-append, get_or-append}
use lib.Seq.{get_or-append-add, take-append_seam}
use Rattle.definition.specs.declared.Forks.{Forks}
use Rattle.definition.specs.Tree.{Stmt, ifs, ifelse, locktime, verify, ret, Block}
use Rattle.definition.specs.Writing.{size_e, size_s, size_b, stmts_s, stmts_b}
use Rattle.definition.specs.Begins.{BeginsS, BeginsB}
use Rattle.definition.specs.Reading.{location_of, if_fields}
use Rattle.definition.specs.Paths.{Piece, Path, piece, with_condition, with_verify, paths_s, paths_b}
use Rattle.folding.proofs.View.{IsSize, size_least, part_size}
use Rattle.paths.specs.declared.Listed.{Listed}
use Rattle.paths.specs.declared.Trail.{Trail}
use Rattle.paths.specs.declared.Ended.{Ended}
use Rattle.paths.specs.Gathering.{word_of, word, Conditioned, Verified, Extends, Keeps, Adds, Finds, Passes, Walks, Ahead, Room, RoomS}
use Rattle.paths.proofs.Lists.{get_d_map}
use Rattle.paths.proofs.Left.{Left, whole, none_left, in_slice, now_cut, within, now_stmts, now_paths, past}
use Rattle.paths.proofs.Statements.{Fork, Held, fields_at, fork_at, lock_at, check_at, final_at, fits_s, least_s, Cut}
use Rattle.paths.proofs.Counting.{both, few_b, the_fork, yes_at, yes_begins, no_at, no_begins, if_size}

-- ---- what is written down
extends_on : {a b c : List ℕ} → Extends a b → Extends b c → Extends a c
extends_on {a} x y = record { more = x.more ++ y.more; is = y.is ∙ ap (λ (l : List ℕ). l ++ y.more) x.is ∙ append_assoc a x.more y.more }

extends_same : {a b : List ℕ} → b ≡ a → Extends a b
extends_same {a} e = record { more = []; is = e ∙ sym (append-nil a) }

keeps_all : (t : Trail) → Keeps t t
keeps_all t = record { conditions = extends_same refl; verifies = extends_same refl }

-- one after the other
keeps_on : {t t' t'' : Trail} → Keeps t t' → Keeps t' t'' → Keeps t t''
keeps_on a b = record { conditions = extends_on a.conditions b.conditions; verifies = extends_on a.verifies b.verifies }

keeps_condition : {t t' : Trail} {w : ℕ} → Conditioned t w t' → Keeps t t'
keeps_condition {w = w} a = record { conditions = record { more = w ∷ []; is = a.conditions }; verifies = extends_same a.verifies }

keeps_verify : {t t' : Trail} {w : ℕ} → Verified t w t' → Keeps t t'
keeps_verify {w = w} a = record { conditions = extends_same a.conditions; verifies = record { more = w ∷ []; is = a.verifies } }

-- back to where it began
extends_back : {a b : List ℕ} (n : ℕ) → n ≡ length a → Extends a b → take n b ≡ a
extends_back {a} n e x = rw (e, x.is) (take-append_seam a x.more)

-- ---- a path with one piece more in front
module _ {t t' : Trail} {w : ℕ} (x : Piece) (q : w ≡ word x) (p : Path) (r : Ended) (t'' : Trail) where
  adds_verify : Verified t w t' → Adds t' p r t'' → Adds t (with_verify x p) r t''
  adds_verify i a = record {
    ended = a.ended;
    conditions = a.conditions ∙ ap (λ (l : List ℕ). l ++ map word p.conditions) i.conditions;
    verifies = a.verifies ∙ ap (λ (l : List ℕ). l ++ map word p.verifies) i.verifies ∙ append_assoc t.verifies.items (w ∷ []) (map word p.verifies) ∙ ap (λ (n : ℕ). t.verifies.items ++ (n ∷ map word p.verifies)) q;
  }

  adds_condition : Conditioned t w t' → Adds t' p r t'' → Adds t (with_condition x p) r t''
  adds_condition i a = record {
    ended = a.ended;
    conditions = a.conditions ∙ ap (λ (l : List ℕ). l ++ map word p.conditions) i.conditions ∙ append_assoc t.conditions.items (w ∷ []) (map word p.conditions) ∙ ap (λ (n : ℕ). t.conditions.items ++ (n ∷ map word p.conditions)) q;
    verifies = a.verifies ∙ ap (λ (l : List ℕ). l ++ map word p.verifies) i.verifies;
  }

-- a list with a verify in front
verify_walks : (ps : List Path) (z wanted : ℕ) {t t' : Trail} {w : ℕ} (x : Piece) → w ≡ word x → Verified t w t' → (r : ControlFlow Ended Listed) (t'' : Trail) → Walks ps z wanted t' r t'' → Walks (map (with_verify x) ps) z wanted t r t''
verify_walks ps z wanted x q i (Break r) t'' a = record { below = omega (arith, a.below, length-map ps (with_verify x)); adds = λ d. rw (get_d_map (with_verify x) ps wanted d d a.below) (adds_verify x q (get_or ps wanted d) r t'' i (a.adds d)) }
verify_walks ps z wanted x q i (Continue r) t'' a =
    let e = length-map ps (with_verify x) in
    record { beyond = omega (arith, a.beyond, e); paths = a.paths ∙ sym e; size = a.size; keeps = keeps_on (keeps_verify i) a.keeps }

-- a statement counts as one at least
one_stmt : (x : Stmt) → 1 ≤ stmts_s x
unfolding stmts_s
one_stmt (ifs p e a) = omega arith
one_stmt (ifelse p e a b) = omega arith
one_stmt (locktime p o z) = omega arith
one_stmt (verify p e) = omega arith
one_stmt (ret p e) = omega arith

-- ---- a return: its path ends there, or another is wanted
module _ {x : Stmt} {l : ℕ} {s : List ℕ} (h : BeginsS x l s) (t : get_or s 0 0 ≡ 4) {wanted : ℕ} (at : ℕ) (w : Trail) where
  pub return_found : wanted ≡ 0 → Walks (paths_s x at []) (size_s x) wanted w (Break (record { ret = at + 17; location = location_of s })) w
  return_found q = rw ((final_at h t).paths_is at [], q) (record { below = omega arith; adds = λ d. record { ended = refl; conditions = sym (append-nil w.conditions.items); verifies = sym (append-nil w.verifies.items) } })

  pub return_passed : (wanted ≡ 0 → ⊥) → {z : ℕ} → z ≡ size_s x → Walks (paths_s x at []) (size_s x) wanted w (Continue (record { paths = 1; size = z })) w
  return_passed q e = rw ((final_at h t).paths_is at []) (record { beyond = omega (arith, q); paths = refl; size = e; keeps = keeps_all w })

-- ---- where the walk of a list stands: what the walk of what is left comes to, the walk of the whole comes to
pub record On (s : List ℕ) (at l wanted : ℕ) (b : Block) (t₀ : Trail) (off left : ℕ) (t : Trail) : Type 0 where
  pub rest : Left s l b off left
  pub stmts : stmts_b rest.tail ≤ stmts_b b
  pub same : t.conditions.items ≡ t₀.conditions.items
  pub room : length t.verifies.items + stmts_b rest.tail ≤ length t₀.verifies.items + stmts_b b
  pub walks : (r : ControlFlow Ended Listed) (t' : Trail) → Walks (paths_b rest.tail (at + off)) (size_b b) wanted t r t' → Walks (paths_b b at) (size_b b) wanted t₀ r t'

-- the same of every block with which the list begins
abbrev pub OnEach : List ℕ → ℕ → ℕ → ℕ → ℕ → Trail → ℕ → ℕ → Trail → Type 0
OnEach s at many l wanted t₀ off left t = (b : Block) → BeginsB b many l s → On s at l wanted b t₀ off left t

pub start : {s : List ℕ} (at : ℕ) {n m l wanted : ℕ} {b : Block} (t : Trail) → BeginsB b n l s → m ≡ n → On s at l wanted b t 0 m t
start at t h q =
    let e : at + 0 ≡ at = omega arith in
    rw q (record { rest = whole h; stmts = omega arith; same = refl; room = omega arith; walks = λ r t' a. rw e at a })

module _ {s : List ℕ} {at l wanted : ℕ} {b : Block} {t₀ : Trail} {off left : ℕ} {t : Trail} (w : On s at l wanted b t₀ off left t) where
  -- nothing is left, so there is no path
  pub over : left ≤ 0 → Walks (paths_b b at) (size_b b) wanted t₀ (Continue (record { paths = 0; size = off })) t
  unfolding paths_b size_b
  over p =
      let e = none_left w.rest p in
      w.walks (Continue (record { paths = 0; size = off })) t (rw e (record { beyond = omega arith; paths = refl; size = omega (arith, w.rest.size, ap size_b e); keeps = keeps_all t }))

  module _ (p : 0 < left) where
    -- the next statement, and the paths of what follows it
    abbrev this : Cut w.rest.tail left l (drop off s)
    this = now_cut w.rest p

    abbrev after : List Path
    after = paths_b this.tail (at + off + size_s this.stmt)

    -- the list's walk ends there: what follows has no path
    unfoldable pub Last : Type 0
    Last = paths_s this.stmt (at + off) after ≡ paths_s this.stmt (at + off) []

    pub fork_last : get_or (drop off s) 0 0 ≡ 1 → Last
    unfolding Last
    fork_last t = let o = fork_at this.first t (fields_at this.first t).1 in o.paths_is (at + off) after ∙ sym (o.paths_is (at + off) [])

    pub return_last : get_or (drop off s) 0 0 ≡ 4 → Last
    unfolding Last
    return_last t = let o = final_at this.first t in o.paths_is (at + off) after ∙ sym (o.paths_is (at + off) [])

    -- its own walk
    abbrev pub Own : ControlFlow Ended Listed → Trail → Type 0
    Own = Walks (paths_s this.stmt (at + off) []) (size_s this.stmt) wanted t

    -- it found the path
    pub found : Last → (r : Ended) (t' : Trail) → Own (Break r) t' → Walks (paths_b b at) (size_b b) wanted t₀ (Break r) t'
    unfolding Last
    found e r t' a = w.walks (Break r) t' (rw (now_paths w.rest p at, e) a)

    module _ {r : Listed} {t' : Trail} (a : Own (Continue r) t') where
      -- the statements behind it
      pub ahead : {n : ℕ} → BeginsB b n l s → Ahead off s (left - 1) l r
      ahead h = let u = past w.rest p a.size in record { within = in_slice u h; holds = record { block = u.tail; begins = u.here } }

      -- with their bytes
      pub past_walks : Last → (r' : Listed) → ((u : Block) → BeginsB u (left - 1) l (drop (off + r.size) s) → (r'.paths ≡ r.paths) × (r'.size ≡ off + r.size + size_b u)) → Walks (paths_b b at) (size_b b) wanted t₀ (Continue r') t'
      unfolding Last
      past_walks e r' h =
          let u = past w.rest p a.size in
          let k = h u.tail u.here in
          w.walks (Continue r') t' (rw (now_paths w.rest p at, e) (record { beyond = a.beyond; paths = k.0 ∙ a.paths; size = k.1 ∙ u.size; keeps = a.keeps }))

    -- past a statement of z bytes
    module _ {z : ℕ} (q : z ≡ size_s this.stmt) where
      next_at : at + off + size_s this.stmt ≡ at + (off + z)
      next_at = omega (arith, q)

      -- a locktime is skipped
      pub lock_on : get_or (drop off s) 0 0 ≡ 2 → On s at l wanted b t₀ (off + z) (left - 1) t
      lock_on c = record {
        rest = past w.rest p q;
        stmts = omega (arith, w.stmts, now_stmts w.rest p);
        same = w.same;
        room = omega (arith, w.room, now_stmts w.rest p);
        walks = λ r t' a. w.walks r t' (rw (now_paths w.rest p at, (lock_at this.first c).paths_is (at + off) after) (rw (← next_at) at a));
      }

      -- a verify is gathered
      pub check_on : get_or (drop off s) 0 0 ≡ 3 → {t' : Trail} → Verified t (word_of (at + off + 17) true) t' → On s at l wanted b t₀ (off + z) (left - 1) t'
      unfolding word
      check_on c {t'} v =
          let o = check_at this.first c in
          record {
            rest = past w.rest p q;
            stmts = omega (arith, w.stmts, now_stmts w.rest p);
            same = v.conditions ∙ w.same;
            room = omega (arith, w.room, now_stmts w.rest p, one_stmt this.stmt, ap length v.verifies, length-append t.verifies.items (word_of (at + off + 17) true ∷ []));
            walks = λ r t'' a. w.walks r t'' (rw (now_paths w.rest p at, o.paths_is (at + off) after) (verify_walks after (size_b b) wanted (piece (at + off + 17) o.held.expr true) refl v r t'' (rw (← next_at) at a)));
          }

-- ---- what the walk of a list may use at each statement
module _ {s : List ℕ} {at count l wanted : ℕ} {t₀ : Trail} (g : Room s at count l t₀) {off left : ℕ} {t : Trail} (w : On s at l wanted g.block t₀ off left t) (p : 0 < left) where
  pub at_fits : at + off + 17 ≤ 32768
  at_fits = omega (arith, within w.rest p g.begins, least_s (this w p).stmt, g.within)

  -- the offset of a verify's expression
  pub held_fits : (h : Held (this w p).stmt (drop off s)) → at + off + 17 < 32768
  held_fits h = omega (arith, within w.rest p g.begins, h.size_is, size_least h.expr, g.within)

  pub if_room : get_or (drop off s) 0 0 ≡ 1 → RoomS (drop off s) (at + off) (l - 1) t
  if_room c =
      let e = now_stmts w.rest p in
      record {
        stmt = (this w p).stmt;
        begins = (this w p).first;
        fork = c;
        conditions = omega (arith, g.conditions, w.stmts, ap length w.same, e);
        verifies = omega (arith, g.verifies, w.room, e);
        within = omega (arith, g.within, length-drop off s, in_slice w.rest g.begins);
      }

  pub verify_room : length t.verifies.items < 512
  verify_room = omega (arith, g.verifies, w.room, now_stmts w.rest p, one_stmt (this w p).stmt)

-- ---- an if
module _ {x : Stmt} {l : ℕ} {s : List ℕ} (h : BeginsS x l s) (c : get_or s 0 0 ≡ 1) {f : Forks} (q : if_fields 0 s ≡ Ok f) {u : List ℕ} (part : u ≡ drop f.from s) {z : ℕ} (size : IsSize z u) (at : ℕ) where
  abbrev fork : Fork x l s f
  fork = the_fork h c q

  cond_size : z ≡ size_e fork.cond
  cond_size = part_size s f.from part size fork.cond fork.begins

  -- the blocks' paths, the first block having y bytes
  abbrev pub xs : List Path
  xs = paths_b fork.yes (at + (f.from + z))

  abbrev pub ys : ℕ → List Path
  ys y = paths_b fork.no (at + (f.from + z + y))

  abbrev with : Bool → Path → Path
  with side = with_condition (piece (at + f.from) fork.cond side)

  fork_paths : (y : ℕ) → y ≡ size_b fork.yes → paths_s x at [] ≡ map (with true) xs ++ map (with false) (ys y)
  fork_paths y i =
      let e₁ : at + f.from + size_e fork.cond ≡ at + (f.from + z) = omega (arith, cond_size) in
      let e₂ : at + f.from + size_e fork.cond + size_b fork.yes ≡ at + (f.from + z + y) = omega (arith, cond_size, i) in
      fork.paths_is at [] ∙ rw (e₂, e₁) refl

  -- the first block was walked behind the condition
  module _ {wanted : ℕ} {t t₁ : Trail} (i : Conditioned t (word_of (at + f.from) true) t₁) where
    pub yes_found : {e : Ended} {t' : Trail} → Finds xs wanted t₁ e t' → Walks (paths_s x at []) (size_s x) wanted t (Break e) t'
    unfolding word
    yes_found {e} {t'} a =
        let y = size_b fork.yes in
        let in_map : wanted < length (map (with true) xs) = omega (arith, a.below, length-map xs (with true)) in
        rw (fork_paths y refl) (record {
          below = omega (arith, in_map, both (with true) (with false) xs (ys y), length-map xs (with true));
          adds = λ d. rw (get_or-append (map (with true) xs) (map (with false) (ys y)) d wanted in_map, get_d_map (with true) xs wanted d d a.below) (adds_condition (piece (at + f.from) fork.cond true) refl (get_or xs wanted d) e t' i (a.adds d));
        })

    -- it has no such path, and the second was walked behind the negated condition
    module _ {r : Listed} {t₂ : Trail} (j : Passes xs (size_b fork.yes) wanted t₁ r t₂) where
      all : length (map (with true) xs ++ map (with false) (ys r.size)) ≡ length xs + length (ys r.size)
      all = both (with true) (with false) xs (ys r.size)

      no_path : (d : Path) → wanted - r.paths < length (ys r.size) → get_or (map (with true) xs ++ map (with false) (ys r.size)) wanted d ≡ with false (get_or (ys r.size) (wanted - r.paths) d)
      no_path d b =
          let j : wanted ≡ length (map (with true) xs) + (wanted - r.paths) = omega (arith, length-map xs (with true), j.paths, j.beyond) in
          ap (λ (o : ℕ). get_or (map (with true) xs ++ map (with false) (ys r.size)) o d) j ∙ get_or-append-add (map (with true) xs) (map (with false) (ys r.size)) (wanted - r.paths) d ∙ get_d_map (with false) (ys r.size) (wanted - r.paths) d d b

      -- back to where the if began, and its negated condition
      pub no_conditioned : {k n : ℕ} → k ≡ length t.conditions.items → n ≡ length t.verifies.items → {t₃ t₄ : Trail} → t₃.conditions.items ≡ take k t₂.conditions.items → t₃.verifies.items ≡ take n t₂.verifies.items → Conditioned t₃ (word_of (at + f.from) false) t₄ → Conditioned t (word_of (at + f.from) false) t₄
      no_conditioned {k} {n} a b {t₃} {t₄} d e u =
          let m = keeps_on (keeps_condition i) j.keeps in
          record {
            conditions = u.conditions ∙ ap (λ (l : List ℕ). l ++ word_of (at + f.from) false ∷ []) (d ∙ extends_back k a m.conditions);
            verifies = u.verifies ∙ e ∙ extends_back n b m.verifies;
          }

      module _ {t₄ : Trail} (v : Conditioned t (word_of (at + f.from) false) t₄) where
        pub no_found : {e : Ended} {t' : Trail} → Finds (ys r.size) (wanted - r.paths) t₄ e t' → Walks (paths_s x at []) (size_s x) wanted t (Break e) t'
        unfolding word
        no_found {e} {t'} a =
            rw (fork_paths r.size j.size) (record {
              below = omega (arith, a.below, all, j.paths, j.beyond);
              adds = λ d. rw (no_path d a.below) (adds_condition (piece (at + f.from) fork.cond false) refl (get_or (ys r.size) (wanted - r.paths) d) e t' v (a.adds d));
            })

        pub none_found : {o : Listed} {t' : Trail} → Passes (ys r.size) (size_b fork.no) (wanted - r.paths) t₄ o t' → Walks (paths_s x at []) (size_s x) wanted t (Continue (record { paths = r.paths + o.paths; size = f.from + z + r.size + o.size })) t'
        none_found {o} {t'} a = rw (fork_paths r.size j.size) (record {
          beyond = omega (arith, a.beyond, all, j.paths, j.beyond);
          paths = omega (arith, a.paths, all, j.paths);
          size = if_size h c q part size j.size a.size;
          keeps = keeps_on (keeps_condition v) a.keeps;
        })

-- ---- what the walk of an if may use
module _ {s : List ℕ} {at l : ℕ} {t : Trail} (g : RoomS s at l t) where
  pub condition_room : length t.conditions.items < 512
  condition_room = omega (arith, g.conditions, one_stmt g.stmt)

  module _ {f : Forks} (q : if_fields 0 s ≡ Ok f) {u : List ℕ} (part : u ≡ drop f.from s) {z : ℕ} (size : IsSize z u) where
    abbrev its : Fork g.stmt l s f
    its = the_fork g.begins g.fork q

    pub condition_fits : at + f.from < 32768
    condition_fits = omega (arith, fits_s g.begins, its.size_is, size_least its.cond, g.within)

    pub yes_fits : at + (f.from + z) ≤ 32768
    yes_fits = omega (arith, yes_at g.begins g.fork q part size, g.within)

    -- behind the condition or its negation
    module _ {w : ℕ} {t₁ : Trail} (i : Conditioned t w t₁) where
      pub yes_room : Room (drop (f.from + z) s) (at + (f.from + z)) f.yes l t₁
      yes_room = record {
        block = its.yes;
        begins = yes_begins g.begins g.fork q part size;
        conditions = omega (arith, g.conditions, its.stmts_is, ap length i.conditions, length-append t.conditions.items (w ∷ []));
        verifies = omega (arith, g.verifies, its.stmts_is, ap length i.verifies);
        within = omega (arith, g.within, yes_at g.begins g.fork q part size, length-drop (f.from + z) s);
      }

      pub no_room : {y : ℕ} → y ≡ size_b its.yes → Room (drop (f.from + z + y) s) (at + (f.from + z + y)) f.no l t₁
      no_room {y} j = record {
        block = its.no;
        begins = no_begins g.begins g.fork q part size j;
        conditions = omega (arith, g.conditions, its.stmts_is, ap length i.conditions, length-append t.conditions.items (w ∷ []));
        verifies = omega (arith, g.verifies, its.stmts_is, ap length i.verifies);
        within = omega (arith, g.within, no_at g.begins g.fork q part size j, length-drop (f.from + z + y) s);
      }

    module _ {wanted : ℕ} {t₁ t₂ : Trail} {r : Listed} (i : Passes (xs g.begins g.fork q part size at) (size_b its.yes) wanted t₁ r t₂) where
      pub mid_at : f.from + z + r.size ≤ length s
      mid_at = no_at g.begins g.fork q part size i.size

      pub mid_fits : at + (f.from + z + r.size) ≤ 32768
      mid_fits = omega (arith, mid_at, g.within)

      -- the sums of both blocks
      module _ {wanted' : ℕ} {t₃ t₄ : Trail} {o : Listed} (j : Passes (ys g.begins g.fork q part size at r.size) (size_b its.no) wanted' t₃ o t₄) where
        pub paths_fit : r.paths + o.paths ≤ 32768
        paths_fit = omega (arith, i.paths, j.paths, few_b its.yes (at + (f.from + z)), few_b its.no (at + (f.from + z + r.size)), its.size_is, fits_s g.begins, g.within)

        pub size_fits : f.from + z + r.size + o.size ≤ 32768
        size_fits = omega (arith, if_size g.begins g.fork q part size i.size j.size, fits_s g.begins, g.within)
