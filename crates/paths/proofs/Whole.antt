-- An image that was read, as the walkers of its top list are handed it: the reader's acceptance gives exactly what they require.
use Rattle.std.specs.Prelude.{Ok}
use Prim.Native.Nat.{ℕ, ◌+◌, ◌≤◌, ◌<◌}
use mathlib.Core.Path.{◌≡◌, refl, sym, ap, ◌∙◌, subst}
use mathlib.Core.Bool.{true}
use mathlib.Core.List.{List, [], ◌∷◌, map}
use native.Mathlib.Omega.{arith}
use lib.ListN.{length, get_or, drop, set, length-drop}
use lib.Seq.{sets, get_or-drop}
use Rattle.definition.specs.declared.Head.{Head}
use Rattle.definition.specs.Bytes.{Bytes}
use Rattle.definition.specs.Tree.{Contract}
use Rattle.definition.specs.Writing.{write, count, size_b, stmts_b}
use Rattle.definition.specs.Begins.{BeginsB, HoldsB}
use Rattle.definition.specs.Reading.{read}
use Rattle.definition.specs.Paths.{Path, paths_b, pieces}
use Rattle.definition.proofs.Steps.{same_got}
use Rattle.definition.proofs.Lengths.{length_write}
use Rattle.definition.proofs.Sound.{read_sound}
use Rattle.paths.specs.Walking.{Accepted}
use Rattle.reader.specs.Answers.{seen_of}
use Rattle.reader.proofs.Acceptance.{seen_head}
use Rattle.paths.specs.declared.Trail.{Trail}
use Rattle.paths.specs.declared.Ended.{Ended}
use Rattle.paths.specs.declared.Gathered.{Gathered}
use Rattle.paths.specs.Gathering.{word_of, word, gathered, Adds, Room, Asked}
use Rattle.paths.proofs.Pieces.{All, Small, small_b, many, ret_is, all_words, gathered_is}

module _ (s : List ℕ) (n : ℕ) (w : Bytes s) (a : Accepted s n) where
  -- the head is there
  pub headed : 8 ≤ length s
  headed = let g = read_sound s a.contract w a.is in omega (arith, ap length g.bytes, length_write a.contract)

  pub short : length s ≤ 32768
  short = let g = read_sound s a.contract w a.is in omega (arith, ap length g.bytes, length_write a.contract, g.sized.bytes)

  -- behind it stands the top list
  pub top_begins : (c : Contract) → read s ≡ Ok c → BeginsB c.block n 16 (drop 8 s)
  unfolding write
  top_begins c e =
      let g = read_sound s c w e in
      record { rest = []; bytes = ap (drop 8) g.bytes; counted = a.top ∙ ap (λ (d : Contract). count d.block) (same_got a.contract c (sym a.is ∙ e)); fits = g.sized.fits }

  pub top_holds : HoldsB (drop 8 s) n 16
  top_holds = record { block = a.contract.block; begins = top_begins a.contract a.is }

-- ---- what the reader said is what is asked here
-- an image whose head is seen was read, and its top list has as many statements as the head says
pub seen_accepted : (s : List ℕ) (h : Head) → Ok h ≡ seen_of (read s) → Accepted s h.count
seen_accepted s h e = let i = seen_head s h e in record { contract = i.0; is = i.1; top = ap (λ (x : Head). x.count) i.2 }

-- each path below the count can be asked for
pub counted_asked : (s : List ℕ) (n count : ℕ) → Accepted s n → ((c : Contract) → read s ≡ Ok c → count ≡ length (paths_b c.block 8)) → (wanted : ℕ) → wanted < count → Asked s n wanted
counted_asked s n count a counted wanted h = record { given = a; below = subst (λ (k : ℕ). wanted < k) (counted a.contract a.is) h }

-- ---- the wanted path
-- the wanted one is the first of the rest
pub wanted_is : (l : List Path) (n : ℕ) (p : Path) (ps : List Path) (d : Path) → drop n l ≡ p ∷ ps → get_or l n d ≡ p
wanted_is l n p ps d e =
    let z : n + 0 ≡ n = omega arith in
    ap (λ (k : ℕ). get_or l k d) (sym z) ∙ sym (get_or-drop n l 0 d) ∙ ap (λ (q : List Path). get_or q 0 d) e

-- it is below the path count of the one contract that the image has
pub top_below : (s : List ℕ) (n wanted : ℕ) (g : Asked s n wanted) (c : Contract) → read s ≡ Ok c → wanted < length (paths_b c.block 8)
top_below s n wanted g c q = let same : g.given.contract ≡ c = same_got g.given.contract c (sym g.given.is ∙ q) in rw same at g.below

module _ (s : List ℕ) (n wanted : ℕ) (w : Bytes s) (g : Asked s n wanted) (t : Trail) (no_condition : t.conditions.items ≡ []) (no_verify : t.verifies.items ≡ []) where
  pub room_top : Room (drop 8 s) 8 n 16 t
  room_top =
      let a = g.given in
      let z = (read_sound s a.contract w a.is).sized in
      record {
        block = a.contract.block;
        begins = top_begins s n w a a.contract a.is;
        conditions = omega (arith, z.stmts, ap length no_condition);
        verifies = omega (arith, z.stmts, ap length no_verify);
        within = omega (arith, length-drop 8 s, short s n w a, headed s n w a);
      }

  -- what the gathering of the wanted path left: there is room for the return behind it
  module _ (q₀ : Path) (r : Ended) (t' : Trail) where
    pub ended_fits : Adds t (get_or (paths_b g.given.contract.block 8) wanted q₀) r t' → (length t'.conditions.items + length t'.verifies.items + 1 ≤ 512) × (r.ret < 32768)
    unfolding All
    ended_fits a =
        let c = g.given.contract in
        let z = (read_sound s c w g.given.is).sized in
        let k = small_b c.block 8 wanted q₀ g.below in
        (omega (arith, many _ r t t' a no_condition no_verify, k.many, z.stmts), omega (arith, ret_is _ r t t' a no_condition no_verify, k.within, z.bytes))

    -- and the pieces that are written to an area are the path's
    pub enumerated : (c : Contract) → read s ≡ Ok c → (p : Path) (ps : List Path) → drop wanted (paths_b c.block 8) ≡ p ∷ ps → Adds t (get_or (paths_b c.block 8) wanted q₀) r t' → (area : List ℕ) (u : ℕ) → u ≡ word_of r.ret true →
        (◌≡◌ {A = Gathered} (record { pieces = length t'.conditions.items + length t'.verifies.items + 1; location = r.location }) (gathered p)) × (set (sets (sets area 0 t'.conditions.items) (length t'.conditions.items) t'.verifies.items) (length t'.conditions.items + length t'.verifies.items) u ≡ sets area 0 (map word (pieces p)))
    unfolding All word
    enumerated c q p ps d a area u uq =
        let here : get_or (paths_b c.block 8) wanted q₀ ≡ p = wanted_is (paths_b c.block 8) wanted p ps q₀ d in
        let k : Small (stmts_b c.block) (8 + size_b c.block) p = rw here at (small_b c.block 8 wanted q₀ (top_below s n wanted g c q)) in
        let b : Adds t p r t' = rw here at a in
        (gathered_is p r t t' b no_condition no_verify _ refl, all_words p r t t' b no_condition no_verify area u (uq ∙ rw (ret_is p r t t' b no_condition no_verify, k.side) refl))
