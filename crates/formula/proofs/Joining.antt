-- A path's formula, piece by piece: what the pieces that are left make from here on is what all of them make from the start.
use Rattle.std.specs.Prelude.{Ok, Err}
use Prim.Native.Nat.{ℕ, suc, ◌+◌, ◌-◌, ◌/◌, ◌%◌, ◌≤◌, ◌<◌}
use mathlib.Core.Path.{◌≡◌, refl, sym, ap, ◌∙◌}
use mathlib.Core.Bool.{Bool}
use mathlib.Core.List.{List, [], ◌∷◌}
use native.Mathlib.Nat.{zero-add}
use native.Mathlib.Numerals.{add-one}
use native.Mathlib.Omega.{arith}
use lib.Dec.{eqb}
use lib.ListN.{length, get_or, drop, length-map, length-drop, drop_of_length-le}
use lib.Seq.{length-sets}
use Rattle.definition.specs.Bytes.{when◌then◌else◌}
use Rattle.definition.specs.Writing.{size_e, nodes_e}
use Rattle.definition.specs.Paths.{Piece}
use Rattle.definition.specs.Formula.{And, Atoms, Made, made, stopped, no_atoms, on_made, sided, joined, translate, path_formula}
use Rattle.folding.proofs.View.{size_fits}
use Rattle.paths.specs.Gathering.{word}
use Rattle.formula.specs.declared.Counts.{Counts}
use Rattle.formula.specs.declared.Overflow.{Overflow}
use Rattle.formula.specs.declared.Area.{Area}
use Rattle.evaluation.specs.Words.{join_word, code_of}
use Rattle.formula.specs.Areas.{one_more, Tied, SidedReady, Forms, on_side, moved, Pieced, nodes_p, PathHolds}
use Rattle.formula.proofs.Rows.{rows_same}
use Rattle.formula.proofs.Growing.{Grows, words_for, grows, side_grows, path_keeps}
use Rattle.formula.proofs.Results.{counts, Formed, beyond, with_word, Mid, mid_of, mid_grown, mid_tied, stop_result, not_moved, sided_within, pair_result, result_as}
use Rattle.formula.proofs.Operands.{Told, told_as}
use Rattle.formula.proofs.Pieces.{PieceAt, piece_at}

-- the first piece, and the others joined behind it
path_cons : (mode : ℕ) (x : Piece) (xs : List Piece) (a : Atoms) → on_made x.at (on_side x.side (translate mode x.expr a)) (λ f b. on_made 0 (path_formula mode xs b) (λ g c. made (joined 1 f g) c)) ≡ path_formula mode (x ∷ xs) a
unfolding path_formula on_made on_side joined when◌then◌else◌
path_cons mode x xs a = by (translate mode x.expr a)
  where
    by : (m : Made) → on_made x.at (on_side x.side m) (λ f b. on_made 0 (path_formula mode xs b) (λ g c. made (joined 1 f g) c)) ≡ on_made x.at m (λ f b. on_made 0 (path_formula mode xs b) (λ g c. made (And (sided x.side f) g) c))
    by (made f b) = refl
    by (stopped d) = rw (zero-add d)

moved_zero : (r : Formed) → r ≡ moved 0 r
moved_zero (Ok x) = refl
moved_zero (Err o) = ap beyond (sym (zero-add o.at))

-- where the loop stands: piece i is next, the atoms of those before it are told, there is room for the others, and what they make completes
-- the path's formula
pub record Going (mode : ℕ) (ps : List Piece) (i : ℕ) (at : Counts) (area₀ area : Area) : Type 0 where
  pub atoms : Atoms
  pub tied : Tied atoms at area.sigs
  pub full : length area.sigs ≡ 1024
  pub words : at.words + words_for (drop i ps) ≤ words_for ps
  pub sigs : at.sigs + nodes_p (drop i ps) ≤ nodes_p ps
  pub frees : at.frees + nodes_p (drop i ps) ≤ nodes_p ps
  pub gives : (r : Formed) (area' : Area) → Forms (path_formula mode (drop i ps) atoms) at.words r area area' → Forms (path_formula mode ps no_atoms) 0 r area₀ area'

pub going_start : (mode : ℕ) (ps : List Piece) (area : Area) → length area.sigs ≡ 1024 → Going mode ps 0 (counts 0 0 0) area area
going_start mode ps area full = record { atoms = no_atoms; tied = record { sigs = record { count = refl; are = refl }; frees = refl }; full = full; words = omega arith; sigs = omega arith; frees = omega arith; gives = λ r area' g. g }

-- behind the last piece
module _ (mode : ℕ) (s ws : List ℕ) (ps : List Piece) (are : Pieced s ws ps) (i : ℕ) (at : Counts) (area₀ area : Area) (g : Going mode ps i at area₀ area) where
  pub last_returns : length ws ≤ i → Forms (path_formula mode ps no_atoms) 0 (Ok (one_more at)) area₀ (with_word area at.words 1)
  unfolding path_formula Forms code_of
  last_returns k =
      let none : drop i ps ≡ [] = drop_of_length-le ps {i = i} (omega (arith, ap length are.words, length-map ps word)) in
      let t = g.tied in
      g.gives _ _ (rw none (record { told = ap Ok (rw (t.sigs.count, t.frees)); words = refl; rows = sym (rows_same g.atoms.locations at.sigs area.sigs t.sigs) }))

-- room for the last word
pub last_room : (mode : ℕ) (ps : List Piece) (i : ℕ) (at : Counts) (area₀ area : Area) → Going mode ps i at area₀ area → length ps ≤ 512 → nodes_p ps ≤ 1024 → at.words < 2049
last_room mode ps i at area₀ area g m n = omega (arith, g.words, m, n)

-- ---- piece i
module _ (mode : ℕ) (s ws : List ℕ) (h : PathHolds s ws) (i : ℕ) (k : i < length ws) (at : Counts) (area₀ area : Area) (all : (ps : List Piece) → Pieced s ws ps → Going mode ps i at area₀ area) where
  -- where it begins, and whether it has to hold
  abbrev off : ℕ
  off = get_or ws i 0 / 2

  abbrev holds : Bool
  holds = eqb (get_or ws i 0 % 2) 1

  -- so much is written behind its join
  abbrev behind : Counts
  behind = one_more at

  -- of any pieces that the words say
  module _ (ps : List Piece) (are : Pieced s ws ps) where
    abbrev the : PieceAt s ws ps i
    the = piece_at s ws ps i are k

    abbrev now_at : Going mode ps i at area₀ area
    now_at = all ps are

    the_tied : Tied now_at.atoms behind area.sigs
    the_tied = let t = now_at.tied in record { sigs = t.sigs; frees = t.frees }

    the_nodes : nodes_p (drop i ps) ≡ nodes_e the.piece.expr + nodes_p (drop (suc i) ps)
    unfolding nodes_p
    the_nodes = ap nodes_p the.cut

    the_length : length (drop i ps) ≡ 1 + length (drop (suc i) ps)
    the_length = ap length the.cut ∙ omega arith

  abbrev mine : PieceAt s ws h.pieces i
  mine = the h.pieces h.are

  abbrev here : Going mode h.pieces i at area₀ area
  here = now_at h.pieces h.are

  pub piece_ready : SidedReady (drop off s) behind area.sigs
  piece_ready =
      let n = the_nodes h.pieces h.are in
      let l = the_length h.pieces h.are in
      let g = here in
      record {
        ready = record {
          expr = mine.piece.expr;
          begins = mine.begins;
          atoms = g.atoms;
          tied = the_tied h.pieces h.are;
          words = omega (arith, n, l, g.words, h.many, h.nodes);
          sigs = omega (arith, n, g.sigs, h.nodes);
          frees = omega (arith, n, g.frees, h.nodes);
        };
        room = omega (arith, n, l, g.words, h.many, h.nodes);
      }

  module _ (r : Formed) (area₁ : Area) where
    -- what is told of the expression there
    module _ (part : List ℕ) (cut : part ≡ drop off s) (next : Counts) (more : next ≡ behind) (given : Told (on_side holds) mode part next r area area₁) where
      told : Told (on_side holds) mode (drop off s) behind r area area₁
      told = told_as (on_side holds) mode r area area₁ cut more given

      abbrev MadeBy : (ps : List Piece) → Pieced s ws ps → Made
      MadeBy ps are = on_side (the ps are).piece.side (translate mode (the ps are).piece.expr (now_at ps are).atoms)

      told_at : (ps : List Piece) (are : Pieced s ws ps) → Forms (MadeBy ps are) (at.words + 1) r area area₁
      told_at ps are = let x = the ps are in rw x.side at (told x.piece.expr x.begins (now_at ps are).atoms (the_tied ps are))

      pub piece_far : (o : Overflow) → r ≡ Err o → off + o.at < length s
      piece_far o q =
          let x = mine in
          let e = x.piece.expr in
          let z = sided_within x.piece.side (nodes_e e) (size_e e) here.atoms (translate mode e here.atoms) _ o r area area₁ (told_at h.pieces h.are) (grows mode e here.atoms) q in
          omega (arith, z, size_fits e (drop off s) x.begins, length-drop off s)

      -- it is completed by what the others make
      cons_gives : (ps : List Piece) (are : Pieced s ws ps) (r' : Formed) (area' : Area)
          → Forms (on_made (the ps are).piece.at (MadeBy ps are) (λ f b. on_made 0 (path_formula mode (drop (suc i) ps) b) (λ g c. made (joined 1 f g) c))) at.words r' area area'
          → Forms (path_formula mode ps no_atoms) 0 r' area₀ area'
      cons_gives ps are r' area' g =
          let x = the ps are in
          let a = (now_at ps are).atoms in
          (now_at ps are).gives r' area' (result_as _ _ _ _ _ _ (path_cons mode x.piece (drop (suc i) ps) a ∙ ap (λ (qs : List Piece). path_formula mode qs a) (sym x.cut)) g)

      pub piece_stops : (r' : Formed) → r' ≡ moved off r → (o : Overflow) → r' ≡ Err o → (ps : List Piece) → Pieced s ws ps → Forms (path_formula mode ps no_atoms) 0 (Err o) area₀ area₁
      piece_stops r' m o q ps are =
          let x = the ps are in
          cons_gives ps are (Err o) area₁ (stop_result (MadeBy ps are) x.piece.at _ at.words o _ r r' area area₁ area area₁ (told_at ps are) (m ∙ ap (λ (n : ℕ). moved n r) x.at) q)

      module _ (end : Counts) (r' : Formed) (m : r' ≡ moved off r) (q : r' ≡ Ok end) where
        end_at : (ps : List Piece) (are : Pieced s ws ps) → Mid (MadeBy ps are) (at.words + 1) end area area₁
        end_at ps are = mid_of _ _ r end area area₁ (told_at ps are) (not_moved off r r' end m q)

        -- how much the piece adds
        piece_grows : (ps : List Piece) (are : Pieced s ws ps) → Grows (1 + nodes_e (the ps are).piece.expr) (nodes_e (the ps are).piece.expr) (size_e (the ps are).piece.expr) (now_at ps are).atoms (MadeBy ps are)
        unfolding on_side
        piece_grows ps are =
            let x = the ps are in
            let e = x.piece.expr in
            let a = (now_at ps are).atoms in
            side_grows (nodes_e e) (nodes_e e) (size_e e) (1 + nodes_e e) (nodes_e e) (size_e e) 0 a x.piece.side (translate mode e a) (omega arith) (omega arith) (omega arith) (grows mode e a)

        -- how much is written now
        end_grown : (ps : List Piece) (are : Pieced s ws ps) → (end.words + words_for (drop (suc i) ps) ≤ words_for ps) × (end.sigs + nodes_p (drop (suc i) ps) ≤ nodes_p ps) × (end.frees + nodes_p (drop (suc i) ps) ≤ nodes_p ps)
        end_grown ps are =
            let x = the ps are in
            let g = now_at ps are in
            let e = x.piece.expr in
            let m = end_at ps are in
            let t = g.tied in
            let u = mid_grown (1 + nodes_e e) (nodes_e e) (size_e e) g.atoms (MadeBy ps are) _ end area area₁ m (piece_grows ps are) in
            let n = the_nodes ps are in
            let l = the_length ps are in
            (omega (arith, m.count, u.words, n, l, g.words), omega (arith, m.sigs, u.sigs, t.sigs.count, n, g.sigs), omega (arith, m.frees, u.frees, t.frees, n, g.frees))

        pub end_words : (at.words + 1 ≤ end.words) × (end.words ≤ 2049)
        end_words =
            let z = end_grown h.pieces h.are in
            let m = end_at h.pieces h.are in
            (omega (arith, m.count), omega (arith, z.0, h.many, h.nodes))

        pub piece_goes : (v : ℕ) → v ≡ join_word 1 (end.words - (at.words + 1)) → (ps : List Piece) → Pieced s ws ps → Going mode ps (i + 1) end area₀ (with_word area₁ at.words v)
        piece_goes v j ps are =
            let x = the ps are in
            let g = now_at ps are in
            let m = end_at ps are in
            let z = end_grown ps are in
            let y = end_grown h.pieces h.are in
            rw (add-one i) (record {
              atoms = m.atoms;
              tied = mid_tied _ _ end area area₁ m (omega (arith, y.1, h.nodes, g.full));
              full = ap length m.rows ∙ length-sets area.sigs 0 m.atoms.locations ∙ g.full;
              words = z.0;
              sigs = z.1;
              frees = z.2;
              gives = λ r' area' q. cons_gives ps are r' area'
                  (pair_result 1 at.words (MadeBy ps are) end area area₁ area' m (path_formula mode (drop (suc i) ps)) x.piece.at 0 v r' r' j (path_keeps mode (drop (suc i) ps) m.atoms) (moved_zero r') q);
            })
