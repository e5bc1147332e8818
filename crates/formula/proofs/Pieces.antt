-- The pieces of a path by their words: each begins at half its word, and has to hold where its word is odd.
use Prim.Native.Nat.{ℕ, zero, suc, ◌+◌, ◌*◌, ◌/◌, ◌%◌, ◌≤◌, ◌<◌}
use mathlib.Core.Path.{◌≡◌, refl, ap}
use mathlib.Core.Bool.{Bool, true, false}
use mathlib.Core.List.{List, [], ◌∷◌, map}
use native.Mathlib.Omega.{arith}
use lib.Dec.{eqb}
use lib.ListN.{length, get_or, drop, length-map, length-drop}
use borrow.Author.Tests.{eq-eqb, ne_eqb}
use Rattle.definition.specs.Bytes.{when◌then◌else◌}
use Rattle.definition.specs.Begins.{Begins, Holds}
use Rattle.definition.specs.Paths.{Piece}
use Rattle.folding.proofs.View.{size_fits, size_least}
use Rattle.paths.specs.Gathering.{word_of, word, Stands, Each}
use Rattle.formula.specs.Areas.{Pieced, PathHolds}

pub half_word : (x : Piece) → word x / 2 ≡ x.at
unfolding word word_of when◌then◌else◌
half_word x = by x.side
  where
    by : (b : Bool) → (x.at * 2 + (when b then 1 else 0)) / 2 ≡ x.at
    by true = omega arith
    by false = omega arith

side_word : (x : Piece) → eqb (word x % 2) 1 ≡ x.side
unfolding word word_of when◌then◌else◌
side_word x = by x.side
  where
    by : (b : Bool) → eqb ((x.at * 2 + (when b then 1 else 0)) % 2) 1 ≡ b
    by true = eq-eqb ((x.at * 2 + 1) % 2) 1 (omega arith)
    by false = ne_eqb ((x.at * 2 + 0) % 2) 1 (λ e. omega (arith, e))

-- piece i, where its word says
pub record PieceAt (s ws : List ℕ) (ps : List Piece) (i : ℕ) : Type 0 where
  pub piece : Piece
  pub cut : drop i ps ≡ piece ∷ drop (suc i) ps
  pub at : get_or ws i 0 / 2 ≡ piece.at
  pub side : eqb (get_or ws i 0 % 2) 1 ≡ piece.side
  pub begins : Begins piece.expr (drop (get_or ws i 0 / 2) s)

pieces_at : (s : List ℕ) (ps : List Piece) (i : ℕ) → Each s ps → i < length ps → PieceAt s (map word ps) ps i
unfolding Each Stands
pieces_at s [] i e h = absurd (omega arith)
pieces_at s (x ∷ ps) zero e h = record { piece = x; cut = refl; at = half_word x; side = side_word x; begins = rw (half_word x) e.0 }
pieces_at s (x ∷ ps) (suc i) e h = let z = pieces_at s ps i e.1 (omega arith) in record { piece = z.piece; cut = z.cut; at = z.at; side = z.side; begins = z.begins }

pub piece_at : (s ws : List ℕ) (ps : List Piece) (i : ℕ) → Pieced s ws ps → i < length ws → PieceAt s ws ps i
piece_at s ws ps i h k = rw h.words (pieces_at s ps i h.stand (omega (arith, ap length h.words, length-map ps word)))

-- what is asked of the part that begins there
module _ (s ws : List ℕ) (i : ℕ) (h : PathHolds s ws) (k : i < length ws) where
  pub piece_holds : Holds (drop (get_or ws i 0 / 2) s)
  piece_holds = let z = piece_at s ws h.pieces i h.are k in record { expr = z.piece.expr; begins = z.begins }

  pub piece_within : get_or ws i 0 / 2 ≤ length s
  piece_within = let z = piece_holds in omega (arith, size_fits z.expr _ z.begins, size_least z.expr, length-drop (get_or ws i 0 / 2) s)
