-- The search for a checksig among the pieces of a path, whose words say where their expressions begin.
use Prim.Native.Nat.{ℕ, zero, suc, ◌/◌, ◌<◌}
use mathlib.Core.Path.{◌≡◌, refl, ap}
use mathlib.Core.Bool.{Bool, true, false, ◌||◌}
use mathlib.Core.List.{List, [], ◌∷◌, map}
use native.Mathlib.Omega.{arith}
use lib.ListN.{length, get_or, drop, length-map}
use Rattle.std.specs.Bool.{MatchBool}
use Rattle.std.specs.List.{HoldsAt, AllWithin}
use Rattle.definition.specs.Tree.{Expr}
use Rattle.definition.specs.Begins.{Begins}
use Rattle.definition.specs.Folding.{contains_checksig}
use Rattle.definition.specs.Paths.{Piece, any_checksig}
use Rattle.paths.specs.Gathering.{word, Stands, Each}
use Rattle.formula.specs.Areas.{Pieced}
use Rattle.formula.proofs.Pieces.{half_word}

-- whether a checksig stands in the expression that begins where the word says
abbrev pub Says : List ℕ → Bool → ℕ → Type 0
Says s b w = (e : Expr) → Begins e (drop (w / 2) s) → b ≡ contains_checksig e

-- what is said of the first piece's
said : (s : List ℕ) (x : Piece) (b : Bool) → Stands s x → Says s b (word x) → b ≡ contains_checksig x.expr
unfolding Stands
said s x b h g = g x.expr (rw (half_word x) h)

or_true : (b : Bool) → true ≡ (b || true)
or_true true = refl
or_true false = refl

any_some : (s : List ℕ) (ps : List Piece) → Each s ps → (k : ℕ) → k < length ps → Says s true (get_or (map word ps) k 0) → true ≡ any_checksig ps
unfolding any_checksig Each
any_some s [] h k l g = absurd (omega arith)
any_some s (x ∷ ps) h zero l g = rw (← said s x true h.0 g) refl
any_some s (x ∷ ps) h (suc k) l g = rw (← any_some s ps h.1 k (omega arith) g) (or_true _)

any_none : (s : List ℕ) (ps : List Piece) → Each s ps → ((k : ℕ) → k < length ps → Says s false (get_or (map word ps) k 0)) → false ≡ any_checksig ps
unfolding any_checksig Each
any_none s [] h g = refl
any_none s (x ∷ ps) h g = rw (← said s x false h.0 (g 0 (omega arith))) (any_none s ps h.1 (λ k l. g (suc k) (omega arith)))

pub any_says : (s ws : List ℕ) (ps : List Piece) → Pieced s ws ps → (r : Bool) → MatchBool r ((k : ℕ) × (k < length ws) × HoldsAt (Says s true) ws k) (AllWithin (Says s false) ws 0 (length ws)) → r ≡ any_checksig ps
any_says s ws ps h true g = any_some s ps h.stand g.0 (omega (arith, g.1, ap length h.words, length-map ps word)) (rw h.words at (g.2 0))
any_says s ws ps h false g = any_none s ps h.stand (λ k l. rw h.words at (g k 0 (omega arith) (omega (arith, ap length h.words, length-map ps word))))
