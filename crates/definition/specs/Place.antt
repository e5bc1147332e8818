-- Places, one trial, a slice. Document 01, "Slices and checkpoints".
use Rattle.std.specs.Prelude.{ℕ, zero, suc, ◌+◌, Bool, true, false, not, ◌&&◌, List, [], ◌∷◌, length, take, drop, ltb, leb, eqb, Ok, Option, None, Some}
use Rattle.definition.specs.declared.Kind.TheVariants.{CheckpointPlace}
use Rattle.definition.specs.declared.Bounds.{Bounds}
use Rattle.definition.specs.declared.Place.{Place}
use Rattle.definition.specs.declared.Outcome.{Outcome}
use Rattle.std.specs.declared.ops.ControlFlow.{ControlFlow}
use Rattle.std.specs.declared.ops.ControlFlow.TheVariants.{Break, Continue}
use Rattle.definition.specs.Bytes.{when◌then◌else◌}
use Rattle.definition.specs.Fault.{Read, fault, ◌>>=◌, ◌>>◌, refuse}
use Rattle.definition.specs.Accepted.{Compiled, accepted}
use Rattle.definition.specs.Verdict.{place, outcome, masks, is_over, truth, over_verdict, found_verdict, finish}

-- ---- one trial

-- where phase q comes to path i with c tried, `rest` being the paths from number i on: "after the last, security moves to liveness
-- path 0, and liveness to path = path count"
unfoldable pub enter : ℕ → ℕ → ℕ → List Compiled → Place
enter zero i c [] = place 1 0 0 c
enter zero i c (p ∷ ps) = place 0 i 0 c
enter (suc q) i c rest = place (suc q) i 0 c

-- "It starts at 0, 0, 0, or in phase 1 if there are no paths."
unfoldable pub start : List Compiled → Place
start ps = enter 0 0 0 ps

-- after an assignment of path h that did not satisfy, `rest` being the paths after h: "An exhausted path moves to the next at mask 0"
unfoldable pub after : Compiled → List Compiled → Place → Place
after h rest p =
    when ltb (p.mask + 1) (masks p.phase h)
    then place p.phase p.path (p.mask + 1) (p.count + 1)
    else enter p.phase (p.path + 1) (p.count + 1) rest

-- "one inner step, at a place that is no end without a trial, works out one assignment and hands back the end or the next place";
-- "An end by a trial leaves the place before that trial"
unfoldable pub trial : Compiled → List Compiled → Place → ControlFlow Outcome Place
trial h rest p =
    when truth p.phase h p.mask
    then Break (outcome (found_verdict p.phase p.path h p.mask) p (p.count + 1))
    else Continue (after h rest p)

-- ---- a slice

-- what stands next at a place: one of the "Ends that need no trial", or "one assignment"
pub data Seen : Type 0 where
  stop : Outcome → Seen
  tries : ControlFlow Outcome Place → Seen

-- "Ends that need no trial cost no budget and leave the place at which they are found: the path over its bound, or path = path
-- count in liveness." `rest` are the paths from the place's own on
unfoldable pub look : Bounds → List Compiled → Place → List Compiled → Seen
look b ps p [] = stop (outcome (finish ps) p p.count)
look b ps p (h ∷ rest) =
    when is_over b p.phase h
    then stop (outcome (over_verdict p.phase p.path h) p p.count)
    else tries (trial h rest p)

-- the same at a place of a list of paths
abbrev pub view : Bounds → List Compiled → Place → Seen
view b ps p = look b ps p (drop p.path ps)

-- "returns the examination at its new place with the answer": the end, if it is come to
pub record Standing : Type 0 where
  pub place : Place
  pub said : Option Outcome

-- "not yet", from its parts
abbrev pub not_yet : Place → Standing
not_yet p = record { place = p; said = None }

-- an end, from its parts
abbrev pub done : Place → Outcome → Standing
done p o = record { place = p; said = Some o }

-- no budget left: "Ends that need no trial cost no budget", and before a trial it is "not yet"
unfoldable pub idle : Seen → Place → Standing
idle (stop o) p = done p o
idle (tries t) p = not_yet p

-- with budget: "hands back the end or the next place", from which it goes on by `go`
unfoldable pub moved : Seen → Place → (Place → Standing) → Standing
moved (stop o) p go = done p o
moved (tries (Break o)) p go = done p o
moved (tries (Continue q)) p go = go q

-- "A slice calls `step` at most budget times and is proved equal to that many trials."
unfoldable pub slice : Bounds → List Compiled → ℕ → Place → Standing
slice b ps zero p = idle (view b ps p) p
slice b ps (suc budget) p = moved (view b ps p) p (slice b ps budget)

-- ---- fitting places

-- "no path .. is over its bound"
unfoldable pub under : Bounds → ℕ → List Compiled → Bool
under b q [] = true
under b q (p ∷ ps) = when is_over b q p then false else under b q ps

-- "that path's number of assignments", summed over the paths up to the first that is over its bound
unfoldable pub assignments : Bounds → ℕ → List Compiled → ℕ
assignments b q [] = 0
assignments b q (p ∷ ps) = when is_over b q p then 0 else masks q p + assignments b q ps

-- "the sum that follows" for path i of phase q: the assignments that stand before it, in liveness all those of security too
unfoldable pub spent : Bounds → ℕ → ℕ → List Compiled → ℕ
spent b zero i ps = assignments b 0 (take i ps)
spent b (suc q) i ps = assignments b 0 ps + assignments b 1 (take i ps)

-- how many masks a place may have, `rest` being the paths from its own on: "the mask is 0 at a path over its bound or after the last
-- path, else below that path's number of assignments"
unfoldable pub room : Bounds → ℕ → List Compiled → ℕ
room b q [] = 1
room b q (p ∷ ps) = when is_over b q p then 1 else masks q p

-- "no path left behind is over its bound; the mask ..; and the count is the sum that follows"
unfoldable pub behind : Bounds → ℕ → List Compiled → Place → Bool
behind b q ps p =
    under b q (take p.path ps)
    && (ltb p.mask (room b q (drop p.path ps))
    && eqb p.count (spent b q p.path ps + p.mask))

-- "the phase is 0 with a path below the path count, or 1 with one up to it"; in phase 1 every path is left behind by security
unfoldable pub fits : Bounds → List Compiled → Place → Bool
fits b ps p =
    when eqb p.phase 0
    then ltb p.path (length ps) && behind b 0 ps p
    else eqb p.phase 1 && (leb p.path (length ps) && (under b 0 ps && behind b 1 ps p))

-- ---- on an image

-- `start`: "It starts at 0, 0, 0, or in phase 1 if there are no paths."
unfoldable pub started : List ℕ → Read Place
started s = do
  ps ← accepted s
  Ok (start ps)

-- "A call lent an examination and an image tests the image first, then whether the place fits it by the rule for checkpoints
-- (11 at 5 if not)"
unfoldable pub fitting : Bounds → List ℕ → Place → Read (List Compiled)
fitting b s p = do
  ps ← accepted s
  refuse (not (fits b ps p)) (fault CheckpointPlace 5 5)
  Ok ps

-- `slice`: "tests the image first, then whether the place fits it", then the slice
unfoldable pub sliced : Bounds → List ℕ → ℕ → Place → Read Standing
sliced b s budget p = do
  ps ← fitting b s p
  Ok (slice b ps budget p)
