-- The loop over one path: trials until the end, until the budget is used up, or until the path is left. Document 01: "A slice calls `step` at
-- most budget times and is proved equal to that many trials."
use Rattle.std.specs.Prelude.{ℕ, zero, suc, ◌+◌, ◌^◌, ◌≤◌, ◌<◌, ◌≡◌, List, eqb, length}
use Rattle.definition.specs.Bytes.{when◌then◌else◌}
use Rattle.definition.specs.declared.Place.{Place}
use Rattle.std.specs.declared.ops.ControlFlow.{ControlFlow}
use Rattle.std.specs.declared.ops.ControlFlow.TheVariants.{Break, Continue}
use Rattle.definition.specs.declared.Outcome.{Outcome}
use Rattle.definition.specs.Accepted.{Compiled}
use Rattle.definition.specs.declared.Bounds.{Bounds}
use Rattle.definition.specs.Verdict.{masks}
use Rattle.definition.specs.Place.{trial, Standing, not_yet, done, slice}
use Rattle.trials.specs.declared.Facts.{Facts}
use Rattle.trials.specs.declared.Leg.{Leg}
use Rattle.trials.specs.Facts.{compiled_by}

-- a place on a path with these words and facts: the path has `limit` assignments in its phase, of which the place's mask is one, and the
-- contract n paths
pub record Ready (code : List ℕ) (x : Facts) (limit n : ℕ) (p : Place) : Type 0 where
  pub words : length code ≤ 2049
  pub limit_is : limit ≡ masks p.phase (compiled_by code x)
  pub mask : p.mask < limit
  pub count : p.count + 1 < 2 ^ 64
  pub path : p.path < n
  pub few : n ≤ 128

-- the same for all the assignments from there on
pub record Stretch (code : List ℕ) (x : Facts) (limit n : ℕ) (p : Place) : Type 0 where
  pub ready : Ready code x limit n p
  pub counts : p.count + limit < 2 ^ 64 + p.mask

-- one trial was made and `left` more may follow, of which `go` says what they come to: "hands back the end or the next place"; at mask 0
-- stands another path
abbrev pub leg_on : ℕ → (Place → Leg) → ControlFlow Outcome Place → Leg
leg_on left go (Break o) = Leg.Ended o
leg_on left go (Continue q) = when eqb q.mask 0 then Leg.On q left else go q

-- at most `budget` trials of path h, `rest` being the paths after it
unfoldable pub leg_of : Compiled → List Compiled → ℕ → Place → Leg
leg_of h rest zero p = Leg.Open p
leg_of h rest (suc budget) p = leg_on budget (leg_of h rest budget) (trial h rest p)

-- what a slice comes to after the loop over a path: past the path it goes on with the budget that is left
abbrev pub resumed : Bounds → List Compiled → Leg → Standing
resumed b ps (Leg.Ended o) = done o.place o
resumed b ps (Leg.Open p) = not_yet p
resumed b ps (Leg.On p left) = slice b ps left p
