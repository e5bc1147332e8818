-- What the slices ask of bounds, image and place, and how far the loop over one path brings them.
use Rattle.std.specs.Prelude.{ℕ, ◌≤◌, ◌<◌, ◌≡◌, true, List}
use Rattle.definition.specs.declared.Bounds.{Bounds}
use Rattle.definition.specs.declared.Place.{Place}
use Rattle.definition.specs.Accepted.{Compiled}
use Rattle.definition.specs.Place.{slice, fits}
use Rattle.trials.specs.declared.Leg.{Leg}
use Rattle.trials.specs.Legs.{resumed}
use Rattle.survey.specs.declared.Sight.{Sight}
use Rattle.survey.specs.Sights.{Sighted}

-- bounds with which no sum of assignments leaves 64 bits, and no mask 32
pub record Fair (b : Bounds) : Type 0 where
  pub free : b.free ≤ 26
  pub all : b.all ≤ 26

-- the image s is accepted, this is known of it, and the place fits it
pub record Judged (b : Bounds) (s : List ℕ) (x : Sight) (p : Place) : Type 0 where
  pub sight : Sighted s x
  pub fitting : fits b sight.paths p ≡ true

-- past a path the place fits too, and budget was used
abbrev pub Left : Bounds → List Compiled → ℕ → Leg → Type 0
Left b ps budget (Leg.Ended o) = Unit {0}
Left b ps budget (Leg.Open q) = Unit {0}
Left b ps budget (Leg.On q left) = (fits b ps q ≡ true) × (left < budget)

-- after the loop over one path a slice comes to what it comes to from p on
pub record Onward (b : Bounds) (ps : List Compiled) (budget : ℕ) (p : Place) (r : Leg) : Type 0 where
  pub same : resumed b ps r ≡ slice b ps budget p
  pub left : Left b ps budget r
