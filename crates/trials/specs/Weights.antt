-- What is weighed where a place is tested: the assignments of a path, and of paths.
use Rattle.std.specs.Prelude.{ℕ, true, false, List, Option, None, Some}
use Rattle.definition.specs.declared.Bounds.{Bounds}
use Rattle.definition.specs.Accepted.{Compiled}
use Rattle.definition.specs.Verdict.{masks, is_over}
use Rattle.definition.specs.Place.{under, assignments}

-- how many assignments a path has, if it is not over its bound
abbrev pub tried_on : Bounds → ℕ → Compiled → Option ℕ
tried_on b q p = elim (is_over b q p) [ true ↦ None | false ↦ Some (masks q p) ]

-- how many assignments paths have together, if none of them is over its bound
unfoldable pub weight_of : Bounds → ℕ → List Compiled → Option ℕ
weight_of b q ps = elim (under b q ps) [ true ↦ Some (assignments b q ps) | false ↦ None ]
