-- How facts and words stand for a path.
use Rattle.std.specs.Prelude.{ℕ, ◌+◌, ◌≤◌, List, map}
use Rattle.definition.specs.Accepted.{Compiled}
use Rattle.evaluation.specs.Words.{formula_of}
use Rattle.trials.specs.declared.AtomCounts.{AtomCounts}
use Rattle.trials.specs.declared.Facts.{Facts}

-- the path of which these are the facts, its formula being what the words say
abbrev pub compiled_by : List ℕ → Facts → Compiled
compiled_by code x = record { formula = formula_of code; sigs = x.sigs; frees = x.frees; signed = x.signed; location = x.location }

-- how many atoms a path has
abbrev pub counts_of : Compiled → AtomCounts
counts_of p = record { free = p.frees; all = p.sigs + p.frees }

-- how many each path has
abbrev pub counts_in : List Compiled → List AtomCounts
counts_in ps = map counts_of ps

-- no more atoms than an image has expression nodes
pub record Within (x : Facts) : Type 0 where
  pub sigs : x.sigs ≤ 1024
  pub frees : x.frees ≤ 1024
