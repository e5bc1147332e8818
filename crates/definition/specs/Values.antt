-- The paper's numbers for each case of each answer. Document 01, "Which form each place takes": "When an answer is an enum, the
-- promises use a definition that gives this paper's number and values for each case of the enum."
use Rattle.definition.specs.Table.{Told}
use Rattle.definition.specs.declared.PathAtoms.{PathAtoms}
use Rattle.std.specs.Prelude.{ℕ, Ok, Err, Option, None, Some}
use Rattle.definition.specs.declared.Location.{Location}
use Rattle.definition.specs.declared.Refusal.{Refusal}
use Rattle.definition.specs.declared.Reason.{Reason}
use Rattle.definition.specs.declared.Reason.TheVariants.{OverBound, Satisfied, Other}
use Rattle.definition.specs.declared.Verdict.{Verdict}
use Rattle.definition.specs.declared.Verdict.TheVariants.{NoSigRequired, UselessSig, DeadPath}
use Rattle.definition.specs.declared.Outcome.{Outcome}
use Rattle.definition.specs.declared.Satisfiable.{Satisfiable}
use Rattle.definition.specs.declared.Place.{Place}
use Rattle.definition.specs.Fault.{Read}
use Rattle.definition.specs.Verdict.{place}

-- the refusal's number and place (0 and 0 if none); "then the verdict, its reason, path, return location, mask and total"
pub record Values : Type 0 where
  pub number : ℕ
  pub at : ℕ
  pub verdict : ℕ
  pub reason : ℕ
  pub path : ℕ
  pub location : Location
  pub mask : ℕ
  pub total : ℕ

-- "zeros in .. location"
abbrev pub nowhere : Location
nowhere = record { start = 0; end = 0; line = 0; column = 0 }

-- the values of an end, from their parts
abbrev pub ending : ℕ → ℕ → ℕ → Location → ℕ → ℕ → Values
ending v r i p m t = record { number = 0; at = 0; verdict = v; reason = r; path = i; location = p; mask = m; total = t }

-- "more than 20 Free atoms gives NoSigRequired (verdict 1, reason 1, mask 0)"; "else NoSigRequired (1), reason 2"; no verdict has another
abbrev pub reason_of : Reason → ℕ
reason_of OverBound = 1
reason_of Satisfied = 2
reason_of (Other n) = n

-- "Ok (0) has zeros in reason, path, location and mask"; DeadPath is "3, reason 0, mask 0, path 0 and its return's location"
unfoldable pub verdict_values : Verdict → ℕ → Values
verdict_values Verdict.Ok t = ending 0 0 0 nowhere 0 t
verdict_values (NoSigRequired r i p m) t = ending 1 (reason_of r) i p m t
verdict_values (UselessSig i p m) t = ending 2 2 i p m t
verdict_values (DeadPath p) t = ending 3 0 0 p 0 t

-- "the verdict, its reason, path, return location, mask and total" of an end
abbrev pub outcome_values : Outcome → Values
outcome_values o = verdict_values o.verdict o.total

-- "A refusal returns number and place ..; other result fields are 0"
abbrev pub refused_values : Refusal → Values
refused_values r = record { number = r.number; at = r.place; verdict = 0; reason = 0; path = 0; location = nowhere; mask = 0; total = 0 }

-- "this paper's number and values for each case" of `check_necessity`
unfoldable pub checked_values : Told Outcome → Values
checked_values (Err r) = refused_values r
checked_values (Ok o) = outcome_values o

-- "A "not yet" has zeros in every field but the examination."
unfoldable pub said_values : Told (Option Outcome) → Values
said_values (Err r) = refused_values r
said_values (Ok None) = ending 0 0 0 nowhere 0 0
said_values (Ok (Some o)) = outcome_values o

-- "other result fields are 0": a refused start or a refused checkpoint gives the examination of zeros
unfoldable pub shown_place : Read Place → Place
shown_place (Ok p) = p
shown_place (Err f) = place 0 0 0 0

-- ---- the calls that count and ask

-- `count_paths`: the refusal's number and place, and the "path count"
pub record CountedValues : Type 0 where
  pub number : ℕ
  pub at : ℕ
  pub paths : ℕ

-- "other result fields are 0"
unfoldable pub counted_values : Told ℕ → CountedValues
counted_values (Err r) = record { number = r.number; at = r.place; paths = 0 }
counted_values (Ok n) = record { number = 0; at = 0; paths = n }

-- `path_free_atoms`: the refusal's number and place, and the path's "Sig atoms, Free atoms"
pub record NumberedValues : Type 0 where
  pub number : ℕ
  pub at : ℕ
  pub sigs : ℕ
  pub frees : ℕ

-- "other result fields are 0"
unfoldable pub numbered_values : Told PathAtoms → NumberedValues
numbered_values (Err r) = record { number = r.number; at = r.place; sigs = 0; frees = 0 }
numbered_values (Ok a) = record { number = 0; at = 0; sigs = a.sigs; frees = a.frees }

-- "both satisfiability queries": the refusal's number and place; found is 0 for none, 1 for the mask, 2 for a path over its bound
pub record SatisfiableValues : Type 0 where
  pub number : ℕ
  pub at : ℕ
  pub found : ℕ
  pub mask : ℕ

-- "other result fields are 0"
unfoldable pub satisfiable_values : Told Satisfiable → SatisfiableValues
satisfiable_values (Err r) = record { number = r.number; at = r.place; found = 0; mask = 0 }
satisfiable_values (Ok Satisfiable.Never) = record { number = 0; at = 0; found = 0; mask = 0 }
satisfiable_values (Ok (Satisfiable.Mask m)) = record { number = 0; at = 0; found = 1; mask = m }
satisfiable_values (Ok Satisfiable.OverBound) = record { number = 0; at = 0; found = 2; mask = 0 }
