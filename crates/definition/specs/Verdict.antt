-- The unstopped run over an accepted image's paths: path by path, by the least satisfying mask, with its total.
-- Document 01, "Verdicts".
use Rattle.std.specs.Prelude.{ℕ, zero, suc, ◌+◌, ◌^◌, Bool, true, false, List, [], ◌∷◌, length, ltb, Ok, Err}
use Rattle.definition.specs.declared.Bounds.{Bounds}
use Rattle.definition.specs.declared.Place.{Place}
use Rattle.definition.specs.declared.Reason.TheVariants.{OverBound, Satisfied}
use Rattle.definition.specs.declared.Verdict.{Verdict}
use Rattle.definition.specs.declared.Verdict.TheVariants.{NoSigRequired, UselessSig, DeadPath}
use Rattle.definition.specs.declared.Outcome.{Outcome}
use Rattle.definition.specs.declared.Satisfiable.{Satisfiable}
use Rattle.definition.specs.Bytes.{when◌then◌else◌}
use Rattle.definition.specs.Fault.{Read}
use Rattle.definition.specs.Table.{refusal_of, Told}
use Rattle.definition.specs.Formula.{satisfies}
use Rattle.definition.specs.Accepted.{Compiled, accepted, path_of}

-- "more than 20 Free atoms", "more than 22 atoms"
abbrev pub the_bounds : Bounds
the_bounds = record { free = 20; all = 22 }

-- "A place is phase (0 security, 1 liveness), path, next mask, and the count tried before it.", from its parts
abbrev pub place : ℕ → ℕ → ℕ → ℕ → Place
place q i m c = record { phase = q; path = i; mask = m; count = c }

-- "Struct with total and place; inside it Ok, NoSigRequired, UselessSig with mask, or DeadPath.", from its parts
abbrev pub outcome : Verdict → Place → ℕ → Outcome
outcome v p t = record { verdict = v; total = t; place = p }

-- ---- by the phase: 0 security, 1 liveness

-- the atoms whose values are tried: security "bit j being Free j, all Sig false"; liveness both kinds
unfoldable pub atoms : ℕ → Compiled → ℕ
atoms zero p = p.frees
atoms (suc q) p = p.sigs + p.frees

-- which of the two bounds a phase has
unfoldable pub bound : Bounds → ℕ → ℕ
bound b zero = b.free
bound b (suc q) = b.all

-- "that path's number of assignments"
abbrev pub masks : ℕ → Compiled → ℕ
masks q p = 2 ^ atoms q p

-- "the path over its bound"
abbrev pub is_over : Bounds → ℕ → Compiled → Bool
is_over b q p = ltb (bound b q) (atoms q p)

-- whether a mask is one "that satisfies" the path
abbrev pub truth : ℕ → Compiled → ℕ → Bool
truth q p m = satisfies p.formula q p.sigs m

-- at path i over its bound: "gives NoSigRequired (verdict 1, reason 1, mask 0)"; "more than 22 atoms gives Ok"
unfoldable pub over_verdict : ℕ → ℕ → Compiled → Verdict
over_verdict zero i p = NoSigRequired OverBound i p.location 0
over_verdict (suc q) i p = Verdict.Ok

-- where mask m satisfies path i: "gives UselessSig (2) if a checksig stands anywhere on the path, else NoSigRequired (1),
-- reason 2, with that mask"; "the first that satisfies gives Ok"
unfoldable pub found_verdict : ℕ → ℕ → Compiled → ℕ → Verdict
found_verdict zero i p m = when p.signed then UselessSig i p.location m else NoSigRequired Satisfied i p.location m
found_verdict (suc q) i p m = Verdict.Ok

-- "All paths exhausted gives DeadPath (.., path 0 and its return's location). No paths gives Ok."
unfoldable pub finish : List Compiled → Verdict
finish [] = Verdict.Ok
finish (p ∷ ps) = DeadPath p.location

-- ---- the searches

-- "the first that satisfies", if any does
pub data Found : Type 0 where
  none : Found
  mask : ℕ → Found

-- "masks 0 up to 2^free - 1 ..; the first that satisfies": the least of the k masks from m on. (`elim` computes only the branch that the
-- test names, so no mask past the first is worked out when a case is computed.)
unfoldable pub least : (ℕ → Bool) → ℕ → ℕ → Found
least f m zero = none
least f m (suc k) = elim (f m) [ true ↦ mask m | false ↦ least f (m + 1) k ]

-- a phase over: "All paths exhausted" after so many assignments, or an end
pub data Searched : Type 0 where
  passed : ℕ → Searched
  ended : Outcome → Searched

-- phase q over the paths ps, the first of them number i, c assignments having been tried before: "One assignment tried counts 1,
-- the satisfying one included; nothing else counts."
unfoldable pub search : Bounds → ℕ → ℕ → ℕ → List Compiled → Searched
search b q i c [] = passed c
search b q i c (p ∷ ps) =
    elim (is_over b q p) [
      | true ↦ ended (outcome (over_verdict q i p) (place q i 0 c) c)
      | false ↦ elim (least (truth q p) 0 (masks q p)) [
        | mask m ↦ ended (outcome (found_verdict q i p m) (place q i m (c + m)) (c + m + 1))
        | none ↦ search b q (i + 1) (c + masks q p) ps
      ]
    ]

-- "All paths exhausted gives DeadPath", or the end that liveness came to
unfoldable pub after_liveness : List Compiled → Searched → Outcome
after_liveness ps (passed c) = outcome (finish ps) (place 1 (length ps) 0 c) c
after_liveness ps (ended o) = o

-- after security: "if security passed", liveness
unfoldable pub after_security : Bounds → List Compiled → Searched → Outcome
after_security b ps (passed c) = after_liveness ps (search b 1 0 c ps)
after_security b ps (ended o) = o

-- the unstopped run: "Security, path by path", then "Liveness, if security passed"
unfoldable pub unstopped : Bounds → List Compiled → Outcome
unstopped b ps = after_security b ps (search b 0 0 0 ps)

-- ---- the answers of three public calls

-- the outcome, or "A refusal"
unfoldable pub checked : Bounds → Read (List Compiled) → Told Outcome
checked b (Ok ps) = Ok (unstopped b ps)
checked b (Err f) = Err (refusal_of f)

-- "To be ported: .. `check_necessity`"
unfoldable pub check_necessity : Bounds → List ℕ → Told Outcome
check_necessity b s = checked b (accepted s)

-- "the first that satisfies", or none
unfoldable pub found : Found → Satisfiable
found none = Satisfiable.Never
found (mask m) = Satisfiable.Mask m

-- of one path, if it is not "over its bound"
unfoldable pub queried : Bounds → ℕ → Read Compiled → Told Satisfiable
queried b q (Ok p) = Ok (elim (is_over b q p) [ true ↦ Satisfiable.OverBound | false ↦ found (least (truth q p) 0 (masks q p)) ])
queried b q (Err f) = Err (refusal_of f)

-- "both satisfiability queries", of path i: `satisfiable_without_signatures` is phase 0, `satisfiable_at_all` phase 1
unfoldable pub satisfiable : Bounds → ℕ → List ℕ → ℕ → Told Satisfiable
satisfiable b q s i = queried b q (path_of i s)
