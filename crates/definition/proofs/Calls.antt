-- The other calls computed, and every number of document 01's table: counting, atoms, both queries, start, and what a slice says in numbers.
use mathlib.Core.Path.{◌≡◌, refl}
use mathlib.Core.List.{List, [], ◌∷◌, map}
use Prim.Native.Nat.{ℕ}
use Rattle.definition.specs.declared.Kind.{Kind}
use Rattle.definition.specs.declared.Kind.TheVariants.{TooLong, NotMarked, OtherVersion, BadMode, LeftOver, TagMissing, TagUnknown, TooDeep, TooMany, CutShort, OpUnknown, BadFlag, BadBoolean, TooManyPaths, Overflows, CheckpointHead, CheckpointVersion, CheckpointPlace, BufferShort, NoSuchPath}
use Rattle.definition.specs.declared.Bounds.{Bounds}
use Rattle.definition.specs.declared.Refusal.{Refusal}
use Rattle.std.specs.Prelude.{Ok, Err, None, Some}
use Rattle.definition.specs.declared.Verdict.TheVariants.{UselessSig}
use Rattle.definition.specs.Tree.{ifs, ifelse, done, next}
use Rattle.definition.specs.Fault.{fault}
use Rattle.definition.specs.Table.{refusal_of}
use Rattle.definition.specs.Accepted.{count_paths, path_free_atoms}
use Rattle.definition.specs.Verdict.{the_bounds, place, outcome, satisfiable}
use Rattle.definition.specs.Place.{started}
use Rattle.definition.specs.Values.{nowhere, ending, refused_values, said_values, shown_place, CountedValues, counted_values, NumberedValues, numbered_values, SatisfiableValues, satisfiable_values}
use Rattle.definition.proofs.Computing.{computing}
use Rattle.definition.proofs.Contracts.{image, only, returns, c, x, c', no', or, and}

-- two paths, x and c, then not x and (c or x) and c'; one path and one list that runs out; a head cut short
abbrev two : List ℕ
two = image (only (ifelse nowhere x (returns c) (returns (and (or c x) c'))))

abbrev half : List ℕ
half = image (next (ifs nowhere x (returns no')) (returns c))

abbrev cut : List ℕ
cut = 66 ∷ 86 ∷ 78 ∷ []

-- ---- counting

abbrev paths : ℕ → CountedValues
paths n = record { number = 0; at = 0; paths = n }

pub counts : map (λ (s : List ℕ). counted_values (count_paths s)) (image done ∷ half ∷ two ∷ cut ∷ []) ≡ paths 0 ∷ paths 1 ∷ paths 2 ∷ record { number = 3; at = 3; paths = 0 } ∷ []
unfolding computing
counts = refl

-- ---- atoms of a path

pub record Asked : Type 0 where
  pub bytes : List ℕ
  pub path : ℕ
  pub gives : NumberedValues

abbrev asked : List ℕ → ℕ → ℕ → ℕ → ℕ → ℕ → Asked
asked s i n at g f = record { bytes = s; path = i; gives = record { number = n; at = at; sigs = g; frees = f } }

unfoldable pub atoms : List Asked
atoms =
    asked two 0 0 0 1 1
    ∷ asked two 1 0 0 2 2
    ∷ asked half 0 0 0 0 1
    ∷ asked two 2 13 0 0 0
    ∷ asked (image done) 0 13 0 0 0
    ∷ asked cut 9 3 3 0 0
    ∷ []

pub atoms_hold : map (λ (r : Asked). numbered_values (path_free_atoms r.bytes r.path)) atoms ≡ map (λ (r : Asked). r.gives) atoms
unfolding computing atoms
atoms_hold = refl

-- ---- queries: phase 0 without signatures, phase 1 at all

pub record Query : Type 0 where
  pub bounds : Bounds
  pub phase : ℕ
  pub path : ℕ
  pub gives : SatisfiableValues

abbrev query : ℕ → ℕ → ℕ → ℕ → Query
query q i f m = record { bounds = the_bounds; phase = q; path = i; gives = record { number = 0; at = 0; found = f; mask = m } }

-- path 1 of `two` has Sig atoms 0 (c) and 1 (c'), Free atoms 0 (the condition) and 1 (x); in liveness the condition is bit 2
unfoldable pub queries : List Query
queries =
    query 0 0 0 0
    ∷ query 0 1 0 0
    ∷ query 1 0 1 3
    ∷ query 1 1 1 3
    ∷ record { bounds = record { free = 1; all = 3 }; phase = 0; path = 1; gives = record { number = 0; at = 0; found = 2; mask = 0 } }
    ∷ record { bounds = record { free = 2; all = 3 }; phase = 1; path = 1; gives = record { number = 0; at = 0; found = 2; mask = 0 } }
    ∷ record { bounds = the_bounds; phase = 0; path = 2; gives = record { number = 13; at = 0; found = 0; mask = 0 } }
    ∷ []

pub queries_hold : map (λ (r : Query). satisfiable_values (satisfiable r.bounds r.phase two r.path)) queries ≡ map (λ (r : Query). r.gives) queries
unfolding computing queries
queries_hold = refl

-- ---- start: the first place, in phase 1 without paths; zeros where it is refused

pub starts : map (λ (s : List ℕ). shown_place (started s)) (two ∷ image done ∷ cut ∷ []) ≡ place 0 0 0 0 ∷ place 1 0 0 0 ∷ place 0 0 0 0 ∷ []
unfolding computing
starts = refl

-- ---- what a slice says, in numbers

abbrev r11 : Refusal
r11 = record { number = 11; place = 5 }

pub says : map said_values (Ok None ∷ Err r11 ∷ Ok (Some (outcome (UselessSig 1 nowhere 3) (place 0 1 3 5) 6)) ∷ []) ≡ ending 0 0 0 nowhere 0 0 ∷ refused_values r11 ∷ ending 2 2 1 nowhere 3 6 ∷ []
unfolding computing
says = refl

-- ---- document 01's table of numbers; the place is the item's, not the field's

unfoldable pub kinds : List Kind
kinds =
    NotMarked ∷ OtherVersion ∷ TagMissing ∷ CutShort ∷ TagUnknown ∷ OpUnknown ∷ BadFlag ∷ BadMode ∷ BadBoolean ∷ TooDeep ∷ TooMany ∷ LeftOver ∷ TooLong ∷ TooManyPaths ∷ Overflows
    ∷ CheckpointHead ∷ CheckpointVersion ∷ CheckpointPlace ∷ BufferShort ∷ NoSuchPath ∷ []

pub numbers : map (λ (k : Kind). refusal_of (fault k 7 9)) kinds ≡ map (λ (n : ℕ). record { number = n; place = 7 }) (1 ∷ 2 ∷ 3 ∷ 3 ∷ 4 ∷ 4 ∷ 4 ∷ 4 ∷ 4 ∷ 5 ∷ 6 ∷ 7 ∷ 8 ∷ 9 ∷ 10 ∷ 11 ∷ 11 ∷ 11 ∷ 12 ∷ 13 ∷ [])
unfolding computing kinds
numbers = refl
