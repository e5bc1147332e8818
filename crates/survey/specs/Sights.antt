-- What the code tells of an image and of one of its paths. Document 01: "Then 7, 9, 10."
use Rattle.std.specs.Prelude.{ℕ, ◌≤◌, ◌≡◌, List, length, take, Ok, Err}
use Rattle.std.proofs.lemmas.List.Edits.{sets}
use Rattle.definition.specs.Tree.{Contract}
use Rattle.definition.specs.Writing.{count}
use Rattle.definition.specs.Fault.{Read, ◌>>=◌}
use Rattle.definition.specs.Reading.{read}
use Rattle.definition.specs.Paths.{paths_b}
use Rattle.definition.specs.Accepted.{Compiled, accepted}
use Rattle.paths.specs.Walking.{Accepted}
use Rattle.trials.specs.declared.Facts.{Facts}
use Rattle.trials.specs.declared.AtomCounts.{AtomCounts}
use Rattle.trials.specs.Facts.{compiled_by, counts_in, Within}
use Rattle.formula.specs.declared.Area.{Area}
use Rattle.survey.specs.declared.Sight.{Sight}

-- what is known of an image that is accepted
unfoldable pub sight_of : List ℕ → Read Sight
sight_of s = do
  c ← read s
  ps ← accepted s
  Ok (record { mode = c.mode; top = count c.block; paths = length ps })

-- the image s was read, and this is known of it
pub record Sees (s : List ℕ) (x : Sight) : Type 0 where
  pub walks : Accepted s x.top
  pub mode : (c : Contract) → read s ≡ Ok c → x.mode ≡ c.mode
  pub paths : (c : Contract) → read s ≡ Ok c → x.paths ≡ length (paths_b c.block 8)

-- the image s is accepted, with these paths, and this is known of it
pub record Sighted (s : List ℕ) (x : Sight) : Type 0 where
  pub paths : List Compiled
  pub is : accepted s ≡ Ok paths
  pub sees : Sees s x
  pub count : x.paths ≡ length paths

-- a path's facts are told, and its formula's words stand at the front of the area; the area is as long as before
pub record Route (p : Compiled) (r : Read Facts) (area : Area) : Type 0 where
  pub facts : Facts
  pub told : r ≡ Ok facts
  pub is : compiled_by (take facts.words area.code) facts ≡ p
  pub words : facts.words ≤ 2049
  pub full : length area.code ≡ 2049
  pub rows_full : length area.sigs ≡ 1024
  pub within : Within facts

-- a path is told, or its fault
unfoldable pub Loads : Read Compiled → Read Facts → Area → Type 0
Loads (Ok p) r area = Route p r area
Loads (Err f) r area = r ≡ Err f

-- every path was told: their counts of atoms stand at the front of the table
pub record Tabled (ps : List Compiled) (x : Sight) (r : Read Sight) (table table' : List AtomCounts) : Type 0 where
  pub told : r ≡ Ok x
  pub counts : table' ≡ sets table 0 (counts_in ps)

-- every path, or the first fault
unfoldable pub Compiles : Read (List Compiled) → Sight → Read Sight → List AtomCounts → List AtomCounts → Type 0
Compiles (Ok ps) x r table table' = Tabled ps x r table table'
Compiles (Err f) x r table table' = r ≡ Err f

-- the same of an image that is accepted
abbrev pub Stored : List ℕ → List AtomCounts → List AtomCounts → Type 0
Stored s table table' = (ps : List Compiled) → accepted s ≡ Ok ps → table' ≡ sets table 0 (counts_in ps)
