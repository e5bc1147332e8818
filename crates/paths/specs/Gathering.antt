-- One path's pieces as the code writes them down: a word for each, in document 01's order, "its conditions in order, negated on the else
-- side, then its verifies, then its return".
use Rattle.std.specs.Prelude.{ℕ, ◌+◌, ◌*◌, ◌≤◌, ◌<◌, ◌≡◌, Bool, List, [], ◌∷◌, ◌++◌, map, length, get_or, drop}
use Rattle.std.specs.declared.ops.ControlFlow.{ControlFlow}
use Rattle.std.specs.declared.ops.ControlFlow.TheVariants.{Break, Continue}
use Rattle.definition.specs.Bytes.{when◌then◌else◌}
use Rattle.definition.specs.Tree.{Stmt, Block}
use Rattle.definition.specs.Writing.{stmts_s, stmts_b}
use Rattle.definition.specs.Begins.{Begins, BeginsS, BeginsB, HoldsB}
use Rattle.definition.specs.Paths.{Piece, Path, pieces, paths_b}
use Rattle.paths.specs.declared.Listed.{Listed}
use Rattle.paths.specs.declared.Trail.{Trail}
use Rattle.paths.specs.declared.Ended.{Ended}
use Rattle.paths.specs.declared.Gathered.{Gathered}
use Rattle.paths.specs.Walking.{Accepted}

-- a piece's word: twice its offset in the image, and 1 where it has to hold
unfoldable pub word_of : ℕ → Bool → ℕ
word_of at side = at * 2 + (when side then 1 else 0)

-- the same of a piece
unfoldable pub word : Piece → ℕ
word x = word_of x.at x.side

-- the piece's expression begins at its offset of the image s: "handed on as a part of the image that starts in its middle"
unfoldable pub Stands : List ℕ → Piece → Type 0
Stands s x = Begins x.expr (drop x.at s)

-- all of a list do
unfoldable pub Each : List ℕ → List Piece → Type 0
Each s [] = Unit {0}
Each s (x ∷ xs) = Stands s x × Each s xs

-- what is said of a whole path: how many pieces it has, and its return's location
unfoldable pub gathered : Path → Gathered
gathered p = record { pieces = length (pieces p); location = p.location }

-- ---- on the way there

-- t' has the word w more, among its conditions or among its verifies
pub record Conditioned (t : Trail) (w : ℕ) (t' : Trail) : Type 0 where
  pub conditions : t'.conditions.items ≡ t.conditions.items ++ w ∷ []
  pub verifies : t'.verifies.items ≡ t.verifies.items

pub record Verified (t : Trail) (w : ℕ) (t' : Trail) : Type 0 where
  pub conditions : t'.conditions.items ≡ t.conditions.items
  pub verifies : t'.verifies.items ≡ t.verifies.items ++ w ∷ []

-- the list `new` begins with the list `old`
pub record Extends (old new : List ℕ) : Type 0 where
  pub more : List ℕ
  pub is : new ≡ old ++ more

-- what was written down stays
pub record Keeps (t t' : Trail) : Type 0 where
  pub conditions : Extends t.conditions.items t'.conditions.items
  pub verifies : Extends t.verifies.items t'.verifies.items

-- behind what was written down the path p was added
pub record Adds (t : Trail) (p : Path) (r : Ended) (t' : Trail) : Type 0 where
  pub ended : r ≡ record { ret = p.ret.at; location = p.location }
  pub conditions : t'.conditions.items ≡ t.conditions.items ++ map word p.conditions
  pub verifies : t'.verifies.items ≡ t.verifies.items ++ map word p.verifies

-- path `wanted` of the paths ps was added
pub record Finds (ps : List Path) (wanted : ℕ) (t : Trail) (r : Ended) (t' : Trail) : Type 0 where
  pub below : wanted < length ps
  pub adds : (d : Path) → Adds t (get_or ps wanted d) r t'

-- there is no such path of ps: how many they are, and the z bytes of the statements that have them; what stands behind t is scratch
pub record Passes (ps : List Path) (z wanted : ℕ) (t : Trail) (r : Listed) (t' : Trail) : Type 0 where
  pub beyond : length ps ≤ wanted
  pub paths : r.paths ≡ length ps
  pub size : r.size ≡ z
  pub keeps : Keeps t t'

-- what the walk to path `wanted` of ps comes to: it breaks off at the path's return, or goes on behind what has no such path
abbrev pub Walks : List Path → ℕ → ℕ → Trail → ControlFlow Ended Listed → Trail → Type 0
Walks ps z wanted t (Break r) t' = Finds ps wanted t r t'
Walks ps z wanted t (Continue r) t' = Passes ps z wanted t r t'

-- n statements stand behind a statement at offset `off` that was passed
pub record Ahead (off : ℕ) (s : List ℕ) (n l : ℕ) (r : Listed) : Type 0 where
  pub within : off + r.size ≤ length s
  pub holds : HoldsB (drop (off + r.size) s) n l

-- the list at offset `at`, and room behind what is written down for the pieces of its paths
pub record Room (s : List ℕ) (at n l : ℕ) (t : Trail) : Type 0 where
  pub block : Block
  pub begins : BeginsB block n l s
  pub conditions : length t.conditions.items + stmts_b block ≤ 512
  pub verifies : length t.verifies.items + stmts_b block ≤ 512
  pub within : at + length s ≤ 32768

-- the same of the if at offset `at`
pub record RoomS (s : List ℕ) (at l : ℕ) (t : Trail) : Type 0 where
  pub stmt : Stmt
  pub begins : BeginsS stmt l s
  pub fork : get_or s 0 0 ≡ 1
  pub conditions : length t.conditions.items + stmts_s stmt ≤ 512
  pub verifies : length t.verifies.items + stmts_s stmt ≤ 512
  pub within : at + length s ≤ 32768

-- path `wanted` of an image that was read
pub record Asked (s : List ℕ) (n wanted : ℕ) : Type 0 where
  pub given : Accepted s n
  pub below : wanted < length (paths_b given.contract.block 8)
