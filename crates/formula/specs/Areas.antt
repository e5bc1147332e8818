-- What the lent area holds: the words of a formula, and the location of each Sig atom. Document 01: "a search among the path's earlier
-- checksigs".
use Rattle.std.specs.Prelude.{ℕ, ◌+◌, ◌≤◌, ◌≡◌, Bool, List, [], ◌∷◌, map, length, take, Result, Ok, Err}
use Rattle.std.proofs.lemmas.List.Edits.{sets}
use Rattle.definition.specs.declared.Location.{Location}
use Rattle.definition.specs.Tree.{Expr}
use Rattle.definition.specs.Writing.{nodes_e}
use Rattle.definition.specs.Begins.{Begins}
use Rattle.definition.specs.Paths.{Piece}
use Rattle.definition.specs.Formula.{Formula, Atoms, Made, made, stopped, on_made, sided, index_of, with_location}
use Rattle.paths.specs.Gathering.{word, Each}
use Rattle.formula.specs.declared.Counts.{Counts}
use Rattle.formula.specs.declared.Overflow.{Overflow}
use Rattle.formula.specs.declared.Area.{Area}
use Rattle.evaluation.specs.Words.{code_of}

-- so much is written, and one word more
abbrev pub one_more : Counts → Counts
one_more at = record { words = at.words + 1; sigs = at.sigs; frees = at.frees }

-- the first n locations of the area are these
pub record Rows (l : List Location) (n : ℕ) (rows : List Location) : Type 0 where
  pub count : n ≡ length l
  pub are : take n rows ≡ l

-- the counts of atoms and the locations are those of the atoms a; of the words nothing is said
pub record Tied (a : Atoms) (at : Counts) (rows : List Location) : Type 0 where
  pub sigs : Rows a.locations at.sigs rows
  pub frees : at.frees ≡ a.frees

-- the number of a location's Sig atom, and the locations with it, which is added where it is new
pub record SigFor (p : Location) (l : List Location) (r : ℕ) (rows rows' : List Location) : Type 0 where
  pub number : r ≡ index_of p l
  pub are : rows' ≡ sets rows 0 (with_location p l)

-- an expression at the front of s, and room for it behind what is written: a word, a Sig atom and a Free atom for each node
pub record Ready (s : List ℕ) (at : Counts) (rows : List Location) : Type 0 where
  pub expr : Expr
  pub begins : Begins expr s
  pub atoms : Atoms
  pub tied : Tied atoms at rows
  pub words : at.words + nodes_e expr ≤ 2049
  pub sigs : at.sigs + nodes_e expr ≤ 1024
  pub frees : at.frees + nodes_e expr ≤ 1024

-- the same where its negation may be wanted, which has one word more
pub record SidedReady (s : List ℕ) (at : Counts) (rows : List Location) : Type 0 where
  pub ready : Ready s at rows
  pub room : at.words + (1 + nodes_e ready.expr) ≤ 2049

-- what is told and left behind, from word w on: the formula's words, the numbers of the atoms after it, and their locations
pub record Wrote (f : Formula) (b : Atoms) (w : ℕ) (r : Result Counts Overflow) (area area' : Area) : Type 0 where
  pub told : r ≡ Ok (record { words = w + length (code_of f); sigs = length b.locations; frees = b.frees })
  pub words : area'.code ≡ sets area.code w (code_of f)
  pub rows : area'.sigs ≡ sets area.sigs 0 b.locations

-- the same of what a translation makes; of an overflow only its place is said
unfoldable pub Forms : Made → ℕ → Result Counts Overflow → Area → Area → Type 0
Forms (made f b) w r area area' = Wrote f b w r area area'
Forms (stopped d) w r area area' = r ≡ Err (record { at = d })

-- "the other side or its negation", "negated on the else side", "`!e`": of what is made
unfoldable pub on_side : Bool → Made → Made
on_side side m = on_made 0 m (λ f a. made (sided side f) a)

-- the same, an overflow n bytes further on
abbrev pub moved : ℕ → Result Counts Overflow → Result Counts Overflow
moved n (Ok x) = Ok x
moved n (Err o) = Err (record { at = n + o.at })

-- ---- a path

-- the words ws are those of the pieces ps, each of which stands in the image s
pub record Pieced (s ws : List ℕ) (ps : List Piece) : Type 0 where
  pub words : ws ≡ map word ps
  pub stand : Each s ps

-- "expression nodes" of the pieces
unfoldable pub nodes_p : List Piece → ℕ
nodes_p [] = 0
nodes_p (x ∷ xs) = nodes_e x.expr + nodes_p xs

-- there are such pieces, no more than an image within the sizes has on a path
pub record PathHolds (s ws : List ℕ) : Type 0 where
  pub pieces : List Piece
  pub are : Pieced s ws pieces
  pub many : length pieces ≤ 512
  pub nodes : nodes_p pieces ≤ 1024
