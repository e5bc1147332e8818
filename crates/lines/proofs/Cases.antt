-- What is printed, computed: document 01's two lines for P2, a refusal, and lines in which every number is of its own.
use mathlib.Core.Path.{◌≡◌, refl}
use mathlib.Core.List.{List, [], ◌∷◌, map}
use Prim.Native.Nat.{ℕ}
use Prim.Native.String.{String}
use Rattle.definition.specs.declared.Location.{Location}
use Rattle.definition.specs.Fault.{answer}
use Rattle.definition.specs.Tree.{Expr, hash, text, unary, ifelse, ret}
use Rattle.definition.specs.Values.{nowhere}
use Rattle.definition.proofs.Computing.{computing}
use Rattle.definition.proofs.Contracts.{image, only, returns, c, x, c', lit, or, and, plus}
use Rattle.text.specs.Text.{digits_by, decimal_of}
use Rattle.lines.specs.Lines.{ascii, path_line, path_lines, values_line, refused_line, report_of}

-- ---- byte by byte

-- the image of P2
abbrev p2 : List ℕ
p2 =
    66 ∷ 86 ∷ 78 ∷ 0 ∷ 1 ∷ 0 ∷ 0 ∷ 1 ∷ 4 ∷ 0 ∷ 0 ∷ 0 ∷ 0 ∷ 0 ∷ 0 ∷ 0 ∷ 0 ∷ 0 ∷ 0 ∷ 0 ∷ 0 ∷ 0 ∷ 0 ∷ 0
    ∷ 0 ∷ 25 ∷ 0 ∷ 0 ∷ 0 ∷ 0 ∷ 0 ∷ 0 ∷ 0 ∷ 0 ∷ 0 ∷ 0 ∷ 0 ∷ 0 ∷ 0 ∷ 0 ∷ 0 ∷ 0 ∷ []

-- "path 0 sigs 1 free 0", "verdict 0 reason 0 path 0 start 0 end 0 line 0 column 0 mask 0 tried 3", each with its line's end
abbrev p2_lines : List ℕ
p2_lines =
    112 ∷ 97 ∷ 116 ∷ 104 ∷ 32 ∷ 48 ∷ 32 ∷ 115 ∷ 105 ∷ 103 ∷ 115 ∷ 32 ∷ 49 ∷ 32 ∷ 102 ∷ 114 ∷ 101 ∷ 101 ∷ 32 ∷ 48 ∷ 10
    ∷ 118 ∷ 101 ∷ 114 ∷ 100 ∷ 105 ∷ 99 ∷ 116 ∷ 32 ∷ 48 ∷ 32 ∷ 114 ∷ 101 ∷ 97 ∷ 115 ∷ 111 ∷ 110 ∷ 32 ∷ 48 ∷ 32 ∷ 112 ∷ 97 ∷ 116 ∷ 104 ∷ 32 ∷ 48 ∷ 32
    ∷ 115 ∷ 116 ∷ 97 ∷ 114 ∷ 116 ∷ 32 ∷ 48 ∷ 32 ∷ 101 ∷ 110 ∷ 100 ∷ 32 ∷ 48 ∷ 32 ∷ 108 ∷ 105 ∷ 110 ∷ 101 ∷ 32 ∷ 48 ∷ 32 ∷ 99 ∷ 111 ∷ 108 ∷ 117 ∷ 109
    ∷ 110 ∷ 32 ∷ 48 ∷ 32 ∷ 109 ∷ 97 ∷ 115 ∷ 107 ∷ 32 ∷ 48 ∷ 32 ∷ 116 ∷ 114 ∷ 105 ∷ 101 ∷ 100 ∷ 32 ∷ 51 ∷ 10 ∷ []

pub p2_prints : report_of p2 ≡ p2_lines
unfolding computing answer digits_by decimal_of path_line path_lines values_line refused_line report_of
p2_prints = refl

-- no bytes: "refused 1 at 0"
pub none_prints : report_of [] ≡ 114 ∷ 101 ∷ 102 ∷ 117 ∷ 115 ∷ 101 ∷ 100 ∷ 32 ∷ 49 ∷ 32 ∷ 97 ∷ 116 ∷ 32 ∷ 48 ∷ 10 ∷ []
unfolding computing answer digits_by decimal_of path_line path_lines values_line refused_line report_of
none_prints = refl

-- ---- line by line

pub record Row : Type 0 where
  pub bytes : List ℕ
  pub gives : List ℕ

abbrev row : List ℕ → String → Row
row s t = record { bytes = s; gives = ascii t }

-- a location with four numbers
abbrev far : Location
far = record { start = 4294967295; end = 20; line = 3; column = 14 }

-- sha256(""), and 2^63-1 raised by unary Add
abbrev digest : Expr
digest = hash nowhere 0 (text nowhere [])

abbrev raised : Expr
raised = unary nowhere 0 (lit 9223372036854775807)

unfoldable pub table : List Row
table =
    row p2 "path 0 sigs 1 free 0\nverdict 0 reason 0 path 0 start 0 end 0 line 0 column 0 mask 0 tried 3\n"
    ∷ row [] "refused 1 at 0\n"
    -- R6
    ∷ row (image (returns (plus raised digest))) "refused 10 at 43\n"
    -- two paths, the second of which fails, at its own location
    ∷ row (image (only (ifelse nowhere x (returns (and c c')) (only (ret far (or c x))))))
    "path 0 sigs 2 free 1\npath 1 sigs 1 free 2\nverdict 2 reason 2 path 1 start 4294967295 end 20 line 3 column 14 mask 2 tried 5\n"
    ∷ []

pub holds : map (λ (r : Row). report_of r.bytes) table ≡ map (λ (r : Row). r.gives) table
unfolding computing answer digits_by decimal_of path_line path_lines values_line refused_line report_of table
holds = refl
