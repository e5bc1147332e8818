-- The names of new files.
use Rattle.std.specs.Prelude.{false, List, [], ◌∷◌, ◌++◌, ℕ, ◌/◌, ◌%◌}
use Rattle.std.specs.Fmt.{digit_glyph}
use Rattle.lines.specs.Lines.{ascii}

-- a byte as two hexadecimal digits
unfoldable pub two_digits : ℕ → List ℕ
two_digits n = digit_glyph false (n / 16) ∷ digit_glyph false (n % 16) ∷ []

-- what stands behind the kept file's name in that of a new one: a point, and six letters or digits
abbrev pub behind : ℕ → ℕ → ℕ → List ℕ
behind a b c = ascii "." ++ (two_digits a ++ (two_digits b ++ two_digits c))
