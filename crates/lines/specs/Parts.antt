-- What the parts of the code write.
use Rattle.definition.specs.declared.PathAtoms.{PathAtoms}
use Rattle.std.specs.Prelude.{ℕ, List, [], Ok, Err}
use Rattle.definition.specs.Table.{Told}
use Rattle.lines.specs.Lines.{path_line}

-- the line of path i by what is said of its atoms; of a path that there is not, nothing
abbrev pub numbered_line : ℕ → Told PathAtoms → List ℕ
numbered_line i (Ok a) = path_line i a.sigs a.frees
numbered_line i (Err r) = []
