-- `path_formula`: what the pieces that are left make completes the formula (laws in Joining.antt).
use mathlib.Core.List.{List}
use Rattle.definition.specs.Paths.{Piece}
use Rattle.formula.specs.Areas.{Pieced}
use Rattle.formula.proofs.Joining.{Going}
use Rattle.formula.proofs.path_formula.Given as goal

abbrev pub invariant-loop-piece : goal.invariant-loop-piece
invariant-loop-piece l = (ps : List Piece) → Pieced l.image l.pieces ps → Going l.mode ps l.piece-index l.at l.initial.area l.area
