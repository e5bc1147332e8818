-- The word, and the number behind it, which has at most twenty digits.
use mathlib.Core.Path.{ap}
use Prim.Native.Nat.{ℕ}
use native.Mathlib.Omega.{arith}
use lib.ListN.{length, length-append}
use Rattle.text.proofs.Laws.{decimal_most}
use Rattle.lines.proofs.field.Goals as goal

pub push_decimal-requires : goal.push_decimal-requires
push_decimal-requires g c = omega (arith, ap length c.push_piece.ensures, length-append {A = ℕ}, decimal_most c.args.n)

pub returns-clause-upper_bound : goal.returns-clause-upper_bound
returns-clause-upper_bound g c =
    omega (arith, ap length c.push_piece.ensures, ap length c.push_decimal.ensures, length-append {A = ℕ}, decimal_most c.args.n)
