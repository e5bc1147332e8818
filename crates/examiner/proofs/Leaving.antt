-- Where a `?` leaves a function: what it returns is the error, as the function tells it.
use mathlib.Core.Path.{◌≡◌}
use Rattle.std.specs.Prelude.{Result, Err}
use Rattle.std.specs.Result.{IsErrAnd}
use Rattle.std.proofs.lemmas.Result.{err_from_is_err_and}

pub leaves : {A E : Type 0} (r z : Result A E) (e : E) → IsErrAnd r (λ y. y ≡ e) → Err e ≡ z → r ≡ z
leaves r z e i q = let p = err_from_is_err_and r i in rw (p.1, p.2) q
