-- P1 to P13 through the public entry: where `check_necessity` is given the bytes of a row of the table, the values of its answer are the row's
-- verdict, reason, path, location, mask and total. The table, one statement over all its rows, is definition's proofs/Cases.antt.
use mathlib.Core.Path.{◌≡◌, ap, ◌∙◌}
use mathlib.Core.List.{List, [], ◌∷◌, map}
use Prim.Native.Nat.{ℕ, zero, suc}
use lib.ListN.{drop}
use Rattle.definition.specs.Verdict.{the_bounds, check_necessity}
use Rattle.definition.specs.Values.{Values, checked_values}
use Rattle.definition.proofs.Cases.{Row, table, holds, places, places_hold}
use Rattle.examiner.proofs.check_necessity.Reads as check_necessity

-- what holds of all rows at once holds of each
row_at : (f g : Row → Values) (l : List Row) → map f l ≡ map g l → (i : ℕ) (x : Row) (rest : List Row) → drop i l ≡ x ∷ rest → f x ≡ g x
row_at f g [] e zero x rest d = cc
row_at f g [] e (suc i) x rest d = cc
row_at f g (y ∷ l) e zero x rest d = let z : y ≡ x = cc in rw (← z) cc
row_at f g (y ∷ l) e (suc i) x rest d = let z : map f l ≡ map g l = cc in row_at f g l z i x rest d

-- of every table of rows that holds of the definition
tabled : (l : List Row) → map (λ (x : Row). checked_values (check_necessity the_bounds x.bytes)) l ≡ map (λ (x : Row). x.gives) l → (κs : _) (a : _) (r : _) (t : _) → check_necessity.Post κs a r t
    → (i : ℕ) (x : Row) (rest : List Row) → drop i l ≡ x ∷ rest → a.0.now ≡ x.bytes → checked_values r ≡ x.gives
tabled l h κs a r t p i x rest d e =
    ap checked_values (p ∙ ap (check_necessity the_bounds) e)
    ∙ row_at (λ (y : Row). checked_values (check_necessity the_bounds y.bytes)) (λ (y : Row). y.gives) l h i x rest d

-- P1 to P13, row i of the table
pub cases : (κs : _) (a : _) (r : _) (t : _) → check_necessity.Post κs a r t → (i : ℕ) (x : Row) (rest : List Row) → drop i table ≡ x ∷ rest → a.0.now ≡ x.bytes → checked_values r ≡ x.gives
cases = tabled table holds

-- the place tests, R2, R5, R6, and a case for each rule that P1 to P13 do not tell from another
pub further_cases : (κs : _) (a : _) (r : _) (t : _) → check_necessity.Post κs a r t → (i : ℕ) (x : Row) (rest : List Row) → drop i places ≡ x ∷ rest → a.0.now ≡ x.bytes → checked_values r ≡ x.gives
further_cases = tabled places places_hold
