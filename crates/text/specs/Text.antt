-- Text in a buffer: what a piece leaves there, and a number in decimal.
use Rattle.std.specs.Prelude.{◌≡◌, cond, List, [], ◌∷◌, ◌++◌, ℕ, zero, suc, ◌+◌, ◌/◌, ◌%◌, ltb, length, take, drop}

-- the piece stands at `at` of what was old, all else is as it was, and r is the place after it
pub record Wrote (old : List ℕ) (at : ℕ) (piece new : List ℕ) (r : ℕ) : Type 0 where
  pub bytes : new ≡ take at old ++ (piece ++ drop (at + length piece) old)
  pub next : r ≡ at + length piece

-- the last digit of n
abbrev pub digit : ℕ → List ℕ
digit n = (48 + n % 10) ∷ []

-- the digits of n, the last one after those of a tenth of it; the first number is at least how many there are, less one
unfoldable pub digits_by : ℕ → ℕ → List ℕ
digits_by zero n = digit n
digits_by (suc k) n = cond (ltb n 10) (digit n) (digits_by k (n / 10) ++ digit n)

-- a number of 64 bits in decimal, without leading zeros: at most twenty digits
unfoldable pub decimal_of : ℕ → List ℕ
decimal_of n = digits_by 19 n
