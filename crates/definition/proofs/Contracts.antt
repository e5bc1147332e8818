-- A short notation for contracts in document 01's words, "c is a checksig, x a variable", and for bytes. Every location is 0 but
-- `elsewhere`, that of c'.
use mathlib.Core.List.{List, ◌∷◌}
use Prim.Native.Nat.{ℕ, zero, suc}
use lib.IntN.{pos}
use Rattle.definition.specs.declared.Location.{Location}
use Rattle.definition.specs.Tree.{Expr, variable, number, boolean, logical, compare, unary, binary, checksig, Stmt, ifs, ret, Block, done, next}
use Rattle.definition.specs.Writing.{item, write}
use Rattle.definition.specs.Values.{nowhere}

-- the image of a contract in mode 0
abbrev pub image : Block → List ℕ
image b = write (record { mode = 0; block = b })

-- one statement, and a return
abbrev pub only : Stmt → Block
only x = next x done

abbrev pub returns : Expr → Block
returns e = only (ret nowhere e)

abbrev pub c : Expr
c = checksig nowhere

abbrev pub x : Expr
x = variable nowhere

abbrev pub elsewhere : Location
elsewhere = record { start = 0; end = 0; line = 0; column = 1 }

abbrev pub c' : Expr
c' = checksig elsewhere

abbrev pub yes' : Expr
yes' = boolean nowhere 1

abbrev pub no' : Expr
no' = boolean nowhere 0

abbrev pub lit : ℕ → Expr
lit n = number nowhere (pos n)

abbrev pub or : Expr → Expr → Expr
or a b = logical nowhere 0 a b

abbrev pub and : Expr → Expr → Expr
and a b = logical nowhere 1 a b

abbrev pub not' : Expr → Expr
not' a = unary nowhere 4 a

abbrev pub plus : Expr → Expr → Expr
plus a b = binary nowhere 0 a b

abbrev pub equal : Expr → Expr → Expr
equal a b = compare nowhere 0 a b

-- n ifs around nothing
unfoldable pub nest : ℕ → Block
nest zero = done
nest (suc n) = only (ifs nowhere c (nest n))

-- ---- bytes

-- a head with a count of top statements
abbrev pub top : ℕ → List ℕ → List ℕ
top n r = 66 ∷ 86 ∷ 78 ∷ 0 ∷ 1 ∷ 0 ∷ 0 ∷ n ∷ r

-- an item's tag and location
abbrev pub tagged : ℕ → List ℕ → List ℕ
tagged t r = item t nowhere r

-- one return, up to its expression
abbrev pub returned : List ℕ → List ℕ
returned r = top 1 (tagged 4 r)
