-- The unstopped run, from the bytes to the values, on document 01's own cases: each table is one statement, proved by computing it.
use mathlib.Core.Path.{◌≡◌, refl}
use mathlib.Core.List.{List, [], ◌∷◌, map}
use Prim.Native.Nat.{ℕ, zero, suc}
use lib.IntN.{pos}
use Rattle.definition.specs.Tree.{Expr, text, compare, checksig, unary, hash, ifs, ifelse, locktime, verify, ret, Block, done, next}
use Rattle.definition.specs.Writing.{write}
use Rattle.definition.specs.Verdict.{the_bounds, check_necessity}
use Rattle.definition.specs.Values.{Values, nowhere, ending, refused_values, checked_values}
use Rattle.definition.proofs.Computing.{computing}
use Rattle.definition.proofs.Contracts.{top, nest, image, only, returns, c, x, elsewhere, c', yes', no', lit, or, and, not', plus, equal}

pub record Row : Type 0 where
  pub bytes : List ℕ
  pub gives : Values

abbrev row : Block → ℕ → ℕ → ℕ → ℕ → Row
row b v r m t = record { bytes = image b; gives = ending v r 0 nowhere m t }

-- P1 to P13: contract, verdict, reason, mask, total; path and location are 0
unfoldable pub table : List Row
table =
    row done 0 0 0 0
    ∷ row (returns c) 0 0 0 3
    ∷ row (returns x) 1 2 1 2
    ∷ row (returns (or c x)) 2 2 1 2
    ∷ row (returns (and c x)) 0 0 0 6
    ∷ row (returns no') 3 0 0 2
    ∷ row (returns (and c (not' c))) 3 0 0 3
    ∷ row (returns (and c (not' c'))) 0 0 0 3
    ∷ row (only (ifelse nowhere x done (returns c))) 0 0 0 4
    ∷ row (only (ifelse nowhere x (returns c) (returns no'))) 0 0 0 8
    ∷ row (returns (equal (plus (lit 1) (lit 1)) yes')) 1 2 0 1
    ∷ row (returns (plus (equal (plus (lit 1) (lit 1)) yes') (lit 0))) 3 0 0 2
    ∷ row (returns (compare nowhere 3 (plus c (lit 1)) (lit 1))) 2 2 1 2
    ∷ []

pub holds : map (λ (r : Row). checked_values (check_necessity the_bounds r.bytes)) table ≡ map (λ (r : Row). r.gives) table
unfolding computing table
holds = refl

-- ---- the second table: places of refusals, R5 and R6, and one case for each rule that P1 to P13 do not tell from another

abbrev refused : List ℕ → ℕ → ℕ → Row
refused s n at = record { bytes = s; gives = refused_values (record { number = n; place = at }) }

-- sha256(""), and 2^63-1 raised by unary Add
abbrev digest : Expr
digest = hash nowhere 0 (text nowhere [])

abbrev raised : Expr
raised = unary nowhere 0 (lit 9223372036854775807)

-- n times "not" around c
unfoldable pub nots : ℕ → Expr
nots zero = c
nots (suc n) = not' (nots n)

-- n variables and c
unfoldable pub xs : ℕ → Expr
xs zero = c
xs (suc n) = and x (xs n)

-- n checksigs, each with a location of its own
unfoldable pub sigs : ℕ → Expr
sigs zero = yes'
sigs (suc n) = and (checksig (record { start = n; end = 0; line = 0; column = 0 })) (sigs n)

-- a string returned in a mode
abbrev pushed : ℕ → List ℕ → ℕ → ℕ → ℕ → Row
pushed mode bs v r t = record { bytes = write (record { mode = mode; block = returns (text nowhere bs) }); gives = ending v r 0 nowhere 0 t }

unfoldable pub places : List Row
places =
    -- document 01's place tests
    refused [] 1 0
    ∷ refused (66 ∷ 86 ∷ 78 ∷ []) 3 3
    ∷ refused (66 ∷ 86 ∷ 78 ∷ 0 ∷ 1 ∷ 2 ∷ []) 4 5
    ∷ record { bytes = top 0 []; gives = ending 0 0 0 nowhere 0 0 }
    ∷ refused (top 0 (0 ∷ [])) 7 8
    ∷ refused (top 1 []) 3 8
    -- R5, and R6 refused
    ∷ row (returns (plus digest raised)) 1 2 1 2
    ∷ refused (image (returns (plus raised digest))) 10 43
    -- a path of more than 20 Free atoms is not tried (R2), nor one of more than 22 atoms in liveness
    ∷ row (returns (xs 21)) 1 1 0 0
    ∷ record { bytes = image (only (ifelse nowhere x (returns c) (only (ret elsewhere (xs 21))))); gives = ending 1 1 1 elsewhere 0 2 }
    ∷ row (returns (sigs 23)) 0 0 0 1
    -- two uses of a variable are two Free atoms
    ∷ row (returns (and x (not' x))) 1 2 1 2
    -- locations are equal in all four numbers
    ∷ row (returns (and c (not' (checksig (record { start = 1; end = 0; line = 0; column = 0 }))))) 0 0 0 3
    ∷ row (returns (and c (not' (checksig (record { start = 0; end = 1; line = 0; column = 0 }))))) 0 0 0 3
    ∷ row (returns (and c (not' (checksig (record { start = 0; end = 0; line = 1; column = 0 }))))) 0 0 0 3
    -- each path has its own Sig atoms: 2 + 2 assignments, then 4 + 4
    ∷ row (only (ifelse nowhere x (returns (and c no')) (returns (and c' no')))) 3 0 0 12
    -- Equal and NotEqual beside a boolean literal on either side; NumEqual and NumNotEqual have no such rule
    ∷ row (returns (equal c yes')) 0 0 0 3
    ∷ row (returns (equal no' c)) 2 2 0 1
    ∷ row (returns (compare nowhere 1 c yes')) 2 2 0 1
    ∷ row (returns (compare nowhere 1 no' c)) 0 0 0 3
    ∷ row (returns (compare nowhere 6 c yes')) 2 2 1 2
    ∷ row (returns (compare nowhere 7 c yes')) 2 2 1 2
    -- what holds a variable is not folded
    ∷ row (returns (plus x raised)) 1 2 1 2
    -- a verify counts, a locktime and what follows a return or an if do not
    ∷ row (next (verify nowhere c) (next (locktime nowhere 1 (pos 0)) (next (ret nowhere yes') (returns raised)))) 0 0 0 3
    ∷ row (next (ifs nowhere x (returns c)) (returns x)) 0 0 0 6
    -- conditions before verifies: Free 0 is the condition's
    ∷ row (next (verify nowhere x) (only (ifs nowhere (not' x) (returns yes')))) 1 2 2 3
    -- the failing path's number and its return's location; DeadPath has path 0's
    ∷ record { bytes = image (only (ifelse nowhere x (returns c) (only (ret elsewhere x)))); gives = ending 1 2 1 elsewhere 2 5 }
    ∷ record { bytes = image (only (ifelse nowhere x (returns c) (only (ret elsewhere (or c x))))); gives = ending 2 2 1 elsewhere 2 5 }
    ∷ record { bytes = image (only (ifelse nowhere x (only (ret elsewhere no')) (returns no'))); gives = ending 3 0 0 elsewhere 0 8 }
    -- the place of an overflow: after a verify, in an if block, in an else block; the first path's before the second's, a condition's
    -- before that of a verify that stands before it
    ∷ refused (image (next (verify nowhere c) (returns raised))) 10 59
    ∷ refused (image (only (ifs nowhere x (returns raised)))) 10 62
    ∷ refused (image (only (ifelse nowhere x (returns c) (returns raised)))) 10 98
    ∷ refused (image (only (ifelse nowhere x (returns raised) (returns raised)))) 10 64
    ∷ refused (image (next (verify nowhere raised) (only (ifs nowhere raised (returns c))))) 10 88
    -- strings in mode 0 and in mode 1
    ∷ pushed 0 [] 3 0 2
    ∷ pushed 0 (0 ∷ []) 1 2 1
    ∷ pushed 1 (0 ∷ 0 ∷ []) 3 0 2
    ∷ pushed 1 (0 ∷ 1 ∷ []) 1 2 1
    -- expression levels 32 and 33, statement levels 16 and 17
    ∷ row (returns (nots 31)) 2 2 0 1
    ∷ refused (image (returns (nots 32))) 5 601
    ∷ row (nest 16) 0 0 0 0
    ∷ refused (image (nest 17)) 5 600
    ∷ []

pub places_hold : map (λ (r : Row). checked_values (check_necessity the_bounds r.bytes)) places ≡ map (λ (r : Row). r.gives) places
unfolding computing places nots nest xs sigs
places_hold = refl
