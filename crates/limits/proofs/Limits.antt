-- Document 01: "Greatest sizes: 32,768 bytes; 512 statements; 1,024 expression nodes; ..; 128 paths. At each size the next one up is
-- refused." Each statement is proved by computing it; expression and statement levels are in the crate definition, proofs/Cases.antt.
use mathlib.Core.Path.{◌≡◌, refl}
use Prim.Native.Nat.{ℕ, zero, suc}
use lib.IntN.{pos}
use lib.ListN.{take, replicate}
use Rattle.definition.specs.Tree.{Expr, text, ifelse, locktime, verify, Block, done, next}
use Rattle.definition.specs.Verdict.{the_bounds, check_necessity}
use Rattle.definition.specs.Values.{Values, nowhere, ending, refused_values, checked_values}
use Rattle.definition.proofs.Computing.{computing}
use Rattle.definition.proofs.Contracts.{nest, image, only, returns, c, x, yes', or, not'}

abbrev values : Block → Values
values b = checked_values (check_necessity the_bounds (image b))

abbrev refused : ℕ → ℕ → Values
refused n at = refused_values (record { number = n; place = at })

-- n locktimes of 26 bytes, then b
unfoldable pub locks : ℕ → Block → Block
locks zero b = b
locks (suc n) b = next (locktime nowhere 0 (pos 0)) (locks n b)

pub statements_512 : values (locks 512 done) ≡ ending 0 0 0 nowhere 0 0
unfolding computing locks
statements_512 = refl

pub statements_513 : values (locks 513 done) ≡ refused 6 13320
unfolding computing locks
statements_513 = refl

-- the count is tested before the fields, and the level before the count
pub statements_513_cut : checked_values (check_necessity the_bounds (take 13321 (image (locks 513 done)))) ≡ refused 6 13320
unfolding computing locks
statements_513_cut = refl

pub level_17_of_513 : values (locks 496 (nest 17)) ≡ refused 5 13496
unfolding computing locks nest
level_17_of_513 = refl

-- a full tree of 2^n variables: 1,023 nodes and 17,902 bytes for n = 9
unfoldable pub full : ℕ → Expr
full zero = x
full (suc n) = or (full n) (full n)

pub nodes_1024 : values (next (verify nowhere x) (only (verify nowhere (full 9)))) ≡ ending 0 0 0 nowhere 0 0
unfolding computing full
nodes_1024 = refl

pub nodes_1025 : values (next (verify nowhere (not' x)) (only (verify nowhere (full 9)))) ≡ refused 6 17962
unfolding computing full
nodes_1025 = refl

-- 2^n paths
unfoldable pub forks : ℕ → Block
forks zero = returns c
forks (suc n) = only (ifelse nowhere yes' (forks n) (forks n))

pub paths_128 : values (forks 7) ≡ ending 0 0 0 nowhere 0 130
unfolding computing forks
paths_128 = refl

pub paths_129 : values (only (ifelse nowhere yes' (forks 7) (returns c))) ≡ refused 9 0
unfolding computing forks
paths_129 = refl

-- a string of n bytes returned: 44 bytes more
abbrev long : ℕ → Block
long n = returns (text nowhere (replicate n 0))

pub bytes_32768 : values (long 32724) ≡ ending 1 2 0 nowhere 0 1
unfolding computing
bytes_32768 = refl

pub bytes_32769 : values (long 32725) ≡ refused 8 0
unfolding computing
bytes_32769 = refl
