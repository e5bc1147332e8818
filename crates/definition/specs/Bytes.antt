-- Numbers and bytes: out of a list of bytes, in front of one, and two's complement. A list of bytes is a list of numbers
-- below 256. Document 01, "The contract image": "Numbers are big-endian."
use Rattle.std.specs.Prelude.{ℕ, ◌+◌, ◌*◌, ◌-◌, ◌/◌, ◌%◌, ◌^◌, ◌<◌, List, ◌∷◌, Bool, true, false, get_or, ltb, ℤ, pos, negsuc}

infixr 20 when◌then◌else◌
-- the choice by a test (no sentence of its own)
unfoldable pub when◌then◌else◌ : {A : Type 0} → Bool → A → A → A
when◌then◌else◌ true a b = a
when◌then◌else◌ false a b = b

-- every number of the list is a byte (no sentence of its own)
unfoldable pub Bytes : List ℕ → Type 0
Bytes s = (i : ℕ) → get_or s i 0 < 256

-- ---- out of the bytes s, at offset i

-- "16-bit"
unfoldable pub be16 : List ℕ → ℕ → ℕ
be16 s i = get_or s i 0 * 256 + get_or s (i + 1) 0

-- "32 bits"
unfoldable pub be32 : List ℕ → ℕ → ℕ
be32 s i = be16 s i * 65536 + be16 s (i + 2)

-- "64-bit"
unfoldable pub be64 : List ℕ → ℕ → ℕ
be64 s i = be32 s i * 4294967296 + be32 s (i + 4)

-- ---- in front of the bytes r

-- "16-bit"
abbrev pub put16 : ℕ → List ℕ → List ℕ
put16 n r = n / 256 ∷ n % 256 ∷ r

-- "32 bits"
abbrev pub put32 : ℕ → List ℕ → List ℕ
put32 n r = put16 (n / 65536) (put16 (n % 65536) r)

-- "64-bit"
abbrev pub put64 : ℕ → List ℕ → List ℕ
put64 n r = put32 (n / 4294967296) (put32 (n % 4294967296) r)

-- ---- signed numbers

-- "64-bit two's complement"
unfoldable pub signed : ℕ → ℤ
signed n = when ltb n (2 ^ 63) then pos n else negsuc (2 ^ 64 - 1 - n)

-- "64-bit two's complement", the other way
unfoldable pub bits : ℤ → ℕ
bits (pos n) = n
bits (negsuc n) = 2 ^ 64 - 1 - n
