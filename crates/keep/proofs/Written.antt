-- How a byte is written.
use Rattle.std.proofs.Common.{◌≡◌, sym, ℕ, ◌<◌, ◌-◌, ◌^◌, [], false}
use Rattle.std.specs.Fmt.{padded_integral, format_spec, digits}
use Rattle.std.proofs.lemmas.Fmt.{hex_byte}
use Rattle.keep.specs.Names.{two_digits}

-- the two digits of a byte are what `{:02x}` writes of it
pub two_written : (n : ℕ) → n < 256 → two_digits n ≡ padded_integral (format_spec 32 0 4 2 (2 ^ 64 - 1)) false [] (digits 16 false n)
unfolding two_digits
two_written n h = sym (hex_byte false n h)
