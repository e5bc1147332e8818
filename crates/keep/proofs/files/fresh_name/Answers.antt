-- `fresh_name`: each byte is written as two digits.
use Rattle.std.proofs.Common.{rules}
use Rattle.std.specs.Fmt.{padded_integral}
use Rattle.keep.proofs.Written.{two_written}
use Rattle.keep.proofs.files.fresh_name.Goals as goal

pub returns : goal.returns
unfolding padded_integral
returns g c =
    rw (two_written c.args.a c.ranges.a.fits, two_written c.args.b c.ranges.b.fits, two_written c.args.c c.ranges.c.fits) (search rules)
