-- The 16 bytes, one by one (Checkpoints.antt).
use native.Mathlib.Omega.{arith}
use Rattle.examiner.proofs.Checkpoints.{head_is}
use Rattle.examiner.proofs.keeping.head_of.Goals as goal

pub returns : goal.returns
returns c =
    rw (c.to_be_bytes.ensures, c.to_be_bytes-2.ensures, c.to_be_bytes-3.ensures) (head_is c.args.p (omega arith) (omega arith) c.requires)
