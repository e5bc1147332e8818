-- The greatest total: a run tries at most the assignments of security and of liveness, and so at most what the bounds allow.
use Prim.Native.Nat.{ℕ, ◌+◌, ◌*◌, ◌^◌, ◌≤◌}
use mathlib.Core.List.{List}
use native.Mathlib.Omega.{arith}
use native.Mathlib.Nat.{mul-le-mul}
use lib.ListN.{length}
use lib.Seq.{take-length}
use lib.Pow.{pow_mono}
use Rattle.definition.specs.declared.Bounds.{Bounds}
use Rattle.definition.specs.Bytes.{when◌then◌else◌}
use Rattle.definition.specs.Accepted.{Compiled}
use Rattle.definition.specs.Verdict.{bound, Searched, passed, ended, search, after_liveness, after_security, unstopped}
use Rattle.definition.specs.Place.{assignments, spent}
use Rattle.definition.proofs.Graph.{Search, out, over, found, on, searches}
use Rattle.definition.proofs.Fitting.{assignments_le}

-- how many were tried when the search of a phase was over
abbrev tried : Searched → ℕ
tried (passed c) = c
tried (ended o) = o.total

within : (b : Bounds) (q : ℕ) {i c : ℕ} {ps : List Compiled} {r : Searched} → Search b q i c ps r → tried r ≤ c + assignments b q ps
unfolding assignments when◌then◌else◌
within b q out = omega arith
within b q (over u) = rw u (omega arith)
within b q (found u l) = rw u (omega (arith, l.below))
within b q (on u n s) = rw u (omega (arith, within b q s))

module _ (b : Bounds) (ps : List Compiled) where
  both_le : (unstopped b ps).total ≤ assignments b 0 ps + assignments b 1 ps
  unfolding unstopped after_security after_liveness
  both_le = go (search b 0 0 0 ps) (within b 0 (searches b 0 ps 0 0))
    where
      go : (x : Searched) → tried x ≤ 0 + assignments b 0 ps → (after_security b ps x).total ≤ assignments b 0 ps + assignments b 1 ps
      go (ended o) w = omega arith
      go (passed c) w = live (search b 1 0 c ps) (within b 1 (searches b 1 ps 0 c))
        where
          live : (y : Searched) → tried y ≤ c + assignments b 1 ps → (after_liveness ps y).total ≤ assignments b 0 ps + assignments b 1 ps
          live (ended o) v = omega arith
          live (passed k) v = omega arith

  -- the total never exceeds what is spent before the end of liveness
  pub total_le : (unstopped b ps).total ≤ spent b 1 (length ps) ps
  unfolding spent
  total_le = rw (take-length ps) both_le

  -- nor what the bounds allow
  pub bounds_le : (unstopped b ps).total ≤ length ps * (2 ^ b.free + 2 ^ b.all)
  unfolding bound
  bounds_le = omega (arith, both_le, assignments_le b 0 ps, assignments_le b 1 ps)

  -- of 128 paths, under bounds up to 20 and 22: 640 times 2 ^ 20
  pub greatest : length ps ≤ 128 → b.free ≤ 20 → b.all ≤ 22 → (unstopped b ps).total ≤ 671088640
  greatest n f a = omega (arith, bounds_le, mul-le-mul n sum)
    where
      sum : 2 ^ b.free + 2 ^ b.all ≤ 5242880
      sum = omega (arith, pow_mono f, pow_mono a)
