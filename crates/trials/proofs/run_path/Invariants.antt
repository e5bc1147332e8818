-- `run_path`: what is left of the budget comes to what the whole does.
use Rattle.std.proofs.Common.{◌≡◌, ◌+◌, ◌-◌, List, length}
use Rattle.definition.specs.Accepted.{Compiled}
use Rattle.trials.specs.Facts.{compiled_by}
use Rattle.trials.specs.Legs.{Stretch, leg_of}
use Rattle.trials.proofs.run_path.Given as goal

abbrev pub invariant-loop-tried : goal.invariant-loop-tried
invariant-loop-tried l = record {
  same : (rest : List Compiled) → l.n ≡ l.initial.p.path + 1 + length rest → leg_of (compiled_by l.code l.facts) rest (l.budget - l.tried) l.p ≡ leg_of (compiled_by l.code l.facts) rest l.budget l.initial.p;
  stands : Stretch l.code l.facts l.limit l.n l.p;
  path : l.p.path ≡ l.initial.p.path;
}
