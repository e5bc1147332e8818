-- `weigh`: what was weighed and what the paths from this one on weigh is the whole.
use Rattle.std.proofs.Common.{◌≡◌, List, ◌*◌, ◌≤◌, drop}
use Rattle.definition.specs.Accepted.{Compiled}
use Rattle.trials.specs.Facts.{counts_in}
use Rattle.trials.specs.Weights.{weight_of}
use Rattle.trials.proofs.Weighing.{plus}
use Rattle.trials.proofs.Paths.weigh.Given as goal

abbrev pub invariant-loop-path : goal.invariant-loop-path
invariant-loop-path l = record {
  value : (ps : List Compiled) → l.self.atoms.now ≡ counts_in ps → weight_of l.self.bounds l.phase ps ≡ plus l.sum (weight_of l.self.bounds l.phase (drop l.path-index ps));
  few : l.sum ≤ l.path-index * 67108864;
}
