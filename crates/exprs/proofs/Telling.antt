-- Laws of what is told of a judgement: from what it comes to to what is told, and back.
use Rattle.std.specs.Prelude.{◌≡◌, Ok, Err}
use Rattle.definition.specs.declared.Fault.{Fault}
use Rattle.definition.specs.Fault.{Read, answer}
use Rattle.definition.specs.Reading.{Part, part}
use Rattle.exprs.specs.declared.Extent.{Extent}
use Rattle.exprs.specs.Answers.{part_of}

module _ {A O : Type 0} (is : A → O) (wrong : Fault → O) where
  pub told_got : {r : Read A} {x : A} → r ≡ Ok x → is x ≡ answer is wrong r
  unfolding answer
  told_got e = rw e

  pub told_bad : {r : Read A} {f : Fault} → r ≡ Err f → wrong f ≡ answer is wrong r
  unfolding answer
  told_bad e = rw e

-- back: of a part the fault, or the counts and the size
pub part_bad : {A : Type 0} (r : Read (Part A)) (f : Fault) → part_of r ≡ Err f → r ≡ Err f
unfolding answer
part_bad (Ok x) f e = cc
part_bad (Err g) f e = cc

pub part_was : {A : Type 0} (r : Read (Part A)) (e : Extent) → part_of r ≡ Ok e → (x : A) × (r ≡ Ok (part x e.tally e.size))
unfolding answer
part_was (Ok y) e h = let q : e ≡ record { tally = y.tally; size = y.size } = cc in (y.tree, rw q)
part_was (Err f) e h = cc

pub ruleset telling = (told_got, told_bad)
