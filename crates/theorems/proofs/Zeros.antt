-- Zeros where document 01 says zeros: in the values of every refusal; through the public entries, a refused start or a refused checkpoint shows the
-- examination of zeros, a slice that says "not yet" has zeros in every field but the examination, and Ok has zeros in reason, path, location and mask.
use Rattle.definition.specs.Table.{Told}
use Rattle.std.specs.Prelude.{Ok, Err, None}
use mathlib.Core.Path.{◌≡◌, refl, ap, ◌∙◌}
use Rattle.definition.specs.declared.Place.{Place}
use Rattle.definition.specs.declared.Outcome.{Outcome}
use Rattle.definition.specs.declared.Refusal.{Refusal}
use Rattle.definition.specs.declared.Verdict.{Verdict}
use Rattle.definition.specs.Fault.{Read}
use Rattle.definition.specs.Verdict.{the_bounds, place}
use Rattle.definition.specs.Place.{started}
use Rattle.definition.specs.Checkpoint.{read_checkpoint}
use Rattle.definition.specs.Values.{nowhere, ending, verdict_values, refused_values, checked_values, said_values, counted_values, numbered_values, satisfiable_values, shown_place}
use Rattle.examiner.specs.declared.Examination.{Examination}
use Rattle.examiner.specs.Answers.{opened_of}
use Rattle.examiner.specs.Values.{opened_values, sliced_values, written_values}
use Rattle.examiner.proofs.check_necessity.Reads as check_necessity
use Rattle.examiner.proofs.start.Reads as start
use Rattle.examiner.proofs.Examination.slice.Reads as cut
use Rattle.examiner.proofs.read_checkpoint.Reads as read_checkpoint

-- what is shown of a place, or of none
shown : (x : Read Place) → (opened_values (opened_of x)).place ≡ shown_place x
unfolding shown_place
shown (Ok p) = refl
shown (Err f) = refl

-- `start` shows the first place, or zeros
pub start_shows : (κs : _) (a : _) (r : _) (t : _) → start.Post κs a r t → (opened_values r).place ≡ shown_place (started a.0.now)
start_shows κs a r t p = ap (λ (x : Told Examination). (opened_values x).place) p ∙ shown (started a.0.now)

-- `read_checkpoint` shows the place that was written, or zeros
pub read_shows : (κs : _) (a : _) (r : _) (t : _) → read_checkpoint.Post κs a r t → (opened_values r).place ≡ shown_place (read_checkpoint the_bounds a.0.now)
read_shows κs a r t p = ap (λ (x : Told Examination). (opened_values x).place) p ∙ shown (read_checkpoint the_bounds a.0.now)

-- "A "not yet" has zeros in every field but the examination."
pub not_yet_zeros : (κs : _) (a : _) (r : _) (t : _) → cut.Post κs a r t → r.said ≡ Ok None → sliced_values r ≡ record { said = ending 0 0 0 nowhere 0 0; place = r.examination.place }
unfolding said_values
not_yet_zeros κs a r t p e = rw e

-- "Ok (0) has zeros in reason, path, location and mask."
pub ok_zeros : (κs : _) (a : _) (r : _) (t : _) → check_necessity.Post κs a r t → (o : Outcome) → r ≡ Ok o → o.verdict ≡ Verdict.Ok → checked_values r ≡ ending 0 0 0 nowhere 0 o.total
unfolding checked_values verdict_values
ok_zeros κs a r t p o e v = rw (e, v)

-- "A refusal returns number and place ..; other result fields are 0", of each kind of answer; e is the examination that was lent
pub refusal_zeros : (x : Refusal) (e : Examination)
    → (counted_values (Err x) ≡ record { number = x.number; at = x.place; paths = 0 })
    × (numbered_values (Err x) ≡ record { number = x.number; at = x.place; sigs = 0; frees = 0 })
    × (satisfiable_values (Err x) ≡ record { number = x.number; at = x.place; found = 0; mask = 0 })
    × (checked_values (Err x) ≡ refused_values x)
    × (opened_values (Err x) ≡ record { number = x.number; at = x.place; place = place 0 0 0 0 })
    × (sliced_values (record { examination = e; said = Err x }) ≡ record { said = refused_values x; place = e.place })
    × (written_values (record { examination = e; said = Err x }) ≡ record { number = x.number; at = x.place; length = 0; place = e.place })
unfolding counted_values numbered_values satisfiable_values checked_values said_values
refusal_zeros x e = (refl, refl, refl, refl, refl, refl, refl)
