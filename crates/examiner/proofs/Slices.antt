-- Slices: the first place, the loop over the paths with one law for each way out of a turn, and the answers.
use Rattle.definition.specs.Fault.{Read}
use Rattle.std.specs.Prelude.{Ok, Err, Option, None, Some}
use Rattle.std.specs.Result.{IsOk}
use Prim.Native.Nat.{ℕ, suc, ◌+◌, ◌-◌, ◌^◌, ◌≤◌, ◌<◌}
use mathlib.Core.Path.{◌≡◌, refl, sym, ap, ◌∙◌}
use mathlib.Core.Bool.{true, false}
use mathlib.Core.List.{List, [], ◌∷◌, map}
use native.Mathlib.Nat.{mul-le-mul}
use native.Mathlib.Omega.{arith}
use lib.ListN.{length, take, drop, length-take, length-drop}
use lib.Seq.{sets}
use Rattle.definition.specs.declared.Bounds.{Bounds}
use Rattle.definition.specs.declared.Fault.{Fault}
use Rattle.definition.specs.declared.Outcome.{Outcome}
use Rattle.definition.specs.declared.Place.{Place}
use Rattle.definition.specs.declared.Verdict.{Verdict}
use Rattle.definition.specs.Tree.{Contract}
use Rattle.definition.specs.Table.{refusal_of}
use Rattle.definition.specs.Reading.{read}
use Rattle.definition.specs.Paths.{Path, paths_b, pieces}
use Rattle.definition.specs.Formula.{Made, made, stopped, no_atoms, path_formula}
use Rattle.definition.specs.Accepted.{Compiled, compiled, accepted}
use Rattle.definition.specs.Verdict.{the_bounds, place, outcome, masks, is_over, over_verdict, finish, unstopped, checked, check_necessity}
use Rattle.definition.specs.Place.{enter, start, done, slice, fits, started, sliced}
use Rattle.definition.proofs.Lists.{element_at}
use Rattle.definition.proofs.Steps.{bad_got, same_got, on_got, on_bad}
use Rattle.definition.proofs.Acceptance.{accepted_passed, accepted_total}
use Rattle.definition.proofs.Run.{slice_over, slice_finished}
use Rattle.definition.proofs.Fitting.{Fits, true_fits, fits_true, fits_count, fits_start, mask_lt_fits}
use Rattle.definition.proofs.Keeping.{fitting_is}
use Rattle.definition.proofs.Slices.{whole}
use Rattle.paths.specs.declared.Gathered.{Gathered}
use Rattle.paths.specs.Gathering.{word, gathered}
use Rattle.trials.specs.declared.Facts.{Facts}
use Rattle.trials.specs.declared.Leg.{Leg}
use Rattle.trials.specs.Facts.{compiled_by, Within}
use Rattle.trials.specs.Legs.{Stretch, leg_of}
use Rattle.trials.specs.Weights.{tried_on}
use Rattle.trials.proofs.Weighing.{limit_le}
use Rattle.trials.proofs.Legs.{leg_slice, leg_on_lem}
use Rattle.formula.specs.declared.Area.{Area}
use Rattle.survey.specs.declared.Sight.{Sight}
use Rattle.survey.specs.Sights.{sight_of, Sighted, Route, Loads}
use Rattle.survey.proofs.Loading.{Told, loads_told}
use Rattle.survey.proofs.Compiling.{compiled_at}
use Rattle.survey.proofs.Sighting.{sighted, faulty, routed}
use Rattle.examiner.specs.declared.Examination.{Examination}
use Rattle.examiner.specs.declared.running.Stood.{Stood}
use Rattle.examiner.specs.Answers.{examination_at, opened_of, sliced_of, judge_of, stood_of}
use Rattle.examiner.specs.Standing.{Fair, Judged, Left, Onward}
use Rattle.examiner.proofs.Judging.{judged, unjudged, sighted_few, tried_over, tried_under, tried_few}

-- ---- the first place of n paths
-- there is none
pub first_none : (n : ℕ) → n ≡ 0 → (ps : List Compiled) → n ≡ length ps → place 1 0 0 0 ≡ start ps
unfolding start enter
first_none n z [] l = refl
first_none n z (h ∷ t) l = absurd (omega arith)

-- there is one
pub first_some : (n : ℕ) → (n ≡ 0 → ⊥) → (ps : List Compiled) → n ≡ length ps → place 0 0 0 0 ≡ start ps
unfolding start enter
first_some n z [] l = absurd (z l)
first_some n z (h ∷ t) l = refl

-- ---- every path exhausted
-- a path that was compiled keeps its return's location
located : (p : Path) (m : Made) (h : Compiled) → compiled p m ≡ Ok h → p.location ≡ h.location
unfolding compiled
located p (made f a) h e = ap (λ (c : Compiled). c.location) (same_got _ h e)
located p (stopped at) h e = bad_got _ h e

module _ (s : List ℕ) (x : Sight) (g : Sighted s x) where
  -- as many are known as there are
  many : (ps : List Compiled) → accepted s ≡ Ok ps → x.paths ≡ length ps
  many ps a = g.count ∙ ap length (same_got g.paths ps (sym g.is ∙ a))

  -- no path
  pub finish_none : x.paths ≡ 0 → (ps : List Compiled) → accepted s ≡ Ok ps → Verdict.Ok ≡ finish ps
  unfolding finish
  finish_none z [] a = refl
  finish_none z (h ∷ t) a = absurd (omega (arith, many (h ∷ t) a))

  -- the first path's return, r being what is told of it
  pub finish_first : (x.paths ≡ 0 → ⊥) → (r : Gathered) (area area' : List ℕ)
      → ((c : Contract) → read s ≡ Ok c → (p : Path) (qs : List Path) → drop 0 (paths_b c.block 8) ≡ p ∷ qs → (r ≡ gathered p) × (area' ≡ sets area 0 (map word (pieces p))))
      → (ps : List Compiled) → accepted s ≡ Ok ps → Verdict.DeadPath r.location ≡ finish ps
  unfolding finish gathered
  finish_first z r area area' told [] a = absurd (z (many [] a))
  finish_first z r area area' told (h ∷ t) a =
      let k = accepted_passed s (h ∷ t) a in
      let p = compiled_at _ 0 _ (h ∷ t) h t k.made refl in
      let e = (told k.contract k.was_read p.0 p.1 p.2).0 in
      ap Verdict.DeadPath (ap (λ (y : Gathered). y.location) e ∙ located p.0 _ h p.3)

-- ---- one path
-- no count comes near 64 bits
few_counts : (b : Bounds) → Fair b → (ps : List Compiled) → length ps ≤ 128 → (p : Place) → Fits b ps p → p.count ≤ 17179869184
few_counts b f ps n p k = omega (arith, fits_count b ps p k, mul-le-mul n sum)
  where
    sum : 2 ^ b.free + 2 ^ b.all ≤ 134217728
    sum = omega (arith, limit_le b.free f.free, limit_le b.all f.all)

-- past the loop over a path that is not over its bound
module _ (b : Bounds) (ps : List Compiled) (h : Compiled) (rest : List Compiled) (n : ℕ) (p : Place) (d : drop p.path ps ≡ h ∷ rest) (u : is_over b p.phase h ≡ false) (f : Fits b ps p) where
  -- a place that fits, with less budget
  left_of : (r : Leg) → r ≡ leg_of h rest n p → Left b ps n r
  left_of (Leg.Ended o) e = tt
  left_of (Leg.Open q) e = tt
  left_of (Leg.On q m) e = let k = leg_on_lem b ps h rest n p q m d u f (sym e) in (fits_true b ps q k.0, k.1)

  -- the slice is what it is from p on
  onward : (r : Leg) → r ≡ leg_of h rest n p → Onward b ps n p r
  onward r e = record { same = rw e (leg_slice b ps h rest n p d u); left = left_of r e }

-- at a place on a path, of which the image tells r
module _ (b : Bounds) (s : List ℕ) (x : Sight) (p : Place) (j : Judged b s x p) (l : p.path < x.paths) (r : Read Facts) (area : Area)
    (told : (c : Contract) → read s ≡ Ok c → (q : Path) (qs : List Path) → drop p.path (paths_b c.block 8) ≡ q ∷ qs → Loads (compiled q (path_formula c.mode (pieces q) no_atoms)) r area) where
  -- the image's paths
  abbrev all : List Compiled
  all = j.sight.paths

  -- they are few
  few : length all ≤ 128
  few = omega (arith, j.sight.count, sighted_few s x j.sight)

  -- the place fits them
  fit : Fits b all p
  fit = true_fits b all p j.fitting

  -- its own path
  here : (h : Compiled) × (t : List Compiled) × (drop p.path all ≡ h ∷ t)
  here = element_at all p.path (omega (arith, l, j.sight.count))

  -- is the one that is told
  route : Route here.0 r area
  route = routed s x j.sight all j.sight.is p.path here.0 here.1 here.2 r area told

  -- a path of an accepted image has no fault
  pub leg_told : IsOk r
  leg_told = rw route.told refl

  pub leg_fault : {A : Type 0} → (f : Fault) → r ≡ Err f → A
  leg_fault f o = let t = leg_told in let z : ◌≡◌ {A = ℕ} 0 1 = cc in absurd (omega arith)

  -- y are its facts
  module _ (y : Facts) (o : r ≡ Ok y) where
    -- those that are told
    facts : Told (Ok here.0) y area
    unfolding Loads
    facts = loads_told _ r area route y o

    -- they are within the sizes
    pub leg_within : Within y
    leg_within = facts.within

    -- the path's words are there
    pub leg_words : y.words ≤ 2049
    leg_words = facts.words

    -- and say the path
    path_is : compiled_by (take y.words area.code) y ≡ here.0
    path_is = sym (same_got _ _ facts.is)

    -- m are its assignments in the phase, if it is not over its bound
    module _ (m : Option ℕ) (limits : (w : List ℕ) → m ≡ tried_on b p.phase (compiled_by w y)) where
      tried : m ≡ tried_on b p.phase here.0
      tried = limits (take y.words area.code) ∙ ap (tried_on b p.phase) path_is

      -- it is over it
      pub leg_over : m ≡ None → (v : Verdict) → ((w : List ℕ) → v ≡ over_verdict p.phase p.path (compiled_by w y)) → (q : Outcome) → q ≡ outcome v p p.count
          → (budget : ℕ) (ps : List Compiled) → accepted s ≡ Ok ps → Onward b ps budget p (Leg.Ended q)
      leg_over k v vq q qq budget ps a =
          let e : v ≡ over_verdict p.phase p.path here.0 = vq (take y.words area.code) ∙ ap (over_verdict p.phase p.path) path_is in
          rw (← same_got all ps (sym j.sight.is ∙ a), qq, e) (record { same = slice_over b all budget p here.0 here.1 here.2 (tried_over b p.phase here.0 (sym k ∙ tried)); left = tt })

      -- it is not
      module _ (limit : ℕ) (k : m ≡ Some limit) where
        -- so there are as many as the definition says
        under : (is_over b p.phase here.0 ≡ false) × (limit ≡ masks p.phase here.0)
        under = tried_under b p.phase here.0 limit (sym k ∙ tried)

        -- they can be tried from the place on
        pub leg_stretch : Fair b → Stretch (take y.words area.code) y limit x.paths p
        leg_stretch f =
            let c = few_counts b f all few p fit in
            let u = (tried_few b p.phase here.0 f limit (sym k ∙ tried)).2 in
            record {
              ready = record {
                words = omega (arith, length-take y.words area.code, leg_words);
                limit_is = under.1 ∙ ap (masks p.phase) (sym path_is);
                mask = omega (arith, under.1, mask_lt_fits b all p here.0 here.1 here.2 fit under.0);
                count = omega (arith, c);
                path = l;
                few = sighted_few s x j.sight;
              };
              counts = omega (arith, c, u);
            }

        -- what the loop over it comes to
        pub leg_run : (budget : ℕ) (q : Leg) → ((rest : List Compiled) → x.paths ≡ p.path + 1 + length rest → q ≡ leg_of (compiled_by (take y.words area.code) y) rest budget p)
            → (ps : List Compiled) → accepted s ≡ Ok ps → Onward b ps budget p q
        leg_run budget q e ps a =
            let z : suc (length here.1) ≡ length all - p.path = sym (ap length here.2) ∙ length-drop p.path all in
            let w : x.paths ≡ p.path + 1 + length here.1 = omega (arith, z, l, j.sight.count) in
            rw (← same_got all ps (sym j.sight.is ∙ a)) (onward b all here.0 here.1 budget p here.2 under.0 fit q (rw path_is at (e here.1 w)))

-- ---- the loop: what is left from p on is what the whole is from the first place on
abbrev pub Reached : Bounds → List ℕ → Place → ℕ → Place → ℕ → Type 0
Reached b s from budget p left = (ps : List Compiled) → accepted s ≡ Ok ps → slice b ps left p ≡ slice b ps budget from

module _ (b : Bounds) (s : List ℕ) (x : Sight) (from : Place) (budget : ℕ) (p : Place) (left : ℕ) (g : Sighted s x) (w : Reached b s from budget p left) where
  -- past the last path, v being the verdict there
  pub run_finished : x.paths ≤ p.path → (v : Verdict) → ((ps : List Compiled) → accepted s ≡ Ok ps → v ≡ finish ps) → (o : Outcome) → o ≡ outcome v p p.count
      → (ps : List Compiled) → accepted s ≡ Ok ps → record { place = p; end = Some o } ≡ stood_of (slice b ps budget from)
  run_finished k v vq o oq ps a = rw (← w ps a, ← slice_finished b ps left p (omega (arith, many s x g ps a, k)), oq, vq ps a)

  -- a path was run, by l
  module _ (l : Leg) (on : (ps : List Compiled) → accepted s ≡ Ok ps → Onward b ps left p l) where
    -- to the end
    pub run_ended : (o : Outcome) → l ≡ Leg.Ended o → (ps : List Compiled) → accepted s ≡ Ok ps → record { place = o.place; end = Some o } ≡ stood_of (slice b ps budget from)
    run_ended o e ps a = rw (← w ps a, ← (on ps a).same, e)

    -- until the budget was used up
    pub run_open : (q : Place) → l ≡ Leg.Open q → (ps : List Compiled) → accepted s ≡ Ok ps → record { place = q; end = None } ≡ stood_of (slice b ps budget from)
    run_open q e ps a = rw (← w ps a, ← (on ps a).same, e)

    -- past it: the loop goes on, with less budget
    module _ (q : Place) (rest : ℕ) (e : l ≡ Leg.On q rest) where
      -- as the leg says it
      beyond : (fits b g.paths q ≡ true) × (rest < left)
      beyond = rw e at (on g.paths g.is).left

      -- the place fits
      pub run_judged : Judged b s x q
      run_judged = record { sight = g; fitting = beyond.0 }

      -- budget was used
      pub run_less : rest < left
      run_less = beyond.1

      -- and the whole is still what is left
      pub run_again : Reached b s from budget q rest
      run_again ps a = (rw e at (on ps a).same) ∙ w ps a

-- ---- the answers
module _ (s : List ℕ) where
  -- `start` of an image that is not accepted
  pub start_refused : (f : Fault) → Err f ≡ sight_of s → Err (refusal_of f) ≡ opened_of (started s)
  unfolding started
  start_refused f e = rw (on_bad _ _ f (faulty s f e))

  -- and its unstopped run
  pub check_refused : (f : Fault) → Err f ≡ sight_of s → Err (refusal_of f) ≡ check_necessity the_bounds s
  unfolding check_necessity checked
  check_refused f e = rw (faulty s f e)

  -- of one that is, p being the first place
  module _ (x : Sight) (e : Ok x ≡ sight_of s) (p : Place) (first : (ps : List Compiled) → x.paths ≡ length ps → p ≡ start ps) where
    -- an examination there
    pub start_opened : Ok (examination_at p) ≡ opened_of (started s)
    unfolding started
    start_opened = let g = sighted s x e in rw (on_got _ _ g.paths g.is, first g.paths g.count)

    -- it fits
    pub check_judged : (b : Bounds) → Judged b s x p
    check_judged b = let g = sighted s x e in record { sight = g; fitting = rw (first g.paths g.count) (fits_true b g.paths (start g.paths) (fits_start b g.paths)) }

    -- from there on a budget that no total reaches is never used up
    pub check_done : (n : ℕ) → 671088640 ≤ n → (t : Stood) → ((ps : List Compiled) → accepted s ≡ Ok ps → t ≡ stood_of (slice the_bounds ps n p))
        → (t.end ≡ Some (unstopped the_bounds (sighted s x e).paths)) × ((o : Outcome) → t.end ≡ Some o → Ok o ≡ check_necessity the_bounds s)
    unfolding check_necessity checked
    check_done n l t u =
        let g = sighted s x e in
        let o = unstopped the_bounds g.paths in
        let w : slice the_bounds g.paths n p ≡ done o.place o = rw (first g.paths g.count) (whole the_bounds g.paths n (omega (arith, l, accepted_total s g.paths g.is))) in
        let z : t.end ≡ Some o = ap (λ (y : Stood). y.end) (u g.paths g.is ∙ ap stood_of w) in
        (z, λ q f. let r : q ≡ o = cc in rw (g.is, r))

-- `slice`
module _ (b : Bounds) (s : List ℕ) (y : Examination) (budget : ℕ) where
  -- of an image that is not accepted, or that the place does not fit
  pub slice_refused : (f : Fault) → Err f ≡ judge_of b s y.place → record { examination = y; said = Err (refusal_of f) } ≡ sliced_of y (sliced b s budget y.place)
  unfolding sliced
  slice_refused f e = rw (on_bad _ _ f (unjudged b s f y.place e))

  -- of another it is the loop's
  pub slice_stood : (x : Sight) → Ok x ≡ judge_of b s y.place → (t : Stood) → ((ps : List Compiled) → accepted s ≡ Ok ps → t ≡ stood_of (slice b ps budget y.place))
      → record { examination = examination_at t.place; said = Ok t.end } ≡ sliced_of y (sliced b s budget y.place)
  unfolding sliced
  slice_stood x e t u =
      let j = judged b s x y.place e in
      let ps = j.sight.paths in
      let f = fitting_is b s y.place ps j.sight.is j.fitting in
      rw (on_got _ _ ps f, u ps j.sight.is)
