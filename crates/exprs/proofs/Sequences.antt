-- Laws of items one after the other, told without their trees.
use Rattle.std.specs.Prelude.{◌≡◌, ℕ, zero, suc, ◌+◌, ◌<◌, List, drop, Ok, Err, refl}
use native.Mathlib.Numerals.{add-one}
use native.Mathlib.Omega.{arith}
use Rattle.definition.specs.declared.Fault.{Fault}
use Rattle.definition.specs.Fault.{Read, ◌>>=◌, answer}
use Rattle.definition.specs.Reading.{Part, part, Reader}
use Rattle.definition.proofs.Steps.{on_got, on_bad}
use Rattle.exprs.specs.declared.Extent.{Extent}
use Rattle.exprs.specs.Answers.{extent, part_of, behind, sequence}

-- ---- steps after a part, of which only the counts and the size matter
pub part_then : {A B : Type 0} (r : Read (Part A)) (k : Part A → Read (Part B)) (m : Extent → Read Extent) → ((x : Part A) → part_of (k x) ≡ m (extent x.tally x.size)) → part_of (r >>= k) ≡ part_of r >>= m
unfolding answer ◌>>=◌
part_then (Ok x) k m h = h x
part_then (Err f) k m h = refl

pub behind_then : {A B : Type 0} (n : ℕ) (r : Read (Part A)) (k : Part A → Read (Part B)) (m : Extent → Read Extent) → ((x : Part A) → part_of (k x) ≡ m (extent x.tally (n + x.size))) → part_of (r >>= k) ≡ (part_of r >>= (λ e. Ok (extent e.tally (n + e.size)))) >>= m
unfolding answer ◌>>=◌
behind_then n (Ok x) k m h = h x
behind_then n (Err f) k m h = refl

-- a part is told alike whatever is made of its tree
pub made_part : {A B : Type 0} (make : A → B) (r : Read (Part A)) → part_of (r >>= (λ x. Ok (part (make x.tree) x.tally x.size))) ≡ part_of r
unfolding answer ◌>>=◌
made_part make (Ok x) = refl
made_part make (Err f) = refl

module _ {A : Type 0} (item : Reader A) where
  -- ---- one item, which was handed the bytes from there on: refused or read
  module _ (read : Extent) (at : ℕ) (s : List ℕ) (p : ℕ) (q : List ℕ) where
    pub behind_bad : (f : Fault) → p ≡ at + read.size → q ≡ drop read.size s → part_of (item read.tally p q) ≡ Err f → behind item read at s ≡ Err f
    unfolding behind ◌>>=◌
    behind_bad f there here e = rw (← there, ← here, e)

    pub behind_read : (e : Extent) → p ≡ at + read.size → q ≡ drop read.size s → part_of (item read.tally p q) ≡ Ok e → behind item read at s ≡ Ok (extent e.tally (read.size + e.size))
    unfolding behind ◌>>=◌
    behind_read e there here d = rw (← there, ← here, d)

  -- ---- a loop over items: none left; one more, refused or read
  pub none_left : (many : ℕ) (read : Extent) (at : ℕ) (s : List ℕ) → many ≡ 0 → sequence item many read at s ≡ Ok read
  unfolding sequence
  none_left many read at s e = rw e

  pub next_bad : (many : ℕ) (read : Extent) (at : ℕ) (s : List ℕ) (p : ℕ) (q : List ℕ) (f : Fault) → 0 < many → p ≡ at + read.size → q ≡ drop read.size s → part_of (item read.tally p q) ≡ Err f → sequence item many read at s ≡ Err f
  unfolding sequence
  next_bad zero read at s p q f more there here e = absurd (omega arith)
  next_bad (suc many) read at s p q f more there here e = on_bad _ _ f (behind_bad read at s p q f there here e)

  pub next_read : (many rest : ℕ) (read : Extent) (at : ℕ) (s : List ℕ) (p : ℕ) (q : List ℕ) (e : Extent) → many ≡ rest + 1 → p ≡ at + read.size → q ≡ drop read.size s → part_of (item read.tally p q) ≡ Ok e → sequence item many read at s ≡ sequence item rest (extent e.tally (read.size + e.size)) at s
  unfolding sequence
  next_read many rest read at s p q e more there here d = rw (more, add-one) (on_got _ _ (extent e.tally (read.size + e.size)) (behind_read read at s p q e there here d))

pub ruleset behinds = (behind_bad, behind_read)
