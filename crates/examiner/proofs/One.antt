-- Each public call asks nothing of its caller, and no second answer satisfies its contract. The contracts are not repeated: `Pre` and `Post` of a
-- call are its `requires` and `ensures` as they are read from the source, over the lifetimes κs, the arguments a, the result r and what the arguments
-- are at the end, s. With a contract that several answers satisfy this file is refused.
use mathlib.Core.Path.{◌≡◌, sym, ◌∙◌}
use Rattle.examiner.proofs.count_paths.Reads as count_paths
use Rattle.examiner.proofs.path_free_atoms.Reads as path_free_atoms
use Rattle.examiner.proofs.satisfiable_without_signatures.Reads as satisfiable_without_signatures
use Rattle.examiner.proofs.satisfiable_at_all.Reads as satisfiable_at_all
use Rattle.examiner.proofs.start.Reads as start
use Rattle.examiner.proofs.Examination.slice.Reads as slice
use Rattle.examiner.proofs.check_necessity.Reads as check_necessity
use Rattle.examiner.proofs.Examination.write_checkpoint.Reads as write_checkpoint
use Rattle.examiner.proofs.read_checkpoint.Reads as read_checkpoint
use Rattle.examiner.proofs.checkpoint_image.Reads as checkpoint_image

-- `count_paths`
pub count_paths_asks_nothing : (κs : _) (a : _) → count_paths.Pre κs a
count_paths_asks_nothing κs a = tt

pub count_paths_one : (κs : _) (a : _) (r₁ r₂ : _) (s₁ s₂ : _) → count_paths.Post κs a r₁ s₁ → count_paths.Post κs a r₂ s₂ → r₁ ≡ r₂
count_paths_one κs a r₁ r₂ s₁ s₂ p q = p ∙ sym q

-- `path_free_atoms`
pub path_free_atoms_asks_nothing : (κs : _) (a : _) → path_free_atoms.Pre κs a
path_free_atoms_asks_nothing κs a = tt

pub path_free_atoms_one : (κs : _) (a : _) (r₁ r₂ : _) (s₁ s₂ : _) → path_free_atoms.Post κs a r₁ s₁ → path_free_atoms.Post κs a r₂ s₂ → r₁ ≡ r₂
path_free_atoms_one κs a r₁ r₂ s₁ s₂ p q = p ∙ sym q

-- `satisfiable_without_signatures`
pub satisfiable_without_signatures_asks_nothing : (κs : _) (a : _) → satisfiable_without_signatures.Pre κs a
satisfiable_without_signatures_asks_nothing κs a = tt

pub satisfiable_without_signatures_one : (κs : _) (a : _) (r₁ r₂ : _) (s₁ s₂ : _) → satisfiable_without_signatures.Post κs a r₁ s₁ → satisfiable_without_signatures.Post κs a r₂ s₂ → r₁ ≡ r₂
satisfiable_without_signatures_one κs a r₁ r₂ s₁ s₂ p q = p ∙ sym q

-- `satisfiable_at_all`
pub satisfiable_at_all_asks_nothing : (κs : _) (a : _) → satisfiable_at_all.Pre κs a
satisfiable_at_all_asks_nothing κs a = tt

pub satisfiable_at_all_one : (κs : _) (a : _) (r₁ r₂ : _) (s₁ s₂ : _) → satisfiable_at_all.Post κs a r₁ s₁ → satisfiable_at_all.Post κs a r₂ s₂ → r₁ ≡ r₂
satisfiable_at_all_one κs a r₁ r₂ s₁ s₂ p q = p ∙ sym q

-- `start`
pub start_asks_nothing : (κs : _) (a : _) → start.Pre κs a
start_asks_nothing κs a = tt

pub start_one : (κs : _) (a : _) (r₁ r₂ : _) (s₁ s₂ : _) → start.Post κs a r₁ s₁ → start.Post κs a r₂ s₂ → r₁ ≡ r₂
start_one κs a r₁ r₂ s₁ s₂ p q = p ∙ sym q

-- `slice`
pub slice_asks_nothing : (κs : _) (a : _) → slice.Pre κs a
slice_asks_nothing κs a = tt

pub slice_one : (κs : _) (a : _) (r₁ r₂ : _) (s₁ s₂ : _) → slice.Post κs a r₁ s₁ → slice.Post κs a r₂ s₂ → r₁ ≡ r₂
slice_one κs a r₁ r₂ s₁ s₂ p q = p ∙ sym q

-- `check_necessity`
pub check_necessity_asks_nothing : (κs : _) (a : _) → check_necessity.Pre κs a
check_necessity_asks_nothing κs a = tt

pub check_necessity_one : (κs : _) (a : _) (r₁ r₂ : _) (s₁ s₂ : _) → check_necessity.Post κs a r₁ s₁ → check_necessity.Post κs a r₂ s₂ → r₁ ≡ r₂
check_necessity_one κs a r₁ r₂ s₁ s₂ p q = p ∙ sym q

-- `write_checkpoint`: neither a second answer nor a second content of the buffer, which is its third argument
pub write_checkpoint_asks_nothing : (κs : _) (a : _) → write_checkpoint.Pre κs a
write_checkpoint_asks_nothing κs a = tt

pub write_checkpoint_one : (κs : _) (a : _) (r₁ r₂ : _) (s₁ s₂ : _) → write_checkpoint.Post κs a r₁ s₁ → write_checkpoint.Post κs a r₂ s₂ → (r₁ ≡ r₂) × (s₁.1.1.0.now ≡ s₂.1.1.0.now)
write_checkpoint_one κs a r₁ r₂ s₁ s₂ p q = (p.0 ∙ sym q.0, p.1 ∙ sym q.1)

-- `read_checkpoint`
pub read_checkpoint_asks_nothing : (κs : _) (a : _) → read_checkpoint.Pre κs a
read_checkpoint_asks_nothing κs a = tt

pub read_checkpoint_one : (κs : _) (a : _) (r₁ r₂ : _) (s₁ s₂ : _) → read_checkpoint.Post κs a r₁ s₁ → read_checkpoint.Post κs a r₂ s₂ → r₁ ≡ r₂
read_checkpoint_one κs a r₁ r₂ s₁ s₂ p q = p ∙ sym q

-- `checkpoint_image`: no second content of the part. Of where the part stands nothing is said: a contract speaks of what a reference shows, not of its
-- address
pub checkpoint_image_asks_nothing : (κs : _) (a : _) → checkpoint_image.Pre κs a
checkpoint_image_asks_nothing κs a = tt

pub checkpoint_image_one : (κs : _) (a : _) (r₁ r₂ : _) (s₁ s₂ : _) → checkpoint_image.Post κs a r₁ s₁ → checkpoint_image.Post κs a r₂ s₂ → r₁.now ≡ r₂.now
checkpoint_image_one κs a r₁ r₂ s₁ s₂ p q = p ∙ sym q
