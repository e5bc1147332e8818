-- `append`: a part of the pieces was written over.
use Prim.Native.Nat.{ℕ, ◌+◌, ◌≤◌}
use mathlib.Core.Path.{◌≡◌, sym, ap, ◌∙◌}
use mathlib.Core.List.{List, ◌++◌, append_assoc}
use native.Mathlib.Omega.{arith}
use lib.ListN.{length, take, drop}
use lib.Seq.{sets, sets-eq, drop-drop}
use borrow.Rule.Slice.PartMut.{put_mid}
use Rattle.paths.proofs.append.Goals as goal

-- the words ws in the place of k others
put_words : (a k : ℕ) (l ws : List ℕ) {ys : List ℕ} → ys ≡ ws → k ≡ length ws → a + length ws ≤ length l → put_mid a k l ys ≡ sets l a ws
put_words a k l ws e f h = rw (e, f) (ap (λ (r : List ℕ). take a l ++ (ws ++ r)) (drop-drop (length ws) a l) ∙ sym (append_assoc (take a l) ws (drop (a + length ws) l)) ∙ sym (sets-eq ws l a h))

pub returns : goal.returns
returns c = put_words c.args.at _ c.args.pieces.now c.args.words.now c.copy_from_slice.ensures.after (omega arith) c.requires
