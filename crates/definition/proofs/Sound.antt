-- What is read as a contract was so written, and is within the sizes.
use Rattle.std.specs.Prelude.{Ok}
use mathlib.Core.Path.{◌≡◌, sym, ap, ◌∙◌}
use mathlib.Core.Bool.{false, not, and-eq-true_iff}
use mathlib.Core.List.{List, [], ◌∷◌}
use Prim.Native.Nat.{ℕ, ◌<◌, ◌≤◌}
use native.Mathlib.Omega.{arith}
use lib.ListN.{length, get_or, drop, length-drop, drop_of_length-le}
use borrow.Author.Tests.{ltb-false, leb-false, eqb-true, not-false}
use Rattle.definition.specs.declared.Head.{Head}
use Rattle.definition.specs.Bytes.{Bytes, be16, put16}
use Rattle.definition.specs.Tree.{Block, Contract}
use Rattle.definition.specs.Writing.{put_b, count, write, Sized}
use Rattle.definition.specs.Reading.{tally, Part, marked, head, read}
use Rattle.definition.proofs.Steps.{same_got, carried, step_got, past}
use Rattle.definition.proofs.Apart.{at8, at16}
use Rattle.definition.proofs.Lengths.{length_b}
use Rattle.definition.proofs.SoundS.{GoodB, list_sound, sound_s}

-- the three letters of a mark
pub record Marked (letter : ℕ) (s : List ℕ) : Type 0 where
  pub first : get_or s 0 0 ≡ 66
  pub second : get_or s 1 0 ≡ 86
  pub third : get_or s 2 0 ≡ letter

pub marked_inv : (letter : ℕ) (s : List ℕ) → not (marked letter s) ≡ false → Marked letter s
unfolding marked
marked_inv letter s e =
    let a = (and-eq-true_iff _ _).0 (not-false _ e) in
    let b = (and-eq-true_iff _ _).0 a.1 in
    record { first = eqb-true _ 66 a.0; second = eqb-true _ 86 b.0; third = eqb-true _ letter b.1 }

-- what the head says
pub record Headed (s : List ℕ) (h : Head) : Type 0 where
  pub short : length s ≤ 32768
  pub long : 8 ≤ length s
  pub mark : Marked 78 s
  pub version : be16 s 3 ≡ 1
  pub mode : h.mode ≡ get_or s 5 0
  pub two : get_or s 5 0 < 2
  pub counted : h.count ≡ be16 s 6

pub head_inv : (s : List ℕ) (h : Head) → head s ≡ Ok h → Headed s h
unfolding head
head_inv s h e =
    let a = past _ _ _ _ e in
    let b = past _ _ _ _ a.1 in
    let c = past _ _ _ _ b.1 in
    let d = past _ _ _ _ c.1 in
    let f = past _ _ _ _ d.1 in
    let g = past _ _ _ _ f.1 in
    let i = past _ _ _ _ g.1 in
    let j = past _ _ _ _ i.1 in
    let k = same_got _ h j.1 in
    record {
      short = ltb-false 32768 (length s) a.0;
      long = ltb-false (length s) 8 j.0;
      mark = marked_inv 78 s c.0;
      version = eqb-true (be16 s 3) 1 (not-false _ f.0);
      mode = sym (ap (λ (x : Head). x.mode) k);
      two = leb-false 2 (get_or s 5 0) i.0;
      counted = sym (ap (λ (x : Head). x.count) k);
    }

-- a mark and version 1
pub versioned : (letter : ℕ) (s : List ℕ) → Bytes s → 5 ≤ length s → Marked letter s → be16 s 3 ≡ 1 → s ≡ 66 ∷ 86 ∷ letter ∷ 0 ∷ 1 ∷ drop 5 s
versioned letter s w n m v =
    at8 s w 0 (omega arith) ∙ (ap (λ k. k ∷ drop 1 s) m.first ∙ ap (λ k. 66 ∷ k)
    (at8 s w 1 (omega arith) ∙ (ap (λ k. k ∷ drop 2 s) m.second ∙ ap (λ k. 86 ∷ k)
    (at8 s w 2 (omega arith) ∙ (ap (λ k. k ∷ drop 3 s) m.third ∙ ap (λ k. letter ∷ k)
    (at16 s w 3 (omega arith) ∙ ap (λ k. put16 k (drop 5 s)) v))))))

pub record Good (s : List ℕ) (c : Contract) : Type 0 where
  pub bytes : s ≡ write c
  pub sized : Sized c

-- the head, the list and nothing left over
whole_sound : (s : List ℕ) → Bytes s → (h : Head) (b : Part Block) → Headed s h → GoodB 16 h.count (tally 0 0) 8 s b → length s ≤ b.size → Good s (record { mode = h.mode; block = b.tree })
unfolding write
whole_sound s w h b e g gone =
    let n : be16 s 6 ≡ count b.tree = sym e.counted ∙ g.counted in
    let rest : drop 8 s ≡ put_b b.tree [] = g.bytes ∙ ap (put_b b.tree) (drop_of_length-le s gone) in
    record {
      bytes = versioned 78 s w (omega (arith, e.long)) e.mark e.version ∙ ap (λ k. 66 ∷ 86 ∷ 78 ∷ 0 ∷ 1 ∷ k)
          (at8 s w 5 (omega (arith, e.long)) ∙ (ap (λ k. k ∷ drop 6 s) (sym e.mode) ∙ ap (λ k. h.mode ∷ k)
          (at16 s w 6 (omega (arith, e.long)) ∙ (ap (λ k. put16 k (drop 8 s)) n ∙ ap (put16 (count b.tree)) rest))));
      sized = record {
        modes = omega (arith, e.mode, e.two);
        fits = g.fits;
        stmts = omega (arith, g.stmts, g.few (omega arith));
        nodes = omega (arith, g.nodes, g.most (omega arith));
        bytes = omega (arith, e.short, e.long, length-drop 8 s, ap length rest, length_b b.tree []);
      };
    }

pub read_sound : (s : List ℕ) (c : Contract) → Bytes s → read s ≡ Ok c → Good s c
unfolding read
read_sound s c w q =
    let i = step_got _ _ _ q in
    let j = step_got _ _ _ i.2 in
    let k = past _ _ _ _ j.2 in
    let g = list_sound 16 (sound_s 16) i.0.count (tally 0 0) 8 0 s j.0 w j.1 in
    carried (λ (x : Contract). Good s x) _ c k.1 (whole_sound s w i.0 j.0 (head_inv s i.0 i.1) g (ltb-false j.0.size (length s) k.0))
