-- Laws of the entry: what is told of the whole image, from what the head and the list come to.
use Rattle.std.specs.Prelude.{◌≡◌, ℕ, ◌≤◌, List, length, get_or, ltb, Ok, Err}
use mathlib.Core.Path.{ap, ◌∙◌}
use native.Mathlib.Omega.{arith}
use mir.Syntax.{w8}
use mir.Val.{Fits}
use Rattle.definition.specs.declared.Fault.{Fault}
use Rattle.definition.specs.declared.Head.{Head}
use Rattle.definition.specs.declared.Kind.TheVariants.{LeftOver}
use Rattle.definition.specs.Bytes.{Bytes}
use Rattle.definition.specs.Fault.{fault, refuse}
use Rattle.definition.specs.Reading.{tally, part, items, stmt, head, read}
use Rattle.definition.proofs.Steps.{on_got, on_bad, tests_bad}
use Rattle.definition.proofs.SoundS.{list_sound, sound_s}
use Rattle.definition.proofs.Back.{read_is}
use Rattle.exprs.specs.declared.Extent.{Extent}
use Rattle.exprs.specs.Answers.{part_of}
use Rattle.exprs.proofs.Telling.{told_got, told_bad, part_bad, part_was}
use Rattle.reader.specs.Answers.{seen_of}

-- what is known of a slice of bytes
byte_wise : (s : List ℕ) → ((i : ℕ) → Fits w8 (get_or s i 0)) → Bytes s
unfolding Bytes
byte_wise s w i = omega (arith, w i)

module _ (s : List ℕ) where
  pub read_head : (f : Fault) → head s ≡ Err f → Err f ≡ seen_of (read s)
  unfolding read
  read_head f e = told_bad _ _ (on_bad _ _ f e)

  module _ (k : Head) (h : head s ≡ Ok k) where
    pub read_list : (f : Fault) → part_of (items (stmt 16) k.count (tally 0 0) 8 0 s) ≡ Err f → Err f ≡ seen_of (read s)
    unfolding read
    read_list f e = told_bad _ _ (on_got _ _ k h ∙ on_bad _ _ f (part_bad _ f e))

    module _ (e : Extent) (d : part_of (items (stmt 16) k.count (tally 0 0) 8 0 s) ≡ Ok e) where
      pub read_left : (f : Fault) → refuse (ltb e.size (length s)) (fault LeftOver e.size e.size) ≡ Err f → Err f ≡ seen_of (read s)
      unfolding read
      read_left f l = let g = part_was _ e d in told_bad _ _ (on_got _ _ k h ∙ (on_got _ _ (part g.0 e.tally e.size) g.1 ∙ tests_bad _ _ f l))

      pub read_done : ((i : ℕ) → Fits w8 (get_or s i 0)) → length s ≤ e.size → Ok k ≡ seen_of (read s)
      read_done w l =
          let g = part_was _ e d in
          let n = (list_sound 16 (sound_s 16) k.count (tally 0 0) 8 0 s _ (byte_wise s w) g.1).counted in
          ap (λ (m : ℕ). Ok (record { mode = k.mode; count = m })) n ∙ told_got _ _ (read_is s k.mode k.count g.0 e.tally e.size h g.1 l)

pub ruleset entry = (read_head, read_list, read_left, read_done)
