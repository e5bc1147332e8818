-- Reading computed on damaged images: each fault with its kind, its item and the first byte of the field that is cut or bad.
use Rattle.std.specs.Prelude.{Err}
use mathlib.Core.Path.{◌≡◌, refl}
use mathlib.Core.List.{List, [], ◌∷◌, ◌++◌, map}
use Prim.Native.Nat.{ℕ}
use lib.ListN.{take}
use Rattle.definition.specs.declared.Kind.{Kind}
use Rattle.definition.specs.declared.Kind.TheVariants.{NotMarked, OtherVersion, BadMode, LeftOver, TagMissing, TagUnknown, TooDeep, CutShort, OpUnknown, BadFlag, BadBoolean}
use Rattle.definition.specs.Tree.{Contract}
use Rattle.definition.specs.Fault.{Read, fault}
use Rattle.definition.specs.Reading.{read}
use Rattle.definition.proofs.Computing.{computing}
use Rattle.definition.proofs.Contracts.{image, nest, top, tagged, returned}

pub record Damage : Type 0 where
  pub bytes : List ℕ
  pub gives : Read Contract

abbrev damage : List ℕ → Kind → ℕ → ℕ → Damage
damage s k i f = record { bytes = s; gives = Err (fault k i f) }

-- 16 ifs and the bytes after them: a statement there is on level 17
abbrev deep : List ℕ → List ℕ
deep r = take 600 (image (nest 17)) ++ r

unfoldable pub damages : List Damage
damages =
    -- the head
    damage [] NotMarked 0 0
    ∷ damage (66 ∷ 86 ∷ 78 ∷ 9 ∷ []) CutShort 3 3
    ∷ damage (66 ∷ 86 ∷ 78 ∷ 0 ∷ 2 ∷ []) OtherVersion 3 3
    ∷ damage (66 ∷ 86 ∷ 78 ∷ 0 ∷ 1 ∷ []) CutShort 5 5
    ∷ damage (66 ∷ 86 ∷ 78 ∷ 0 ∷ 1 ∷ 2 ∷ []) BadMode 5 5
    ∷ damage (66 ∷ 86 ∷ 78 ∷ 0 ∷ 1 ∷ 1 ∷ 0 ∷ []) CutShort 6 6
    ∷ damage (top 0 (0 ∷ [])) LeftOver 8 8
    -- tag, then the four fields of a location
    ∷ damage (top 1 []) TagMissing 8 8
    ∷ damage (top 1 (5 ∷ [])) TagUnknown 8 8
    ∷ damage (top 1 (4 ∷ 0 ∷ 0 ∷ 0 ∷ [])) CutShort 8 9
    ∷ damage (top 1 (4 ∷ 0 ∷ 0 ∷ 0 ∷ 0 ∷ [])) CutShort 8 13
    ∷ damage (top 1 (take 9 (tagged 4 []))) CutShort 8 17
    ∷ damage (top 1 (take 16 (tagged 4 []))) CutShort 8 21
    -- an if: flag, count, the else block's count, condition
    ∷ damage (top 1 (tagged 1 [])) CutShort 8 25
    ∷ damage (top 1 (tagged 1 (2 ∷ []))) BadFlag 8 25
    ∷ damage (top 1 (tagged 1 (0 ∷ 0 ∷ []))) CutShort 8 26
    ∷ damage (top 1 (tagged 1 (1 ∷ 0 ∷ 0 ∷ 0 ∷ []))) CutShort 8 28
    ∷ damage (top 1 (tagged 1 (0 ∷ 0 ∷ 0 ∷ []))) TagMissing 28 28
    ∷ damage (top 1 (tagged 1 (1 ∷ 0 ∷ 0 ∷ 0 ∷ 0 ∷ []))) TagMissing 30 30
    -- a locktime: op, operand
    ∷ damage (top 1 (tagged 2 [])) CutShort 8 25
    ∷ damage (top 1 (tagged 2 (2 ∷ []))) OpUnknown 8 25
    ∷ damage (top 1 (tagged 2 (1 ∷ 0 ∷ 0 ∷ 0 ∷ 0 ∷ 0 ∷ 0 ∷ 0 ∷ []))) CutShort 8 26
    -- expressions: tag, number, boolean, a string's length and its bytes, op, operands
    ∷ damage (returned (27 ∷ [])) TagUnknown 25 25
    ∷ damage (returned (tagged 17 (0 ∷ 0 ∷ 0 ∷ 0 ∷ 0 ∷ 0 ∷ 0 ∷ []))) CutShort 25 42
    ∷ damage (returned (tagged 18 [])) CutShort 25 42
    ∷ damage (returned (tagged 18 (2 ∷ []))) BadBoolean 25 42
    ∷ damage (returned (tagged 19 (0 ∷ []))) CutShort 25 42
    ∷ damage (returned (tagged 19 (0 ∷ 2 ∷ 65 ∷ []))) CutShort 25 44
    ∷ damage (returned (tagged 20 (2 ∷ []))) OpUnknown 25 42
    ∷ damage (returned (tagged 21 (8 ∷ []))) OpUnknown 25 42
    ∷ damage (returned (tagged 22 (5 ∷ []))) OpUnknown 25 42
    ∷ damage (returned (tagged 23 (4 ∷ []))) OpUnknown 25 42
    ∷ damage (returned (tagged 24 (2 ∷ []))) OpUnknown 25 42
    ∷ damage (returned (tagged 26 [])) TagMissing 42 42
    ∷ damage (returned (tagged 20 (0 ∷ tagged 16 []))) TagMissing 60 60
    -- one level too deep: the tag is looked for and known before the level, the location after it
    ∷ damage (deep []) TagMissing 600 600
    ∷ damage (deep (9 ∷ [])) TagUnknown 600 600
    ∷ damage (deep (1 ∷ [])) TooDeep 600 600
    ∷ []

pub damages_hold : map (λ (r : Damage). read r.bytes) damages ≡ map (λ (r : Damage). r.gives) damages
unfolding computing damages nest
damages_hold = refl
