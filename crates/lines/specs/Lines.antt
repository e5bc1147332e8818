-- The desk program's lines. Document 01: "The desk program reads an image from standard input. For P2 it prints exactly", and two lines follow.
use Rattle.std.specs.Prelude.{ℕ, ◌+◌, List, [], ◌∷◌, ◌++◌}
use Prim.Native.Char.{code}
use Prim.Native.String.{String, [] as end, ◌∷◌ as ◌then◌}
use Rattle.definition.specs.declared.Location.{Location}
use Rattle.definition.specs.declared.Outcome.{Outcome}
use Rattle.definition.specs.declared.Refusal.{Refusal}
use Rattle.definition.specs.Fault.{answer}
use Rattle.definition.specs.Table.{refusal_of}
use Rattle.definition.specs.Accepted.{Compiled, accepted}
use Rattle.definition.specs.Verdict.{the_bounds, unstopped}
use Rattle.definition.specs.Values.{Values, outcome_values}
use Rattle.text.specs.Text.{decimal_of}

-- ---- words and numbers

-- a text as the numbers of its characters, which for these lines are their ASCII bytes
abbrev pub ascii : String → List ℕ
ascii end = []
ascii (c then s) = code c ∷ ascii s

-- a word and the number after it
abbrev pub field : String → ℕ → List ℕ
field word n = ascii word ++ decimal_of n

-- ---- the lines

-- "a line per path (number, Sig atoms, Free atoms)": "path 0 sigs 1 free 0"
unfoldable pub path_line : ℕ → ℕ → ℕ → List ℕ
path_line i s f = field "path " i ++ field " sigs " s ++ field " free " f ++ ascii "\n"

-- "First a line per path", the first of these being number i
unfoldable pub path_lines : ℕ → List Compiled → List ℕ
path_lines i [] = []
path_lines i (p ∷ ps) = path_line i p.sigs p.frees ++ path_lines (i + 1) ps

-- "the verdict, its reason, path": "verdict 0 reason 0 path 0"
abbrev pub verdict_text : Values → List ℕ
verdict_text v = field "verdict " v.verdict ++ field " reason " v.reason ++ field " path " v.path

-- "return location": " start 0 end 0 line 0 column 0"
abbrev pub location_text : Location → List ℕ
location_text l = field " start " l.start ++ field " end " l.end ++ field " line " l.line ++ field " column " l.column

-- "mask and total": " mask 0 tried 3"
abbrev pub total_text : Values → List ℕ
total_text v = field " mask " v.mask ++ field " tried " v.total

-- "then the verdict, its reason, path, return location, mask and total"
unfoldable pub values_line : Values → List ℕ
values_line v = verdict_text v ++ location_text v.location ++ total_text v ++ ascii "\n"

-- of an end
abbrev pub verdict_line : Outcome → List ℕ
verdict_line o = values_line (outcome_values o)

-- "A refusal prints only `refused N at PLACE`"
unfoldable pub refused_line : Refusal → List ℕ
refused_line r = field "refused " r.number ++ field " at " r.place ++ ascii "\n"

-- ---- what is printed

-- of an image, its paths coming to this end: "First a line per path .., then the verdict"; "A refusal prints only `refused N at PLACE`"
abbrev pub printed : List ℕ → (List Compiled → Outcome) → List ℕ
printed image outcomeOf = answer (λ ps. path_lines 0 ps ++ verdict_line (outcomeOf ps)) (λ f. refused_line (refusal_of f)) (accepted image)

-- where the examination came to an end that is known
unfoldable pub end_lines : List ℕ → Outcome → List ℕ
end_lines image o = printed image (λ ps. o)

-- by the unstopped run: what the desk program prints
unfoldable pub report_of : List ℕ → List ℕ
report_of image = printed image (unstopped the_bounds)
