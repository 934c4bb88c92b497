-- The text of a descriptor: lines, each ended by a line feed.
use Rattle.std.specs.Prelude.{ℕ, List, [], ◌∷◌, ◌++◌, map, codes, Option, Some, None, ℤ}
use Rattle.std.specs.Fmt.{decimal}
use Rattle.rr_model.specs.Sets.Descriptor.{Run, Ending, Described, descriptor}
use Rattle.rr_model.specs.Text.Moments.{extended_date_text}
use Rattle.rr_model.specs.declared.kind.Kind.TheVariants.{Days, Moments}
use Rattle.rr_model.specs.declared.kind.Kind.{Kind}
use Rattle.rr_model.specs.declared.sketch.Sketch.{Sketch}

-- ---- lines

-- the lines, each ended by a line feed
unfoldable pub text_of_lines : List (List ℕ) → List ℕ
text_of_lines [] = []
text_of_lines (line ∷ lines) = line ++ 10 ∷ text_of_lines lines

-- the numbers, each after a blank
unfoldable pub fields : List ℕ → List ℕ
fields [] = []
fields (n ∷ ns) = 32 ∷ decimal n ++ fields ns

-- a line of a letter and numbers
abbrev pub numbers_line : ℕ → List ℕ → List ℕ
numbers_line letter ns = letter ∷ fields ns

-- ---- the lines of a descriptor

-- whether it is of dates or of moments
abbrev pub kind_line : Kind → List ℕ
kind_line Days = codes "days"
kind_line Moments = codes "moments"

-- `t` and the seconds of a time set
abbrev pub seconds_line : List ℕ → List ℕ
seconds_line times = numbers_line 116 times

-- one line for each time set of moments; those of dates are all alike
abbrev pub set_lines : (List ℕ → List ℕ) → Kind → List (List ℕ) → List (List ℕ)
set_lines set_line Days sets = []
set_lines set_line Moments sets = map set_line sets

-- `f` and the first occupied day
abbrev pub first_line : ℤ → List ℕ
first_line day = 102 ∷ 32 ∷ extended_date_text day

-- a letter, the gap, the number of the set and the count
abbrev pub run_line : ℕ → Run → List ℕ
run_line letter run = numbers_line letter (run.gap ∷ run.set ∷ run.count ∷ [])

-- `q`, the settled day and the period
abbrev pub settled_line : Ending → List ℕ
settled_line ending = 113 ∷ 32 ∷ extended_date_text ending.settled ++ fields (ending.period ∷ [])

-- the line of the settled day and the period, and a line for each run of the first period; no line for a finite set
abbrev pub ending_lines : Option Ending → List (List ℕ)
ending_lines None = []
ending_lines (Some ending) = settled_line ending ∷ map (run_line 99) ending.cycle

-- all lines after the first, if the lines of time sets are written so
abbrev pub lines_of : (List ℕ → List ℕ) → Option Described → List (List ℕ)
lines_of set_line None = codes "none" ∷ []
lines_of set_line (Some d) =
    kind_line d.kind ∷ (set_lines set_line d.kind d.sets ++ (first_line d.first ∷ (map (run_line 98) d.before ++ ending_lines d.ending)))

-- the text of a version: its first line, and how a time set is written
unfoldable pub text_of : List ℕ → (List ℕ → List ℕ) → Option Described → List ℕ
text_of title set_line said = text_of_lines (title ∷ lines_of set_line said)

-- the canonical text in version 1
abbrev pub descriptor_text : Sketch → List ℕ
descriptor_text s = text_of (codes "rrcanon 1") seconds_line (descriptor s)
