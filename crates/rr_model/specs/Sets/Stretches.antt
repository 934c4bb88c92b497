-- How version 2 of a descriptor writes a time set: as single seconds and stretches of equal steps.
use Rattle.std.specs.Prelude.{ℕ, zero, suc, ◌+◌, ◌-◌, ◌==◌, nat_le, if◌then◌else◌, List, [], ◌∷◌, ◌++◌, length, drop, codes}
use Rattle.std.specs.Fmt.{decimal}
use Rattle.rr_model.specs.Sets.Descriptor.{descriptor}
use Rattle.rr_model.specs.Sets.DescriptorText.{text_of}
use Rattle.rr_model.specs.declared.sketch.Sketch.{Sketch}

-- `count` seconds from `start` on, each `step` seconds after the one before it; a single second has step 0
pub record Stretch : Type 0 where
  pub start : ℕ
  pub step : ℕ
  pub count : ℕ

-- how many seconds at the front of a list lie in a row, each a step above the one before it, and the first a step above `before`
abbrev pub row_after : ℕ → ℕ → List ℕ → ℕ
row_after before step [] = 0
row_after before step (x ∷ xs) = if x == before + step then row_after x step xs + 1 else 0

-- the stretch of one second alone
abbrev pub single : ℕ → Stretch
single s = record { start = s; step = 0; count = 1 }

-- a row of three at least is a stretch, and of fewer its first second stands alone
abbrev pub stretch_or_single : ℕ → ℕ → ℕ → Stretch
stretch_or_single s step count = if nat_le 3 count then record { start = s; step = step; count = count } else single s

-- the item at the front of a rising list
abbrev pub first_stretch : ℕ → List ℕ → Stretch
first_stretch s [] = single s
first_stretch s (x ∷ []) = single s
first_stretch s (x ∷ y ∷ ys) = stretch_or_single s (x - s) (row_after s (x - s) (x ∷ y ∷ ys) + 1)

-- the items of a rising list, n at most
unfoldable pub stretches_within : ℕ → List ℕ → List Stretch
stretches_within zero xs = []
stretches_within (suc steps) [] = []
stretches_within (suc steps) (s ∷ xs) = first_stretch s xs ∷ stretches_within steps (drop ((first_stretch s xs).count - 1) xs)

-- the items of a rising list
abbrev pub stretches : List ℕ → List Stretch
stretches xs = stretches_within (length xs) xs

-- ---- what a stretch says

-- n seconds from one on, each a step above the one before it
abbrev pub seconds_from : ℕ → ℕ → ℕ → List ℕ
seconds_from start step zero = []
seconds_from start step (suc count) = start ∷ seconds_from (start + step) step count

-- the seconds of items, one after another
abbrev pub seconds_of : List Stretch → List ℕ
seconds_of [] = []
seconds_of (x ∷ xs) = seconds_from x.start x.step x.count ++ seconds_of xs

-- ---- the line

-- a second alone, or start/step/count
abbrev pub item_text : Stretch → List ℕ
item_text x = if x.count == 1 then decimal x.start else decimal x.start ++ (47 ∷ decimal x.step) ++ (47 ∷ decimal x.count)

-- the items, each after a blank
unfoldable pub items_text : List Stretch → List ℕ
items_text [] = []
items_text (x ∷ xs) = 32 ∷ item_text x ++ items_text xs

-- `t` and the items of a time set
abbrev pub stretches_line : List ℕ → List ℕ
stretches_line times = 116 ∷ items_text (stretches times)

-- the canonical text of a sketch, version 2
abbrev pub second_descriptor_text : Sketch → List ℕ
second_descriptor_text s = text_of (codes "rrcanon 2") stretches_line (descriptor s)
