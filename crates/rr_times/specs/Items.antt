-- An item of a time set, as the code has it.
use Rattle.std.specs.Prelude.{ℕ, ◌+◌, List, drop, get_or}
use Rattle.rr_model.specs.Sets.Stretches as items
use Rattle.rr_times.specs.declared.stretch.Stretch.{Stretch}

-- the item that a value of the program is
abbrev pub stretch_of : Stretch → items.Stretch
stretch_of x = record { start = x.start; step = x.step; count = x.count }

-- the index after the row of seconds, each a step above the one before it, that begins at this index of a rising list
abbrev pub row_end : List ℕ → ℕ → ℕ → ℕ
row_end seconds from step = from + 1 + items.row_after (get_or seconds from 0) step (drop (from + 1) seconds)

-- the item that begins at this index of a rising list
abbrev pub item_at : List ℕ → ℕ → items.Stretch
item_at seconds from = items.first_stretch (get_or seconds from 0) (drop (from + 1) seconds)
