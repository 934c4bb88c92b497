-- What the names of zones mean in a calendar (RFC 5545, sections 3.2.19 and 3.6.5): what files define, and Windows' names beside those of tzdata.
use Rattle.std.specs.Prelude.{ℕ, ◌&&◌, if◌then◌else◌, ℤ, pos, neg_ℤ, int_lt, List, [], ◌∷◌, Option, Some, None}
use Rattle.std.specs.Option.{option_or}
use Rattle.rr_events.specs.RawLines.{RawLine}
use Rattle.rr_offsets.specs.Meanings.{meaning_in}
use Rattle.rr_windows.specs.Names.{other_names}
use Rattle.rr_compare.specs.declared.names.Names.{Names}

-- what these names mean: the first of them that means something
abbrev pub first_meaning : (List ℕ → Option (ℤ → ℤ)) → List (List ℕ) → Option (ℤ → ℤ)
first_meaning means [] = None
first_meaning means (name ∷ names) = option_or (means name) (first_meaning means names)

-- what a name means by the zones of a file: under itself, otherwise under the first of its other names that they define
abbrev pub meaning_under : List (List RawLine) → List ℕ → Option (ℤ → ℤ)
meaning_under zones name = first_meaning (meaning_in zones) (name ∷ other_names name)

-- what a name means by the zones of several files: by those of the first file that define it
abbrev pub meaning_among : List (List (List RawLine)) → List ℕ → Option (ℤ → ℤ)
meaning_among [] name = None
meaning_among (zones ∷ files) name = option_or (meaning_under zones name) (meaning_among files name)

-- local time without a zone, by the stated offset of the observer, in seconds and less than a day either way: it is always so far ahead of UTC
abbrev pub observed : Option ℤ → Option (ℤ → ℤ)
observed None = None
observed (Some offset) = if int_lt (neg_ℤ (pos 86_400)) offset && int_lt offset (pos 86_400) then Some (λ u. offset) else None

-- What a name means by the zones of several files and the stated offset of the observer, which is what local time without a zone means.
abbrev pub meaning_by : List (List (List RawLine)) → Option ℤ → List ℕ → Option (ℤ → ℤ)
meaning_by files offset [] = observed offset
meaning_by files offset (b ∷ bs) = meaning_among files (b ∷ bs)

-- what the names mean that a value of the program speaks of
abbrev pub meaning_of_names : Names → List ℕ → Option (ℤ → ℤ)
meaning_of_names names = meaning_by (names.own.now ∷ names.other.now ∷ names.more.now ∷ []) names.offset
