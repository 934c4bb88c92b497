-- Which names stand for the same zone: equal ones, and a name of Windows beside each name of tzdata on its line of the table (Unicode CLDR, windowsZones).
use Rattle.std.specs.Prelude.{ℕ, ◌==◌, Bool, ◌||◌, if◌then◌else◌, List, [], ◌∷◌, Option, Some, None, bytes_eq}
use Rattle.std.specs.List.{after_first, before_first, find, list_any, slice_split}
use Rattle.rr_windows.specs.Table.{table}

-- the name of Windows on a line
abbrev pub windows_on : List ℕ → List ℕ
windows_on line = before_first (λ b. b == 58) line

-- the names of a text, which has a blank between each two
abbrev pub names_in : List ℕ → List (List ℕ)
names_in text = slice_split (λ b. b == 32) text

-- the names of tzdata on a line
abbrev pub names_on : List ℕ → List (List ℕ)
names_on line = names_in (after_first (λ b. b == 58) line)

-- a name is one of these
abbrev pub is_among : List ℕ → List (List ℕ) → Bool
is_among name names = list_any (bytes_eq name) names

-- a line has a name
abbrev pub has_name : List ℕ → List ℕ → Bool
has_name name line = bytes_eq name (windows_on line) || is_among name (names_on line)

-- the line of a name in a table
abbrev pub line_in : List ℕ → List ℕ → Option (List ℕ)
line_in name text = find (has_name name) (slice_split (λ b. b == 10) text)

-- the other names that a line has for the zone of a name: of one of Windows those of tzdata, and of one of tzdata that of Windows
abbrev pub others_on : List ℕ → List ℕ → List (List ℕ)
others_on name line = if bytes_eq name (windows_on line) then names_on line else (windows_on line ∷ [])

-- the other names for the zone of a name, by its line
abbrev pub others_by : List ℕ → Option (List ℕ) → List (List ℕ)
others_by name None = []
others_by name (Some line) = others_on name line

-- the other names for the zone of a name, in the order of the table
unfoldable pub other_names : List ℕ → List (List ℕ)
other_names name = others_by name (line_in name table)

-- two names stand for the same zone: they are equal, or one is the name of Windows on a line that has the other
unfoldable pub is_same_zone : List ℕ → List ℕ → Bool
is_same_zone a b = bytes_eq a b || is_among b (other_names a)
