-- Lengths and titles in words.
use Rattle.std.specs.Prelude.{ℕ, ◌/◌, ◌%◌, ◌==◌, if◌then◌else◌, List, [], ◌∷◌, ◌++◌, codes}
use Rattle.std.specs.Fmt.{decimal}
use Rattle.rr_length.specs.declared.length.Length.{Length}

-- a blank behind words, if there are some
abbrev pub gap_behind : List ℕ → List ℕ
gap_behind [] = []
gap_behind (b ∷ bs) = codes " "

-- a number and its unit behind words, unless it is 0
abbrev pub with_part : List ℕ → ℕ → List ℕ → List ℕ
with_part words n unit = if n == 0 then words else words ++ gap_behind words ++ decimal n ++ unit

-- nothing at all is no minutes
abbrev pub or_no_time : List ℕ → List ℕ
or_no_time [] = codes "0 min"
or_no_time (b ∷ bs) = b ∷ bs

-- days, hours, minutes and seconds, those that are not 0
abbrev pub parts_of_length : Length → List ℕ
parts_of_length l =
    with_part (with_part (with_part (with_part [] l.days (codes " d")) (l.seconds / 3_600) (codes " h")) (l.seconds / 60 % 60) (codes " min"))
    (l.seconds % 60) (codes " s")

-- a length in words, as `1 d 2 h 30 min`
unfoldable pub length_words : Length → List ℕ
length_words l = or_no_time (parts_of_length l)
