-- Numbers in English.
use Rattle.std.specs.Prelude.{ℕ, ◌/◌, ◌%◌, ◌==◌, if◌then◌else◌, ℤ, pos, int_lt, nat_abs, List, [], ◌++◌, codes}
use Rattle.std.specs.Fmt.{decimal}

-- the letters behind the digits of an ordinal: 1st, 22nd and 103rd, but 11th, 12th and 113th
unfoldable pub ordinal_end : ℕ → List ℕ
ordinal_end n =
    if n / 10 % 10 == 1 then codes "th"
    else (if n % 10 == 1 then codes "st" else (if n % 10 == 2 then codes "nd" else (if n % 10 == 3 then codes "rd" else codes "th")))

-- an ordinal in digits
unfoldable pub ordinal : ℕ → List ℕ
ordinal n = decimal n ++ ordinal_end n

-- a place from the front: a word up to the fifth
unfoldable pub place_from_front : ℕ → List ℕ
place_from_front n =
    if n == 1 then codes "first" else (if n == 2 then codes "second" else (if n == 3 then codes "third"
    else (if n == 4 then codes "fourth" else (if n == 5 then codes "fifth" else ordinal n))))

-- a place from the back: last, second last, and so on
unfoldable pub place_from_back : ℕ → List ℕ
place_from_back n = if n == 1 then codes "last" else place_from_front n ++ codes " last"

-- the place that a number of a rule counts: from the back if it is negative
unfoldable pub place : ℤ → List ℕ
place n = if int_lt n (pos 0) then place_from_back (nat_abs n) else place_from_front (nat_abs n)

-- such a place with digits from the front: 15th, last
unfoldable pub numbered : ℤ → List ℕ
numbered n = if int_lt n (pos 0) then place_from_back (nat_abs n) else ordinal (nat_abs n)

-- the ending of a word that is counted
unfoldable pub plural_end : ℕ → List ℕ
plural_end n = if n == 1 then [] else codes "s"

-- a number of what a word names: 1 time, 10 times
unfoldable pub counted : ℕ → List ℕ → List ℕ
counted n word = decimal n ++ codes " " ++ word ++ plural_end n
