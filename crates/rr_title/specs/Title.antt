-- Titles as a terminal takes them (RFC 3629; Unicode blocks): visible characters as they stand, and each other byte as a backslash, an x and two digits.
use Rattle.std.specs.Prelude.{◌≡◌, ◌⊎◌, ℕ, zero, suc, ◌+◌, ◌-◌, ◌*◌, ◌/◌, ◌%◌, ◌<◌, ◌≤◌, ◌==◌, nat_le, nat_lt, Bool, true, false, not, ◌&&◌, ◌||◌, if◌then◌else◌, List, [], ◌∷◌, ◌++◌, length}

-- ---- characters

-- a number lies from one number up to another
abbrev pub lies : ℕ → ℕ → ℕ → Bool
lies low high n = nat_le low n && nat_le n high

-- a character of ASCII that stands for itself: visible or a blank, neither a quote nor a backslash
abbrev pub is_plain : ℕ → Bool
is_plain b = lies 32 126 b && (not (b == 34) && not (b == 92))

-- letters with their marks, of Europe, the Near East, India and East Asia
abbrev pub is_letter : ℕ → Bool
is_letter c =
    (lies 161 767 c && not (c == 173)) || (lies 880 1_154 c || (lies 1_162 1_423 c || (lies 1_488 1_514 c || (lies 1_568 1_610 c || (lies 2_304 3_583 c
    || (lies 3_585 3_675 c || (lies 4_256 4_351 c || (lies 7_680 8_191 c || (lies 12_353 12_543 c || (lies 13_312 40_959 c || lies 44_032 55_203 c))))))))))

-- signs: dashes, quotes, money, arrows, mathematics, boxes, East Asian signs, full-width forms and pictures
abbrev pub is_sign : ℕ → Bool
is_sign c =
    lies 8_208 8_231 c || (lies 8_240 8_286 c || (lies 8_352 8_383 c || (lies 8_448 11_263 c || (lies 12_289 12_351 c || (lies 65_281 65_376 c
    || lies 127_744 129_791 c)))))

-- A character beyond ASCII is printed as it stands. Left out are control characters, marks without width, those that turn the direction of
-- writing, ends of lines and paragraphs, selectors, private characters and all that is not listed.
unfoldable pub is_visible : ℕ → Bool
is_visible c = is_letter c || is_sign c

-- ---- bytes

-- a byte continues a character
abbrev pub is_more : ℕ → Bool
is_more b = lies 128 191 b

-- a character of this number, which is at least the least one, is printed as it stands: how many bytes it has, otherwise 0
abbrev pub visible_bytes : ℕ → ℕ → ℕ → ℕ
visible_bytes least bytes c = if nat_le least c && is_visible c then bytes else 0

-- how many bytes at the front are a character of two bytes that is printed as it stands, 0 if they are none (RFC 3629)
abbrev pub two_bytes : ℕ → List ℕ → ℕ
two_bytes a [] = 0
two_bytes a (b ∷ bs) = if is_more b then visible_bytes 128 2 ((a - 192) * 64 + (b - 128)) else 0

-- of three bytes
abbrev pub three_bytes : ℕ → List ℕ → ℕ
three_bytes a [] = 0
three_bytes a (b ∷ []) = 0
three_bytes a (b ∷ c ∷ bs) =
    if is_more b && is_more c then visible_bytes 2_048 3 ((a - 224) * 4_096 + (b - 128) * 64 + (c - 128)) else 0

-- of four bytes
abbrev pub four_bytes : ℕ → List ℕ → ℕ
four_bytes a [] = 0
four_bytes a (b ∷ []) = 0
four_bytes a (b ∷ c ∷ []) = 0
four_bytes a (b ∷ c ∷ d ∷ bs) =
    if is_more b && (is_more c && is_more d) then visible_bytes 65_536 4 ((a - 240) * 262_144 + (b - 128) * 4_096 + (c - 128) * 64 + (d - 128)) else 0

-- how many bytes, a first one and those after it, are one character that is printed as it stands, 0 if they are none
unfoldable pub front_length : ℕ → List ℕ → ℕ
front_length a bs =
    if is_plain a then 1
    else (if lies 192 223 a then two_bytes a bs
    else (if lies 224 239 a then three_bytes a bs
    else (if lies 240 247 a then four_bytes a bs else 0)))

-- a digit to the base of 16
abbrev pub hex_digit : ℕ → ℕ
hex_digit n = if nat_lt n 10 then 48 + n else 97 + (n - 10)

-- a byte as a backslash, an x and two digits
abbrev pub escaped_byte : ℕ → List ℕ
escaped_byte b = 92 ∷ 120 ∷ hex_digit (b / 16) ∷ hex_digit (b % 16) ∷ []

-- a byte that begins a character of `n` bytes or none, and then the others
abbrev pub title_by : ℕ → ℕ → (ℕ → List ℕ) → List ℕ
title_by zero b more = escaped_byte b ++ more 0
title_by (suc n) b more = b ∷ more n

-- how many bytes a character has that a byte begins or goes on, itself among them: those that were left, otherwise those that begin here
abbrev pub bytes_left : ℕ → ℕ → List ℕ → ℕ
bytes_left zero b bs = front_length b bs
bytes_left (suc n) b bs = suc n

-- a title of which `n` bytes more belong to a character that is printed as it stands
abbrev pub title_from : ℕ → List ℕ → List ℕ
title_from n [] = []
title_from zero (b ∷ bs) = title_by (front_length b bs) b (λ n. title_from n bs)
title_from (suc n) (b ∷ bs) = b ∷ title_from n bs

-- what was put with a byte, of a character that has `n` bytes from it on, before a rest is put with those that are left
abbrev pub IsPushed : ℕ → ℕ → ℕ → List ℕ → List ℕ → Type 0
IsPushed n b left old new = (more : ℕ → List ℕ) → new ++ more left ≡ old ++ title_by n b more

-- A title as it is printed.
abbrev pub title_text : List ℕ → List ℕ
title_text title = title_from 0 title

-- ---- what is printed

-- bytes that are one character which is printed as it stands
abbrev pub IsVisibleCharacter : List ℕ → Type 0
IsVisibleCharacter [] = ⊥
IsVisibleCharacter (b ∷ bs) = front_length b bs ≡ length (b ∷ bs)

-- bytes that are an escaped byte
abbrev pub IsEscape : List ℕ → Type 0
IsEscape bs = (b : ℕ) × (bs ≡ escaped_byte b)

-- a text is one visible character after the other, or escaped bytes between them
pub data IsSafeText : List ℕ → Type 0 where
  none : IsSafeText []
  character : (piece rest : List ℕ) → IsVisibleCharacter piece → IsSafeText rest → IsSafeText (piece ++ rest)
  escape : (piece rest : List ℕ) → IsEscape piece → IsSafeText rest → IsSafeText (piece ++ rest)

-- Whatever bytes a title has, what is printed of it is visible characters and escaped bytes.
abbrev pub TitlesAreSafe : Type 0
TitlesAreSafe = (title : List ℕ) → IsSafeText (title_text title)
