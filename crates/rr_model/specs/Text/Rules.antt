-- Pieces of a line's value, and of a rule's (RFC 5545, section 3.3.10).
use Rattle.std.specs.Prelude.{ℕ, ◌+◌, ◌-◌, ◌==◌, Bool, true, false, ◌||◌, if◌then◌else◌, List, reverse, length, take, drop, Option}
use Rattle.std.specs.Prelude.{None, Some, option_map, position}
use Rattle.std.specs.List.{take_while}
use Rattle.std.specs.Str.{bytes_eq, str_to_ascii_uppercase}
use Rattle.rr_model.specs.declared.kind.Kind.{Kind}
use Rattle.rr_model.specs.declared.kind.Kind.TheVariants.{Days, Moments}

-- what stands before the first byte b, and what after it
abbrev pub split_once : ℕ → List ℕ → Option (List ℕ × List ℕ)
split_once b text = option_map (λ i. (take i text, drop (i + 1) text)) (position (λ c. c == b) text)

-- the kind has a time of day
abbrev pub has_time : Kind → Bool
has_time Days = false
has_time Moments = true

-- a blank: a space or a tab
abbrev pub is_blank : ℕ → Bool
is_blank b = (b == 32) || (b == 9)

-- the text without blanks before it
abbrev pub trim_start : List ℕ → List ℕ
trim_start text = drop (length (take_while is_blank text)) text

-- the text without blanks after it
abbrev pub trim_end : List ℕ → List ℕ
trim_end text = take (length text - length (take_while is_blank (reverse text))) text

-- a value in capitals, without the blanks around it
unfoldable pub line_value : List ℕ → List ℕ
line_value text = trim_end (trim_start (str_to_ascii_uppercase text))

-- the text after a prefix
abbrev pub text_after : List ℕ → List ℕ → Option (List ℕ)
text_after prefix text = if bytes_eq (take (length prefix) text) prefix then Some (drop (length prefix) text) else None
