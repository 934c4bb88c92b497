-- Laws of what a calendar text states (RFC 5545, sections 3.1 and 3.3.10).
use Rattle.std.specs.Prelude.{◌≡◌, ℕ, ◌==◌, nat_lt, Bool, false, not, ◌&&◌, ℤ, List, [], ◌∷◌, ◌++◌, length, Option, None, Ok, IsTrue}
use Rattle.std.specs.List.{list_all, join_with_byte}
use Rattle.std.specs.Str.{str_to_ascii_lowercase}
use Rattle.rr_ical.specs.LineLaws.{HasNoReturn, with_returns}
use Rattle.rr_rule_parts.specs.Calendars.{calendar_text}
use Rattle.rr_model.specs.Text.Event.{event_scan, used_line}
use Rattle.rr_model.specs.Text.Lines.{without_mark}
use Rattle.rr_model.specs.Text.Rules.{is_blank, text_after}
use Rattle.rr_model.specs.declared.refusal.Refusal.{Refusal}
use Rattle.rr_model.specs.declared.rule.Series.{Series}
use Rattle.rr_model.specs.declared.used.LineName.TheVariants.{Rrule}
use Rattle.rr_model.specs.declared.used.UsedLine.{UsedLine}

-- ---- letters

-- the two differ at most in the case of their letters
abbrev pub DifferInCase : List ℕ → List ℕ → Type 0
DifferInCase a b = str_to_ascii_lowercase a ≡ str_to_ascii_lowercase b

-- Texts that differ in case alone state one series, or are refused alike.
abbrev pub CaseDoesNotMatter : Type 0
CaseDoesNotMatter = (offset : Option ℤ) (text other : List ℕ) → DifferInCase text other → calendar_text offset text ≡ calendar_text offset other

-- ---- line ends

-- A text whose lines end with CR LF states what the text does whose lines end with LF.
abbrev pub LineEndsDoNotMatter : Type 0
LineEndsDoNotMatter = (offset : Option ℤ) (text : List ℕ) → HasNoReturn text → calendar_text offset (with_returns text) ≡ calendar_text offset text

-- ---- folded lines

-- the text begins with no byte order mark
abbrev pub HasNoMark : List ℕ → Type 0
HasNoMark text = text_after (239 ∷ 187 ∷ 191 ∷ []) text ≡ None

-- A line of a text that is read may be folded after any of its bytes, by CR LF and a blank.
abbrev pub FoldingDoesNotMatter : Type 0
FoldingDoesNotMatter =
    (offset : Option ℤ) (front after : List ℕ) (b : ℕ) (series : Series) → (b == 10) ≡ false → (b == 13) ≡ false
    → HasNoMark (front ++ b ∷ after) → calendar_text offset (front ++ b ∷ after) ≡ Ok series
    → calendar_text offset (front ++ b ∷ 13 ∷ 10 ∷ 32 ∷ after) ≡ Ok series

-- ---- the order of a rule's parts

-- the byte may stand in a part: it is no semicolon, no blank and no line feed
abbrev pub is_part_byte : ℕ → Bool
is_part_byte b = not (b == 59) && (not (is_blank b) && not (b == 10))

-- a part is not empty and holds no byte that separates
abbrev pub is_part : List ℕ → Bool
is_part text = nat_lt 0 (length text) && list_all is_part_byte text

-- each text is a part of a rule
abbrev pub AreParts : List (List ℕ) → Type 0
AreParts texts = IsTrue (list_all is_part texts)

-- the text has these used lines, a rule of these parts among them, and this fault of its components, if there is one
abbrev pub HasRule : List ℕ → List UsedLine → ℕ → List (List ℕ) → List UsedLine → Option Refusal → Type 0
HasRule text before number parts after stop =
    event_scan false (without_mark text) ≡ record { used = before ++ used_line number Rrule (join_with_byte 59 parts) ∷ after; stop = stop }

-- Two neighbouring parts of a rule of a text that is read may be exchanged.
abbrev pub OrderDoesNotMatter : Type 0
OrderDoesNotMatter =
    (offset : Option ℤ) (text other : List ℕ) (before after : List UsedLine) (number : ℕ) (stop : Option Refusal)
    (first last : List (List ℕ)) (a b : List ℕ) (series : Series) → AreParts (first ++ a ∷ b ∷ last)
    → HasRule text before number (first ++ a ∷ b ∷ last) after stop → HasRule other before number (first ++ b ∷ a ∷ last) after stop
    → calendar_text offset text ≡ Ok series → calendar_text offset other ≡ Ok series
