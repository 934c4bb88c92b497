-- Laws of the lines of a text (RFC 5545, section 3.1).
use Rattle.std.specs.Prelude.{◌≡◌, ℕ, ◌==◌, not, if◌then◌else◌, List, [], ◌∷◌, ◌++◌, map, false, IsTrue}
use Rattle.std.specs.List.{list_all}
use Rattle.rr_model.specs.Text.Lines.{unfolded_lines}
use Rattle.rr_ical.specs.Lists.{list_text}

-- the texts of the unfolded lines, without their numbers
abbrev pub line_texts : List ℕ → List (List ℕ)
line_texts bytes = map (λ line. line.text) (unfolded_lines false bytes)

-- A line may be folded after any of its bytes, by CR LF and a blank: the texts of the lines stay the same.
abbrev pub FoldingDoesNotMatter : Type 0
FoldingDoesNotMatter =
    (front after : List ℕ) (b : ℕ) → (b == 10) ≡ false → (b == 13) ≡ false
    → line_texts (front ++ b ∷ 13 ∷ 10 ∷ 32 ∷ after) ≡ line_texts (front ++ b ∷ after)

-- no carriage return stands in it
abbrev pub HasNoReturn : List ℕ → Type 0
HasNoReturn text = IsTrue (list_all (λ b. not (b == 13)) text)

-- the text with a carriage return before each line feed
abbrev pub with_returns : List ℕ → List ℕ
with_returns [] = []
with_returns (b ∷ bs) = if b == 10 then 13 ∷ 10 ∷ with_returns bs else b ∷ with_returns bs

-- A list whose lines end with CR LF states what the list does whose lines end with LF.
abbrev pub LineEndsDoNotMatter : Type 0
LineEndsDoNotMatter = (text : List ℕ) → HasNoReturn text → list_text (with_returns text) ≡ list_text text
