-- In which words the events of a key are stated (RFC 5545, section 3.1: content lines).
use Rattle.std.specs.Prelude.{ℕ, ◌+◌, ◌==◌, nat_le, Bool, true, false, ◌&&◌, List, [], ◌∷◌, length, count_by, bytes_eq}
use Rattle.std.specs.List.{list_all}
use Rattle.rr_seam.specs.declared.words.Language.{Language}
use Rattle.rr_seam.specs.declared.words.TheConstants.{MAX_WORDS}
use Rattle.rr_seam.specs.declared.words.Language.TheVariants.{Ics, Vcal}

-- the lines that decide the occurrences of the events of a key, event by event
pub record Words : Type 0 where
  pub language : Language
  pub events : List (List (List ℕ))

-- the lines of the two languages are compared as they stand: both are iCalendar, or both vCalendar
abbrev pub share_lines : Language → Language → Bool
share_lines Ics Ics = true
share_lines Vcal Vcal = true
share_lines a b = false

-- a thing is as often among the one as among the other
unfoldable pub is_as_often : {X : Type 0} → (X → X → Bool) → List X → List X → X → Bool
is_as_often is_same a b x = count_by (is_same x) a == count_by (is_same x) b

-- as many things, each as often among the one as among the other
abbrev pub are_same_in_any_order : {X : Type 0} → (X → X → Bool) → List X → List X → Bool
are_same_in_any_order is_same a b = (length a == length b) && list_all (is_as_often is_same a b) a

-- the lines are the same, in any order, and are not too many to be told so
abbrev pub are_same_lines : List (List ℕ) → List (List ℕ) → Bool
are_same_lines a b = nat_le (length a) MAX_WORDS && are_same_in_any_order bytes_eq a b

-- how many events and lines there are
abbrev pub words_in : List (List (List ℕ)) → ℕ
words_in [] = 0
words_in (event ∷ events) = 1 + length event + words_in events

-- the events have the same lines, in any order, and these are not too many to be told so
abbrev pub are_same_events : List (List (List ℕ)) → List (List (List ℕ)) → Bool
are_same_events a b = nat_le (words_in a) MAX_WORDS && are_same_in_any_order are_same_lines a b

-- the events of a key are stated in the same words: in one language, by as many events with the same lines, in any order
abbrev pub are_same_words : Words → Words → Bool
are_same_words a b = share_lines a.language b.language && are_same_events a.events b.events
