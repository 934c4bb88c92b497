-- What an event is found again by (RFC 5545, section 3.8.4.7).
use Rattle.std.specs.Prelude.{◌≡◌, ℕ, Bool, ◌&&◌, List, [], ◌∷◌, codes, Option, None, Some, Result, Ok, Err, ⊤}
use Rattle.rr_model.specs.Text.Event.{is_in_event}
use Rattle.rr_model.specs.Text.UsedLines.{is_named}
use Rattle.rr_model.specs.declared.line.Line.{Line}
use Rattle.rr_model.specs.declared.refusal.Fault.{Fault}
use Rattle.rr_model.specs.declared.refusal.Fault.TheVariants.{Refused, NoMemory}
use Rattle.rr_ical.specs.Components.{open_after}
use Rattle.rr_events.specs.Own.{first_value, own_lines}
use Rattle.rr_seam.specs.declared.key.Key.{Key}
use Rattle.rr_seam.specs.declared.key.Key.TheVariants as key

-- the key of an event by its first line and the value of its UID
abbrev pub key_by : ℕ → List ℕ → Key
key_by first [] = key.Line first
key_by first (b ∷ bs) = key.Uid (b ∷ bs)

-- the number of the line that begins an event
abbrev pub first_line : List Line → ℕ
first_line [] = 0
first_line (line ∷ lines) = line.number

-- the UID among these lines of an event, with these components open before them
abbrev pub uid_in : List (List ℕ) → List Line → List ℕ
uid_in names lines = first_value (codes "UID") (own_lines names lines)

-- the key of an event
abbrev pub key_of : List Line → Key
key_of event = key_by (first_line event) (uid_in [] event)

-- ---- the search for the UID

-- a line is a UID that stands directly in the event, or not, and these components are open after it; or the fault of the components
abbrev pub IsOwnUid : List (List ℕ) → Line → List (List ℕ) → Result Bool Fault → Type 0
IsOwnUid names line after (Ok is_uid) =
    (open_after names line ≡ Ok after) × (is_uid ≡ ((is_in_event names && is_in_event after) && is_named line.text (codes "UID")))
IsOwnUid names line after (Err (Refused refusal)) = open_after names line ≡ Err refusal
IsOwnUid names line after (Err NoMemory) = ⊤

-- the UID is found at a line, whatever follows it, or it is that of the lines behind, with these components open before them
abbrev pub IsSearched : List (List ℕ) → Line → List (List ℕ) → Option (List ℕ) → Type 0
IsSearched names line after None = (more : List Line) → uid_in names (line ∷ more) ≡ uid_in after more
IsSearched names line after (Some uid) = (more : List Line) → uid_in names (line ∷ more) ≡ uid
