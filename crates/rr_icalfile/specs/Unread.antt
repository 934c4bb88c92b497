-- How many tasks and journal entries a calendar has, which are not read (RFC 5545, sections 3.6.2 and 3.6.3).
use Rattle.std.specs.Prelude.{◌≡◌, ℕ, ◌+◌, nat_lt, Bool, not, ◌&&◌, cond, if◌then◌else◌, List, [], ◌∷◌, length, codes, Option, None, Some, Result, Ok, Err}
use Rattle.std.specs.Str.{str_eq_ignore_ascii_case}
use Rattle.rr_model.specs.Text.Lines.{without_mark}
use Rattle.rr_model.specs.Text.UsedLines.{is_named}
use Rattle.rr_model.specs.declared.line.Line.{Line}
use Rattle.rr_model.specs.declared.refusal.Refusal.{Refusal}
use Rattle.rr_ical.specs.Components.{is_within_event, open_after}
use Rattle.rr_events.specs.Cutting.{lines_at}
use Rattle.rr_seam.specs.declared.file.TheConstants.{MAX_FILE}
use Rattle.rr_icalfile.specs.Zones.{value_on}
use Rattle.rr_icalfile.specs.declared.unread.Unread.{Unread}

-- a line begins a component of this name, in either case
abbrev pub begins : List ℕ → List ℕ → Bool
begins name text = is_named text (codes "BEGIN") && str_eq_ignore_ascii_case (value_on text) name

-- a line begins a component of this name that lies in none of the open components but such as are no event
abbrev pub is_begun : List ℕ → List (List ℕ) → Line → Bool
is_begun name names line = not (is_within_event names) && begins name line.text

-- what a line counts, and then the lines behind it, with these components open; none after a fault of the components
abbrev pub counted : Bool → Result (List (List ℕ)) Refusal → (List (List ℕ) → ℕ) → ℕ
counted is_begun (Err r) more = 0
counted is_begun (Ok after) more = cond is_begun 1 0 + more after

-- how many components of a name begin on these lines and lie in no event, with these components open before them
abbrev pub count_from : List ℕ → List (List ℕ) → List Line → ℕ
count_from name names [] = 0
count_from name names (line ∷ lines) = counted (is_begun name names line) (open_after names line) (λ after. count_from name after lines)

-- how many components of a name a text without a byte order mark has that lie in no event, up to the first fault of its components
abbrev pub count_of : List ℕ → List ℕ → ℕ
count_of name text = count_from name [] (lines_at 1 text)

-- the tasks and journal entries of a text without a byte order mark
abbrev pub unread_in : List ℕ → Unread
unread_in text = record { tasks = count_of (codes "VTODO") text; journals = count_of (codes "VJOURNAL") text }

-- a file without tasks and journal entries
abbrev pub none_unread : Unread
none_unread = record { tasks = 0; journals = 0 }

-- The tasks and journal entries of a file; one that is too long is not read.
abbrev pub unread : List ℕ → Unread
unread bytes = if nat_lt MAX_FILE (length bytes) then none_unread else unread_in (without_mark bytes)

-- ---- one line more

-- the tally with a line, behind which these components are open
pub record IsNextTally (names after : List (List ℕ)) (line : Line) (so_far next : Unread) : Type 0 where
  pub opened : open_after names line ≡ Ok after
  pub tasks : next.tasks ≡ so_far.tasks + cond (is_begun (codes "VTODO") names line) 1 0
  pub journals : next.journals ≡ so_far.journals + cond (is_begun (codes "VJOURNAL") names line) 1 0

-- a line is at fault
pub record IsAtFault (names : List (List ℕ)) (line : Line) : Type 0 where
  pub refusal : Refusal
  pub is : open_after names line ≡ Err refusal

-- the tally with a line, or none after a fault
abbrev pub IsTallied : List (List ℕ) → List (List ℕ) → Line → Unread → Option Unread → Type 0
IsTallied names after line so_far (Some next) = IsNextTally names after line so_far next
IsTallied names after line so_far None = IsAtFault names line
