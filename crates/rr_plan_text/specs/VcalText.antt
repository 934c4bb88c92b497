-- The text of a plan of events of vCalendar 1.0: each event between BEGIN:VEVENT and END:VEVENT (vCalendar 1.0, section 2.2, event).
use Rattle.std.specs.Prelude.{ℕ, List, [], ◌∷◌, ◌++◌, codes, ℤ}
use Rattle.rr_model.specs.Text.Written.{line_break, lines_of}
use Rattle.rr_model.specs.Vcal.Written.{vcal_written}
use Rattle.rr_model.specs.declared.kind.Kind.{Kind}
use Rattle.rr_model.specs.declared.vcal.VSeries.{VSeries}

-- an event as a component: what a translation prints for it, between two lines
abbrev pub component_text : VSeries → List ℕ
component_text event = codes "BEGIN:VEVENT" ++ (line_break ++ (vcal_written event ++ (codes "END:VEVENT" ++ line_break)))

-- the event that starts with one date or moment and has these further ones
abbrev pub dates_event : Kind → ℤ → List ℤ → VSeries
dates_event kind start plus = record { kind = kind; start = start; rules = []; excluded = []; plus = plus; minus = [] }

-- the event of the single occurrences, if there are some
abbrev pub single_events : Kind → List ℤ → List VSeries
single_events kind [] = []
single_events kind (start ∷ plus) = dates_event kind start plus ∷ []

-- The events of a plan one after another, and at the end the one of its single occurrences.
unfoldable pub vcal_plan_text : List VSeries → Kind → List ℤ → List ℕ
vcal_plan_text events kind single = lines_of component_text events ++ lines_of component_text (single_events kind single)
