-- The events of a whole calendar text, each as its lines from BEGIN to END (RFC 5545, sections 3.4 and 3.6.1).
use Rattle.std.specs.Prelude.{ℕ, if◌then◌else◌, List, [], ◌∷◌, ◌++◌, length, Result, Ok, Err}
use Rattle.rr_model.specs.Rule.Validity.{is_absent}
use Rattle.rr_model.specs.Text.Lines.{physical_lines}
use Rattle.rr_model.specs.Text.RuleValues.{◌>>=◌}
use Rattle.rr_model.specs.declared.line.Line.{Line}
use Rattle.rr_model.specs.declared.refusal.Refusal.{Refusal}
use Rattle.rr_model.specs.declared.refusal.Refusal.TheVariants.{BadLine}
use Rattle.rr_ical.specs.Components.{is_within_event, open_after}
use Rattle.rr_events.specs.Cutting.{lines_at}

-- the events from here on, with the lines so far of the one that is open
abbrev pub events_from : ℕ → List (List ℕ) → List Line → List Line → Result (List (List Line)) Refusal
events_from last names so_far [] = if is_absent names then Ok [] else Err (BadLine last)
events_from last names so_far (line ∷ lines) =
    open_after names line >>= λ after.
    if is_within_event after then events_from last after (so_far ++ line ∷ []) lines
    else (if is_within_event names then (events_from last after [] lines >>= λ events. Ok ((so_far ++ line ∷ []) ∷ events))
    else events_from last after [] lines)

-- The events of a text without a byte order mark in their order, or the first fault of its components.
unfoldable pub events_of : List ℕ → Result (List (List Line)) Refusal
events_of text = events_from (length (physical_lines text)) [] [] (lines_at 1 text)
