-- What an iCalendar text states, or the first refusal (RFC 5545, sections 3.3.10 and 3.8.5).
use Rattle.std.specs.Prelude.{ℕ, true, false, if◌then◌else◌, ℤ, List, Option, Result, Ok, Err}
use Rattle.std.specs.Str.{is_utf8}
use Rattle.rr_rule_parts.specs.Rules.{rule_parts, rule_of}
use Rattle.rr_model.specs.Rule.Validity.{takes_start}
use Rattle.rr_model.specs.declared.refusal.Refusal.{Refusal}
use Rattle.rr_model.specs.declared.rule.Rule.{Rule}
use Rattle.rr_model.specs.declared.rule.Series.{Series}
use Rattle.rr_model.specs.declared.stamp.Stamp.{Stamp}
use Rattle.rr_model.specs.Text.RuleValues.{◌>>=◌}
use Rattle.rr_model.specs.Text.Lines.{without_mark}
use Rattle.rr_model.specs.Text.Calendars.{end_beside, is_comma}
use Rattle.rr_model.specs.Text.Event.{event_scan}
use Rattle.rr_model.specs.Text.Passes.{Stated, Language, Event, passes}
use Rattle.rr_model.specs.declared.used.Scan.{Scan}
use Rattle.rr_model.specs.declared.refusal.Refusal.TheVariants.{NotText, NotAllowed}

-- the rule of a line, and its UNTIL as the line states it
unfoldable pub stated_rule : ℕ → List ℕ → Result (Stated Rule) Refusal
stated_rule line text = do
  parts ← rule_parts line text
  rule ← rule_of line parts
  Ok (record { rule = rule; until = parts.until })

-- the rule beside the start, which needs a time if the rule is finer than DAILY
unfoldable pub rule_beside : Option ℤ → Stamp → ℕ → Stated Rule → Result Rule Refusal
rule_beside offset start line stated = do
  end ← end_beside offset start line stated.until stated.rule.end
  if takes_start stated.rule.freq start.kind then Ok (record stated.rule { end = end }) else Err NotAllowed

-- how rules and dates of RFC 5545 are read
abbrev pub rrule_language : Language Rule
rrule_language = record { stated = stated_rule; is_separator = is_comma }

-- the series of an event; its start counts
abbrev pub series_of_event : Event Rule → Series
series_of_event event = record {
  kind = event.start.kind;
  start = event.start.at;
  start_counts = true;
  rules = event.beside.rules;
  excluded = event.beside.excluded;
  plus = event.beside.plus;
  minus = event.beside.minus;
}

-- the series of the used lines of an event
abbrev pub calendar_scan : Option ℤ → Scan → Result Series Refusal
calendar_scan offset scan = passes rrule_language (rule_beside offset) offset scan >>= λ event. Ok (series_of_event event)

-- the series that a text states, beside a stated offset of local time from UTC in seconds
unfoldable pub calendar_text : Option ℤ → List ℕ → Result Series Refusal
calendar_text offset text = calendar_scan offset (event_scan false (without_mark text))

-- the series that the bytes state, which have to be UTF-8
unfoldable pub reads_calendar : Option ℤ → List ℕ → Result Series Refusal
reads_calendar offset bytes = if is_utf8 bytes then calendar_text offset bytes else Err NotText
