-- What the lines of an event state, with each value of rules and dates kept as it is read (RFC 5545, section 3.8).
use Rattle.std.specs.Prelude.{◌≡◌, ℕ, ◌+◌, ◌<◌, nat_le, Bool, true, false, ◌&&◌, if◌then◌else◌, ℤ, List, [], ◌∷◌, ◌++◌, length, Option, ok_or, Result, Ok, Err}
use Rattle.std.specs.List.{slice_split}
use Rattle.rr_model.specs.Text.Calendars.{is_comma}
use Rattle.rr_model.specs.Text.Passes.{Beside, Event, Language, Stated, date_beside, date_value, has_slash, judged_start, nothing_beside, nothing_read, put_date}
use Rattle.rr_model.specs.Text.Passes.{put_rule, unless_stopped}
use Rattle.rr_model.specs.Text.RuleValues.{◌>>=◌}
use Rattle.rr_model.specs.Text.Steps.{in_turn}
use Rattle.rr_model.specs.Vcal.Reading.{is_comma_or_semicolon}
use Rattle.rr_model.specs.declared.limits.TheConstants.{MAX_DATES, MAX_RULES}
use Rattle.rr_model.specs.declared.refusal.Refusal.{Refusal}
use Rattle.rr_model.specs.declared.refusal.Refusal.TheVariants.{NoStart, PeriodValue, TooManyParts}
use Rattle.rr_model.specs.declared.stamp.Stamp.{Stamp}
use Rattle.rr_model.specs.declared.used.LineName.{LineName}
use Rattle.rr_model.specs.declared.used.LineName.TheVariants.{Dtstart, Rrule, Rdate, Exdate, Exrule}
use Rattle.rr_model.specs.declared.used.Scan.{Scan}
use Rattle.rr_model.specs.declared.used.UsedLine.{UsedLine}
use Rattle.rr_ical.specs.declared.kept.LineValue.{LineValue}
use Rattle.rr_ical.specs.declared.kept.LineValue.TheVariants.{OneDate, OneRule}
use Rattle.rr_ical.specs.declared.kept.ReadLines.{ReadLines}
use Rattle.rr_ical.specs.declared.lines_beside.Setting.{Setting}

-- ---- each line alone

-- what stands between date values: commas, and semicolons if they are taken
abbrev pub is_date_separator : Bool → ℕ → Bool
is_date_separator takes_semicolons = if takes_semicolons then is_comma_or_semicolon else is_comma

-- the date values of a text, between their separators
abbrev pub date_values : Bool → List ℕ → List (List ℕ)
date_values takes_semicolons text = slice_split (is_date_separator takes_semicolons) text

-- the text is one date value
abbrev pub IsOneDate : Bool → List ℕ → Type 0
IsOneDate takes_semicolons text = date_values takes_semicolons text ≡ text ∷ []

-- the date values of a text are the first one and those of the rest, which is shorter
pub record IsDateCut (takes_semicolons : Bool) (text first rest : List ℕ) : Type 0 where
  pub values : date_values takes_semicolons text ≡ first ∷ date_values takes_semicolons rest
  pub shorter : length rest < length text

-- one more date value after `count` of them: TooManyParts, PeriodValue in RDATE (true), or what the value states
abbrev pub next_date : ℕ → Bool → ℕ → List ℕ → Result Stamp Refusal
next_date line is_plus count text =
    if nat_le MAX_DATES count then Err TooManyParts else (if is_plus && has_slash text then Err PeriodValue else date_value line text)

-- one more rule after `count` of them: TooManyParts, or what the text states
abbrev pub next_rule : {R : Type 0} → Language R → ℕ → ℕ → List ℕ → Result (Stated R) Refusal
next_rule language line count text = if nat_le MAX_RULES count then Err TooManyParts else language.stated line text

-- nothing is read yet
abbrev pub nothing_kept : {R : Type 0} → ReadLines R
nothing_kept = record { pass = nothing_read; values = [] }

-- what is kept after one value of RDATE (true) or EXDATE, or its refusal
abbrev pub kept_date : {R : Type 0} → ℕ → Bool → ReadLines R → List ℕ → Result (ReadLines R) Refusal
kept_date line is_plus read text =
    next_date line is_plus read.pass.date_count text
    >>= λ stamp. Ok (record { pass = record read.pass { date_count = read.pass.date_count + 1 }; values = read.values ++ OneDate line is_plus stamp ∷ [] })

-- what is kept after the rule of RRULE (true) or EXRULE, or its refusal
abbrev pub kept_rule : {R : Type 0} → Language R → ℕ → Bool → ReadLines R → List ℕ → Result (ReadLines R) Refusal
kept_rule language line is_given read text =
    next_rule language line read.pass.rule_count text
    >>= λ stated. Ok (record { pass = record read.pass { rule_count = read.pass.rule_count + 1 }; values = read.values ++ OneRule line is_given stated ∷ [] })

-- what is kept after DTSTART, or its refusal
abbrev pub kept_start : {R : Type 0} → ℕ → ReadLines R → List ℕ → Result (ReadLines R) Refusal
kept_start line read text = judged_start line read.pass text >>= λ pass. Ok (record read { pass = pass })

-- what is kept after the date values of a line of RDATE (true) or EXDATE, from left to right, or the first refusal
abbrev pub kept_dates : {R : Type 0} → ℕ → Bool → ReadLines R → List (List ℕ) → Result (ReadLines R) Refusal
kept_dates line is_plus read texts = in_turn (kept_date line is_plus) read texts

-- what is kept after one used line, or its refusal
abbrev pub kept_line : {R : Type 0} → Language R → ℕ → LineName → ReadLines R → List ℕ → Result (ReadLines R) Refusal
kept_line language line Dtstart read text = kept_start line read text
kept_line language line Rrule read text = kept_rule language line true read text
kept_line language line Rdate read text = kept_dates line true read (slice_split language.is_separator text)
kept_line language line Exdate read text = kept_dates line false read (slice_split language.is_separator text)
kept_line language line Exrule read text = kept_rule language line false read text

-- what is kept after these used lines, or the first refusal
abbrev pub kept_lines : {R : Type 0} → Language R → ReadLines R → List UsedLine → Result (ReadLines R) Refusal
kept_lines language read lines = in_turn (λ r line. kept_line language line.number line.name r line.value) read lines

-- ---- the values beside the start

-- what stands beside the start, with one kept value more, or its refusal
abbrev pub value_beside : {R : Type 0} → (ℕ → Stated R → Result R Refusal) → Option ℤ → Stamp → Beside R → LineValue R → Result (Beside R) Refusal
value_beside rule_beside offset start beside (OneDate line is_plus stamp) = date_beside offset start line stamp >>= λ at. Ok (put_date is_plus beside at)
value_beside rule_beside offset start beside (OneRule line is_given stated) = rule_beside line stated >>= λ rule. Ok (put_rule is_given beside rule)

-- what stands beside the start, with the kept values in order, or the first refusal
abbrev pub values_beside : {R : Type 0} → (ℕ → Stated R → Result R Refusal) → Option ℤ → Stamp → Beside R → List (LineValue R) → Result (Beside R) Refusal
values_beside rule_beside offset start beside values = in_turn (value_beside rule_beside offset start) beside values

-- what stands beside the start, with one kept value more, or its refusal; the setting is the stated offset and the start
abbrev pub value_in : {R : Type 0} → (Option ℤ → Stamp → ℕ → Stated R → Result R Refusal) → Setting → Beside R → LineValue R → Result (Beside R) Refusal
value_in rule_beside setting beside value = value_beside (rule_beside setting.offset setting.start) setting.offset setting.start beside value

-- what stands beside the start, with the kept values in order and nothing before them, or the first refusal; the setting is the
-- stated offset and the start
abbrev pub values_in : {R : Type 0} → (Option ℤ → Stamp → ℕ → Stated R → Result R Refusal) → Setting → List (LineValue R) → Result (Beside R) Refusal
values_in rule_beside setting values = values_beside (rule_beside setting.offset setting.start) setting.offset setting.start nothing_beside values

-- the start of the used lines with the rules and dates beside it, each value read once
abbrev pub kept_event : {R : Type 0} → Language R → (Stamp → ℕ → Stated R → Result R Refusal) → Option ℤ → Scan → Result (Event R) Refusal
kept_event language rule_beside offset scan = do
  kept ← kept_lines language nothing_kept scan.used
  read ← unless_stopped scan.stop kept
  start ← ok_or read.pass.start NoStart
  beside ← values_beside (rule_beside start) offset start nothing_beside read.values
  Ok (record { start = start; beside = beside })
