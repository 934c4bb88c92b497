-- How the used lines of an event are read: a first pass judges each line alone, a second one judges moments beside the start
-- (RFC 5545, sections 3.3.5, 3.8.2.4, 3.8.5.1, 3.8.5.2; RFC 2445, section 4.8.5.2, EXRULE; vCalendar 1.0, the same properties).
use Rattle.std.specs.Prelude.{ℕ, ◌+◌, ◌==◌, nat_le, Bool, true, false, not, ◌&&◌, if◌then◌else◌, ℤ, ◌+ℤ◌, int_lt, List, [], ◌∷◌, ◌++◌, Option, None, Some}
use Rattle.std.specs.Prelude.{ok_or, Result, Ok, Err}
use Rattle.std.specs.List.{list_any, slice_split}
use Rattle.std.specs.Option.{is_some}
use Rattle.rr_model.specs.Text.Moments.{basic}
use Rattle.rr_model.specs.Text.Rules.{has_time}
use Rattle.rr_model.specs.Rising.{with_value}
use Rattle.rr_model.specs.Moment.{is_same_kind}
use Rattle.rr_model.specs.Moment.Years.{is_in_years}
use Rattle.rr_model.specs.declared.kind.Kind.TheVariants.{Moments}
use Rattle.rr_model.specs.declared.stamp.Stamp.{Stamp}
use Rattle.rr_model.specs.Text.RuleValues.{◌>>=◌}
use Rattle.rr_model.specs.Text.Steps.{in_turn}
use Rattle.rr_model.specs.Text.UsedLines.{trim}
use Rattle.rr_model.specs.declared.pass.FirstPass.{FirstPass}
use Rattle.rr_model.specs.declared.limits.TheConstants.{MAX_DATES, MAX_RULES}
use Rattle.rr_model.specs.declared.refusal.Refusal.{Refusal}
use Rattle.rr_model.specs.declared.refusal.Refusal.TheVariants.{NoStart, BadMoment, MixedKinds, PartTwice, UtcMoment, PeriodValue, TooManyParts}
use Rattle.rr_model.specs.declared.used.LineName.{LineName}
use Rattle.rr_model.specs.declared.used.LineName.TheVariants.{Dtstart, Rrule, Rdate, Exdate, Exrule}
use Rattle.rr_model.specs.declared.used.UsedLine.{UsedLine}
use Rattle.rr_model.specs.declared.used.Scan.{Scan}

-- ---- the first pass

-- a rule as its line states it, and the end moment that it has
pub record Stated (R : Type 0) : Type 0 where
  pub rule : R
  pub until : Option Stamp

-- how rules are read from a line, and between which bytes date values stand
pub record Language (R : Type 0) : Type 0 where
  pub stated : ℕ → List ℕ → Result (Stated R) Refusal
  pub is_separator : ℕ → Bool

-- nothing is read yet
abbrev pub nothing_read : FirstPass
nothing_read = record { start = None; rule_count = 0; date_count = 0 }

-- a second start is refused before its value is read
abbrev pub judged_start : ℕ → FirstPass → List ℕ → Result FirstPass Refusal
judged_start line pass text =
    if is_some pass.start then Err (PartTwice line) else (ok_or (basic text) (BadMoment line) >>= λ stamp. Ok (record pass { start = Some stamp }))

-- the text holds a slash, as periods do
abbrev pub has_slash : List ℕ → Bool
has_slash text = list_any (λ b. b == 47) text

-- what a date value states, with blanks around it or none
abbrev pub date_value : ℕ → List ℕ → Result Stamp Refusal
date_value line text = ok_or (basic (trim text)) (BadMoment line)

-- what the first pass keeps after one value of RDATE (true) or EXDATE, or its refusal
abbrev pub judged_date : ℕ → Bool → FirstPass → List ℕ → Result FirstPass Refusal
judged_date line is_plus pass text =
    if nat_le MAX_DATES pass.date_count then Err TooManyParts
    else (if is_plus && has_slash text then Err PeriodValue else (date_value line text >>= λ stamp. Ok (record pass { date_count = pass.date_count + 1 })))

-- what the first pass keeps after the values of a line of RDATE (true) or EXDATE, from left to right, or the first refusal
abbrev pub judged_dates : ℕ → Bool → FirstPass → List (List ℕ) → Result FirstPass Refusal
judged_dates line is_plus pass texts = in_turn (judged_date line is_plus) pass texts

-- what the first pass keeps after one rule, or its refusal; the rule is read only if there is room for it
abbrev pub judged_rule : {R : Type 0} → Language R → ℕ → FirstPass → List ℕ → Result FirstPass Refusal
judged_rule language line pass text =
    if nat_le MAX_RULES pass.rule_count then Err TooManyParts else (language.stated line text >>= λ rule. Ok (record pass { rule_count = pass.rule_count + 1 }))

-- what the first pass keeps after one used line, or its refusal
abbrev pub judged_line : {R : Type 0} → Language R → ℕ → LineName → FirstPass → List ℕ → Result FirstPass Refusal
judged_line language line Dtstart pass text = judged_start line pass text
judged_line language line Rrule pass text = judged_rule language line pass text
judged_line language line Rdate pass text = judged_dates line true pass (slice_split language.is_separator text)
judged_line language line Exdate pass text = judged_dates line false pass (slice_split language.is_separator text)
judged_line language line Exrule pass text = judged_rule language line pass text

-- what the first pass keeps after these used lines, or the first refusal
abbrev pub first_pass : {R : Type 0} → Language R → FirstPass → List UsedLine → Result FirstPass Refusal
first_pass language pass lines = in_turn (λ p line. judged_line language line.number line.name p line.value) pass lines

-- ---- the second pass

-- a moment of UTC as local time, `offset` seconds later; UtcMoment if no offset is stated
abbrev pub local_moment_of : ℕ → Option ℤ → ℤ → Result ℤ Refusal
local_moment_of line None at = Err UtcMoment
local_moment_of line (Some offset) at = if is_in_years Moments (at +ℤ offset) then Ok (at +ℤ offset) else Err (BadMoment line)

-- a moment beside the start: only beside a local time is a moment of UTC turned
abbrev pub moment_beside : Option ℤ → Stamp → ℕ → Stamp → Result ℤ Refusal
moment_beside offset start line stamp = if stamp.utc && not start.utc && has_time start.kind then local_moment_of line offset stamp.at else Ok stamp.at

-- the day or moment of a date value beside the start; MixedKinds if one is a date and the other a moment
abbrev pub date_beside : Option ℤ → Stamp → ℕ → Stamp → Result ℤ Refusal
date_beside offset start line stamp = if is_same_kind start.kind stamp.kind then moment_beside offset start line stamp else Err (MixedKinds line)

-- rules, excluded rules and dates beside the start
pub record Beside (R : Type 0) : Type 0 where
  pub rules : List R
  pub excluded : List R
  pub plus : List ℤ
  pub minus : List ℤ

-- nothing is read beside the start yet
abbrev pub nothing_beside : {R : Type 0} → Beside R
nothing_beside = record { rules = []; excluded = []; plus = []; minus = [] }

-- what stands beside the start, with one date more, of RDATE (true) or EXDATE
abbrev pub put_date : {R : Type 0} → Bool → Beside R → ℤ → Beside R
put_date true beside at = record beside { plus = with_value int_lt beside.plus at }
put_date false beside at = record beside { minus = with_value int_lt beside.minus at }

-- what stands beside the start, with one value more of RDATE (true) or EXDATE, or its refusal
abbrev pub with_date : {R : Type 0} → Option ℤ → Stamp → ℕ → Bool → Beside R → List ℕ → Result (Beside R) Refusal
with_date offset start line is_plus beside text = do
  stamp ← date_value line text
  at ← date_beside offset start line stamp
  Ok (put_date is_plus beside at)

-- what stands beside the start, with the values of one line of RDATE (true) or EXDATE, from left to right, or the first refusal
abbrev pub with_dates : {R : Type 0} → Option ℤ → Stamp → ℕ → Bool → Beside R → List (List ℕ) → Result (Beside R) Refusal
with_dates offset start line is_plus beside texts = in_turn (with_date offset start line is_plus) beside texts

-- what stands beside the start, with one rule more, of RRULE (true) or EXRULE
abbrev pub put_rule : {R : Type 0} → Bool → Beside R → R → Beside R
put_rule true beside rule = record beside { rules = beside.rules ++ rule ∷ [] }
put_rule false beside rule = record beside { excluded = beside.excluded ++ rule ∷ [] }

-- what stands beside the start, with the rule of one line of RRULE (true) or EXRULE, or its refusal
abbrev pub with_rule : {R : Type 0} → Language R → (ℕ → Stated R → Result R Refusal) → ℕ → Bool → Beside R → List ℕ → Result (Beside R) Refusal
with_rule language rule_beside line is_given beside text = do
  stated ← language.stated line text
  rule ← rule_beside line stated
  Ok (put_rule is_given beside rule)

-- what stands beside the start, with one used line more, or its refusal; the first pass has judged the line alone
abbrev pub with_line : {R : Type 0} → Language R → (ℕ → Stated R → Result R Refusal) → Option ℤ → Stamp → ℕ → LineName → Beside R → List ℕ
    → Result (Beside R) Refusal
with_line language rule_beside offset start line Dtstart beside text = Ok beside
with_line language rule_beside offset start line Rrule beside text = with_rule language rule_beside line true beside text
with_line language rule_beside offset start line Rdate beside text = with_dates offset start line true beside (slice_split language.is_separator text)
with_line language rule_beside offset start line Exdate beside text = with_dates offset start line false beside (slice_split language.is_separator text)
with_line language rule_beside offset start line Exrule beside text = with_rule language rule_beside line false beside text

-- what stands beside the start after the used lines, or the first refusal of the second pass
abbrev pub second_pass : {R : Type 0} → Language R → (ℕ → Stated R → Result R Refusal) → Option ℤ → Stamp → Beside R → List UsedLine → Result (Beside R) Refusal
second_pass language rule_beside offset start beside lines =
    in_turn (λ b line. with_line language rule_beside offset start line.number line.name b line.value) beside lines

-- ---- both passes

-- the value, or the refusal by which the scan of the components stopped
abbrev pub unless_stopped : {A : Type 0} → Option Refusal → A → Result A Refusal
unless_stopped None value = Ok value
unless_stopped (Some refusal) value = Err refusal

-- the start with the rules and dates beside it
pub record Event (R : Type 0) : Type 0 where
  pub start : Stamp
  pub beside : Beside R

-- the start with the rules and dates beside it, from both passes over the used lines of an event; or the first refusal
abbrev pub passes : {R : Type 0} → Language R → (Stamp → ℕ → Stated R → Result R Refusal) → Option ℤ → Scan → Result (Event R) Refusal
passes language rule_beside offset scan = do
  read ← first_pass language nothing_read scan.used
  pass ← unless_stopped scan.stop read
  start ← ok_or pass.start NoStart
  beside ← second_pass language (rule_beside start) offset start nothing_beside scan.used
  Ok (record { start = start; beside = beside })
