-- What the value of a rule states, or the first refusal (RFC 5545, section 3.3.10).
use Rattle.std.specs.Prelude.{ℕ, ◌-◌, Bool, not, ◌||◌, if◌then◌else◌, List, [], ◌∷◌, length, take, drop, codes, Option}
use Rattle.std.specs.Prelude.{None, Some, ok_or, unwrap_or, Result, Ok, Err}
use Rattle.std.specs.Option.{is_some}
use Rattle.std.specs.Str.{bytes_eq}
use Rattle.rr_model.specs.Text.Moments.{basic}
use Rattle.rr_model.specs.Text.Rules.{split_once, line_value}
use Rattle.rr_model.specs.Text.RuleValues.{◌>>=◌, pieces, in_table, freq_named, weekday_named, number_up_to}
use Rattle.rr_rule_parts.specs.Values.{unsigned_bounds, signed_bounds, second_bounds, numbers_of, day_items_of}
use Rattle.rr_model.specs.Rule.Validity.{is_absent, is_allowed}
use Rattle.rr_model.specs.declared.refusal.Refusal.{Refusal}
use Rattle.rr_model.specs.declared.refusal.Refusal.TheVariants.{BadMoment, BadRule, PartTwice, UntilAndCount, NotAllowed, Extended}
use Rattle.rr_model.specs.declared.rule.End.{End}
use Rattle.rr_model.specs.declared.rule.End.TheVariants.{Never, Until, Count}
use Rattle.rr_model.specs.declared.rule.Freq.{Freq}
use Rattle.rr_model.specs.declared.rule.Rule.{Rule}
use Rattle.rr_rule_parts.specs.declared.rule_parts.PartName.{PartName}
use Rattle.rr_rule_parts.specs.declared.rule_parts.PartName.TheVariants as part
use Rattle.rr_rule_parts.specs.declared.rule_parts.RuleParts.{RuleParts}
use Rattle.rr_model.specs.declared.stamp.Stamp.{Stamp}

-- ---- the parts of a rule

-- a part of a rule by its name
unfoldable pub part_named : List ℕ → Option PartName
part_named name = in_table
    ((codes "FREQ", part.Freq) ∷ (codes "UNTIL", part.Until) ∷ (codes "COUNT", part.Count) ∷ (codes "INTERVAL", part.Interval) ∷ (codes "WKST", part.WeekStart)
    ∷ (codes "BYSECOND", part.BySecond) ∷ (codes "BYMINUTE", part.ByMinute) ∷ (codes "BYHOUR", part.ByHour) ∷ (codes "BYDAY", part.ByDay)
    ∷ (codes "BYMONTHDAY", part.ByMonthDay) ∷ (codes "BYYEARDAY", part.ByYearDay) ∷ (codes "BYWEEKNO", part.ByWeekNo) ∷ (codes "BYMONTH", part.ByMonth)
    ∷ (codes "BYSETPOS", part.BySetPos) ∷ []) name

-- RSCALE and SKIP are parts of RFC 7529
abbrev pub is_extension : List ℕ → Bool
is_extension name = bytes_eq name (codes "RSCALE") || bytes_eq name (codes "SKIP")

-- a name of the table; an extension is known and not read
unfoldable pub name_of : ℕ → List ℕ → Result PartName Refusal
name_of line name = if is_extension name then Err Extended else ok_or (part_named name) (BadRule line)

-- the part is present
abbrev pub is_present : RuleParts → PartName → Bool
is_present parts part.Freq = is_some parts.freq
is_present parts part.Until = is_some parts.until
is_present parts part.Count = is_some parts.count
is_present parts part.Interval = is_some parts.interval
is_present parts part.WeekStart = is_some parts.week_start
is_present parts part.BySecond = not (is_absent parts.by_second)
is_present parts part.ByMinute = not (is_absent parts.by_minute)
is_present parts part.ByHour = not (is_absent parts.by_hour)
is_present parts part.ByDay = not (is_absent parts.by_day)
is_present parts part.ByMonthDay = not (is_absent parts.by_month_day)
is_present parts part.ByYearDay = not (is_absent parts.by_year_day)
is_present parts part.ByWeekNo = not (is_absent parts.by_week_no)
is_present parts part.ByMonth = not (is_absent parts.by_month)
is_present parts part.BySetPos = not (is_absent parts.by_set_pos)

-- the table: each part's values, and where they belong
abbrev pub with_part_value : ℕ → RuleParts → PartName → List ℕ → Result RuleParts Refusal
with_part_value line parts part.Freq text = ok_or (freq_named text) (BadRule line) >>= λ x. Ok (record parts { freq = Some x })
with_part_value line parts part.Until text = ok_or (basic text) (BadMoment line) >>= λ x. Ok (record parts { until = Some x })
with_part_value line parts part.Count text = number_up_to line 18_446_744_073_709_551_615 text >>= λ x. Ok (record parts { count = Some x })
with_part_value line parts part.Interval text = number_up_to line 4_294_967_295 text >>= λ x. Ok (record parts { interval = Some x })
with_part_value line parts part.WeekStart text = ok_or (weekday_named text) (BadRule line) >>= λ x. Ok (record parts { week_start = Some x })
with_part_value line parts part.BySecond text = numbers_of line second_bounds text >>= λ x. Ok (record parts { by_second = x })
with_part_value line parts part.ByMinute text = numbers_of line (unsigned_bounds 0 59) text >>= λ x. Ok (record parts { by_minute = x })
with_part_value line parts part.ByHour text = numbers_of line (unsigned_bounds 0 23) text >>= λ x. Ok (record parts { by_hour = x })
with_part_value line parts part.ByDay text = day_items_of line text >>= λ x. Ok (record parts { by_day = x })
with_part_value line parts part.ByMonthDay text = numbers_of line (signed_bounds 31) text >>= λ x. Ok (record parts { by_month_day = x })
with_part_value line parts part.ByYearDay text = numbers_of line (signed_bounds 366) text >>= λ x. Ok (record parts { by_year_day = x })
with_part_value line parts part.ByWeekNo text = numbers_of line (signed_bounds 53) text >>= λ x. Ok (record parts { by_week_no = x })
with_part_value line parts part.ByMonth text = numbers_of line (unsigned_bounds 1 12) text >>= λ x. Ok (record parts { by_month = x })
with_part_value line parts part.BySetPos text = numbers_of line (signed_bounds 366) text >>= λ x. Ok (record parts { by_set_pos = x })

-- a part NAME=value: its name, then whether it is present already, then its value
unfoldable pub with_part : ℕ → RuleParts → List ℕ → Result RuleParts Refusal
with_part line parts text = do
  sides ← ok_or (split_once 61 text) (BadRule line)
  name ← name_of line sides.0
  if is_present parts name then Err (PartTwice line) else with_part_value line parts name sides.1

-- the parts after those that are read
abbrev pub with_parts : ℕ → RuleParts → List (List ℕ) → Result RuleParts Refusal
with_parts line parts [] = Ok parts
with_parts line parts (text ∷ texts) = do
  more ← with_part line parts text
  with_parts line more texts

-- no part is read yet
abbrev pub no_parts : RuleParts
no_parts = record {
  freq = None;
  until = None;
  count = None;
  interval = None;
  week_start = None;
  by_second = [];
  by_minute = [];
  by_hour = [];
  by_day = [];
  by_month_day = [];
  by_year_day = [];
  by_week_no = [];
  by_month = [];
  by_set_pos = [];
}

-- the text without one semicolon at its end
abbrev pub without_last_semicolon : List ℕ → List ℕ
without_last_semicolon text = if bytes_eq (drop (length text - 1) text) (codes ";") then take (length text - 1) text else text

-- the parts of a rule, from left to right
unfoldable pub parts_of : ℕ → List ℕ → Result RuleParts Refusal
parts_of line text = with_parts line no_parts (pieces 59 (without_last_semicolon text))

-- ---- the rule

-- the end that UNTIL and COUNT make
abbrev pub end_of : Option Stamp → Option ℕ → Result End Refusal
end_of None None = Ok Never
end_of None (Some count) = Ok (Count count)
end_of (Some until) None = Ok (Until until.kind until.at)
end_of (Some until) (Some count) = Err UntilAndCount

-- a rule of these parts: INTERVAL is 1 and WKST Monday if they are absent
abbrev pub rule_with : Freq → End → RuleParts → Rule
rule_with freq end parts = record {
  freq = freq;
  interval = unwrap_or parts.interval 1;
  by_month = parts.by_month;
  by_week_no = parts.by_week_no;
  by_year_day = parts.by_year_day;
  by_month_day = parts.by_month_day;
  by_day = parts.by_day;
  by_hour = parts.by_hour;
  by_minute = parts.by_minute;
  by_second = parts.by_second;
  by_set_pos = parts.by_set_pos;
  week_start = unwrap_or parts.week_start 0;
  end = end;
}

-- the rule, judged after its last part
unfoldable pub rule_of : ℕ → RuleParts → Result Rule Refusal
rule_of line parts = do
  freq ← ok_or parts.freq (BadRule line)
  end ← end_of parts.until parts.count
  if is_allowed (rule_with freq end parts) then Ok (rule_with freq end parts) else Err NotAllowed

-- ---- lines

-- the parts that a rule's value states
unfoldable pub rule_parts : ℕ → List ℕ → Result RuleParts Refusal
rule_parts line text = parts_of line (line_value text)
