-- The value of a rule that may have RSCALE and SKIP, judged from left to right (RFC 7529, section 4).
use Rattle.std.specs.Prelude.{ℕ, nat_lt, Bool, true, false, ◌&&◌, if◌then◌else◌, ℤ, pos, int_lt, List, [], ◌∷◌, length, codes, Option, None, Some}
use Rattle.std.specs.Prelude.{ok_or, unwrap_or, Result, Ok, Err}
use Rattle.std.specs.List.{list_all}
use Rattle.std.specs.Option.{is_some}
use Rattle.std.specs.Str.{bytes_eq}
use Rattle.rr_model.specs.Text.RuleValues.{◌>>=◌, pieces, in_table, list_of}
use Rattle.rr_rule_parts.specs.Values.{has_number_form, number_within, signed_bounds}
use Rattle.rr_model.specs.Text.Rules.{split_once, line_value}
use Rattle.rr_rule_parts.specs.Rules.{part_named, is_present, with_part_value, no_parts, without_last_semicolon, end_of, rule_with}
use Rattle.rr_model.specs.Text.Steps.{in_turn}
use Rattle.rr_model.specs.Text.UsedLines.{is_name_byte}
use Rattle.rr_model.specs.declared.refusal.Refusal.{Refusal}
use Rattle.rr_model.specs.declared.refusal.Refusal.TheVariants.{BadRule, PartTwice, Extended}
use Rattle.rr_model.specs.declared.rule.Freq.{Freq}
use Rattle.rr_rule_parts.specs.declared.rule_parts.PartName.{PartName}
use Rattle.rr_rule_parts.specs.declared.rule_parts.PartName.TheVariants as part
use Rattle.rr_rule_parts.specs.declared.rule_parts.RuleParts.{RuleParts}
use Rattle.rr_skip.specs.Validity.{takes_skip}
use Rattle.rr_skip.specs.declared.parts.ScalePart.{ScalePart}
use Rattle.rr_skip.specs.declared.parts.ScalePart.TheVariants.{Scale, Skipping, Of}
use Rattle.rr_skip.specs.declared.parts.ScaledParts.{ScaledParts}
use Rattle.rr_skip.specs.declared.series.Skip.{Skip}
use Rattle.rr_skip.specs.declared.series.Skip.TheVariants.{Omit, Backward, Forward}
use Rattle.rr_skip.specs.declared.series.SkipRule.{SkipRule}

-- ---- names

-- beside RSCALE and SKIP these parts of RFC 5545 are read
abbrev pub is_taken : PartName → Bool
is_taken part.Freq = true
is_taken part.Until = true
is_taken part.Count = true
is_taken part.Interval = true
is_taken part.WeekStart = true
is_taken part.ByMonthDay = true
is_taken part.ByMonth = true
is_taken name = false

-- a part of RFC 5545, if it is read
abbrev pub taken_part : PartName → Result ScalePart Refusal
taken_part name = if is_taken name then Ok (Of name) else Err Extended

-- the part that a name names
unfoldable pub scale_part_named : ℕ → List ℕ → Result ScalePart Refusal
scale_part_named line name =
    if bytes_eq name (codes "RSCALE") then Ok Scale
    else (if bytes_eq name (codes "SKIP") then Ok Skipping else (ok_or (part_named name) (BadRule line) >>= λ part. taken_part part))

-- the part is present among the parts read
abbrev pub has_scale_part : ScaledParts → ScalePart → Bool
has_scale_part parts Scale = parts.has_scale
has_scale_part parts Skipping = is_some parts.skip
has_scale_part parts (Of name) = is_present parts.parts name

-- ---- values

-- a calendar is named by letters, digits and `-`
abbrev pub is_scale_name : List ℕ → Bool
is_scale_name text = nat_lt 0 (length text) && list_all is_name_byte text

-- the Gregorian calendar is the one that is read
unfoldable pub with_scale : ℕ → ScaledParts → List ℕ → Result ScaledParts Refusal
with_scale line parts text =
    if is_scale_name text then (if bytes_eq text (codes "GREGORIAN") then Ok (record parts { has_scale = true }) else Err Extended)
    else Err (BadRule line)

-- a value of SKIP
unfoldable pub skip_named : List ℕ → Option Skip
skip_named text = in_table ((codes "OMIT", Omit) ∷ (codes "BACKWARD", Backward) ∷ (codes "FORWARD", Forward) ∷ []) text

-- a day of the month from the front
abbrev pub front_day : ℕ → List ℕ → Result ℤ Refusal
front_day line text = number_within line (signed_bounds 31) text >>= λ k. if int_lt k (pos 0) then Err Extended else Ok k

-- the days of BYMONTHDAY, each of them from the front of the month
unfoldable pub front_days : ℕ → List ℕ → Result (List ℤ) Refusal
front_days line text = list_of line (has_number_form (signed_bounds 31)) int_lt (front_day line) text

-- the parts of RFC 5545 with one more, by its value; the days of BYMONTHDAY have to count from the front
abbrev pub with_taken_value : ℕ → RuleParts → PartName → List ℕ → Result RuleParts Refusal
with_taken_value line parts part.ByMonthDay text = front_days line text >>= λ days. Ok (record parts { by_month_day = days })
with_taken_value line parts name text = with_part_value line parts name text

-- the parts with the value of one more
abbrev pub with_scale_value : ℕ → ScaledParts → ScalePart → List ℕ → Result ScaledParts Refusal
with_scale_value line parts Scale text = with_scale line parts text
with_scale_value line parts Skipping text = ok_or (skip_named text) (BadRule line) >>= λ skip. Ok (record parts { skip = Some skip })
with_scale_value line parts (Of name) text = with_taken_value line parts.parts name text >>= λ more. Ok (record parts { parts = more })

-- ---- parts

-- a part NAME=value: its name, then whether it is present already, then its value
unfoldable pub with_scale_part : ℕ → ScaledParts → List ℕ → Result ScaledParts Refusal
with_scale_part line parts text = do
  sides ← ok_or (split_once 61 text) (BadRule line)
  name ← scale_part_named line sides.0
  if has_scale_part parts name then Err (PartTwice line) else with_scale_value line parts name sides.1

-- no part is read yet
abbrev pub no_scale_parts : ScaledParts
no_scale_parts = record { has_scale = false; skip = None; parts = no_parts }

-- the parts of a rule, from left to right
unfoldable pub scale_parts_of : ℕ → List ℕ → Result ScaledParts Refusal
scale_parts_of line text = in_turn (with_scale_part line) no_scale_parts (pieces 59 (without_last_semicolon text))

-- ---- the rule

-- RSCALE is present, and the frequency is read
abbrev pub is_scaled : ScaledParts → Freq → Bool
is_scaled parts freq = parts.has_scale && takes_skip freq

-- the rule, judged after its last part; without SKIP a day that a month lacks is left out
unfoldable pub skip_rule_of : ℕ → ScaledParts → Result SkipRule Refusal
skip_rule_of line parts = do
  freq ← ok_or parts.parts.freq (BadRule line)
  end ← end_of parts.parts.until parts.parts.count
  if is_scaled parts freq then Ok (record { skip = unwrap_or parts.skip Omit; rule = rule_with freq end parts.parts }) else Err Extended

-- the parts that a line's value states
unfoldable pub scale_parts : ℕ → List ℕ → Result ScaledParts Refusal
scale_parts line text = scale_parts_of line (line_value text)
