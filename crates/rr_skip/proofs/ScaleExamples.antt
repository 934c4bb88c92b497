-- Worked texts whose rule has RSCALE, and their refusals (RFC 7529, section 4).
use Rattle.std.proofs.Common.{◌≡◌, ℕ, List, [], ◌∷◌, ◌++◌, neg_ℤ, ℤ, pos, refl}
use Rattle.std.specs.Prelude.{codes, None, Some, Ok, Err}
use Rattle.rr_model.specs.Calendar.{day_number, first_day_of_year, days_of_months, year_of, days_into_year, months_over, month_of, day_of_month}
use Rattle.rr_model.specs.Rule.Plain.{plain_rule}
use Rattle.rr_model.specs.Text.Moments.{is_digits, number_at, basic, basic_date, basic_time, basic_moment}
use Rattle.rr_model.specs.Text.RuleValues.{freq_named, weekday_named, number_up_to}
use Rattle.rr_rule_parts.specs.Values.{number_within, numbers_of}
use Rattle.rr_model.specs.Text.Rules.{line_value}
use Rattle.rr_rule_parts.specs.Rules.{part_named}
use Rattle.rr_model.specs.Text.Event.{left_by, event_scan}
use Rattle.rr_model.specs.Text.Lines.{physical_lines, unfolded_lines}
use Rattle.rr_model.specs.Text.UsedLines.{value_of_line, line_kind}
use Rattle.rr_model.specs.declared.kind.Kind.{Kind}
use Rattle.rr_model.specs.declared.kind.Kind.TheVariants.{Days, Moments}
use Rattle.rr_model.specs.declared.refusal.Refusal.{Refusal}
use Rattle.rr_model.specs.declared.refusal.Refusal.TheVariants.{NoStart, BadMoment, BadRule, PartTwice, TooManyParts, NumberRange, UntilAndCount, UntilKind}
use Rattle.rr_model.specs.declared.refusal.Refusal.TheVariants.{UntilBeforeStart, NotSynchronised, UtcMoment, Extended}
use Rattle.rr_model.specs.declared.rule.End.TheVariants.{Until, Count}
use Rattle.rr_model.specs.declared.rule.Freq.TheVariants.{Monthly, Yearly}
use Rattle.rr_skip.specs.Months.{is_day_chosen}
use Rattle.rr_skip.specs.Parts.{scale_part_named, with_scale, skip_named, front_days, with_scale_part, scale_parts_of, skip_rule_of, scale_parts}
use Rattle.rr_skip.specs.Reading.{stated_skip, skip_rule_beside, skip_scan, skip_text}
use Rattle.rr_skip.specs.declared.series.Skip.TheVariants.{Omit, Backward, Forward}
use Rattle.rr_skip.specs.declared.series.SkipRule.{SkipRule}
use Rattle.rr_skip.specs.declared.series.SkipSeries.{SkipSeries}

abbrev line_of : List ℕ → List ℕ → List ℕ
line_of name value = name ++ value ++ 10 ∷ []

abbrev text : List ℕ → List ℕ → List ℕ
text start rule = line_of (codes "DTSTART:") start ++ line_of (codes "RRULE:") rule

abbrev series_of : Kind → ℤ → SkipRule → SkipSeries
series_of kind start rule = record { kind = kind; start = start; rule = Some rule }

read_values :
    (skip_text None (text (codes "20240131") (codes "RSCALE=GREGORIAN;FREQ=MONTHLY"))
    ≡ Ok (series_of Days (pos 19_753) (record { skip = Omit; rule = plain_rule Monthly 1 })))
    × (skip_text None (text (codes "20240131") (codes " skip=backward;freq=monthly;rscale=gregorian;wkst=su;bymonthday=31,+29,31; "))
    ≡ Ok (series_of Days (pos 19_753)
    (record { skip = Backward; rule = record (plain_rule Monthly 1) { by_month_day = pos 29 ∷ pos 31 ∷ []; week_start = 6 } })))
    × (skip_text (Some (pos 3_600)) (text (codes "20240131T093000") (codes "RSCALE=GREGORIAN;FREQ=MONTHLY;SKIP=FORWARD;UNTIL=20240229T083000Z"))
    ≡ Ok (series_of Moments (pos 1_706_693_400) (record { skip = Forward; rule = record (plain_rule Monthly 1) { end = Until Moments (pos 1_709_199_000) } })))
    × (skip_text None (text (codes "20250301") (codes "RSCALE=GREGORIAN;FREQ=YEARLY;SKIP=FORWARD;BYMONTH=2;BYMONTHDAY=29;COUNT=2"))
    ≡ Ok (series_of Days (pos 20_148)
    (record { skip = Forward; rule = record (plain_rule Yearly 1) { by_month = pos 2 ∷ []; by_month_day = pos 29 ∷ []; end = Count 2 } })))
    × (skip_text None (line_of (codes "DTSTART:") (codes "20240131")) ≡ Ok (record { kind = Days; start = pos 19_753; rule = None }))
unfolding day_number first_day_of_year days_of_months is_digits number_at basic basic_date basic_time basic_moment freq_named weekday_named number_up_to
    number_within numbers_of part_named scale_part_named with_scale skip_named front_days with_scale_part scale_parts_of skip_rule_of scale_parts line_value
    physical_lines unfolded_lines value_of_line line_kind left_by event_scan stated_skip skip_rule_beside skip_scan skip_text
    is_day_chosen year_of days_into_year months_over month_of day_of_month
read_values = (refl, refl, refl, refl, refl)

abbrev refused : List ℕ → Refusal → Type 0
refused rule refusal = skip_text None (text (codes "20240131") rule) ≡ Err refusal

-- of one part
refusals_of_parts :
    refused (codes "RSCALE=HEBREW;FREQ=X") Extended
    × refused (codes "FREQ=X;RSCALE=HEBREW") (BadRule 2)
    × refused (codes "RSCALE=A_B;FREQ=MONTHLY") (BadRule 2)
    × refused (codes "RSCALE=;FREQ=MONTHLY") (BadRule 2)
    × refused (codes "RSCALE=GREGORIAN;RSCALE=HEBREW") (PartTwice 2)
    × refused (codes "RSCALE=GREGORIAN;SKIP=NEVER;FREQ=MONTHLY") (BadRule 2)
    × refused (codes "RSCALE=GREGORIAN;SKIP=OMIT;SKIP=NEVER") (PartTwice 2)
    × refused (codes "RSCALE=GREGORIAN;FREQ=MONTHLY;BYDAY=XX") Extended
    × refused (codes "RSCALE=GREGORIAN;FREQ=MONTHLY;BYSETPOS=0") Extended
    × refused (codes "RSCALE=GREGORIAN;FREQ=MONTHLY;BYMONTHDAY=-1,40") Extended
    × refused (codes "RSCALE=GREGORIAN;FREQ=MONTHLY;BYMONTHDAY=40,-1") (NumberRange 2)
    × refused (codes "RSCALE=GREGORIAN;FREQ=MONTHLY;BYMONTHDAY=-1,x") (BadRule 2)
    × refused (codes "RSCALE=GREGORIAN;FREQ=MONTHLY;BYMONTHDAY=0") (NumberRange 2)
    × refused (codes "RSCALE=GREGORIAN;FREQ=MONTHLY;BYMONTHDAY=31;BYMONTHDAY=-1") (PartTwice 2)
unfolding day_number first_day_of_year days_of_months is_digits number_at basic basic_date basic_time basic_moment freq_named weekday_named number_up_to
    number_within numbers_of part_named scale_part_named with_scale skip_named front_days with_scale_part scale_parts_of skip_rule_of scale_parts line_value
    physical_lines unfolded_lines value_of_line line_kind left_by event_scan stated_skip skip_rule_beside skip_scan skip_text
    is_day_chosen year_of days_into_year months_over month_of day_of_month
refusals_of_parts = (refl, refl, refl, refl, refl, refl, refl, refl, refl, refl, refl, refl, refl, refl)

-- after the last part, and beside the start
refusals_of_rules :
    refused (codes "RSCALE=GREGORIAN;INTERVAL=2") (BadRule 2)
    × refused (codes "COUNT=2;UNTIL=20240201") (BadRule 2)
    × refused (codes "FREQ=DAILY;COUNT=2;UNTIL=20240201") UntilAndCount
    × refused (codes "FREQ=DAILY") Extended
    × refused (codes "FREQ=MONTHLY;SKIP=FORWARD") Extended
    × refused (codes "RSCALE=GREGORIAN;FREQ=WEEKLY") Extended
    × refused (codes "RSCALE=GREGORIAN;FREQ=MONTHLY;UNTIL=20240101T000000") UntilKind
    × refused (codes "RSCALE=GREGORIAN;FREQ=MONTHLY;UNTIL=20240101;BYMONTHDAY=30") UntilBeforeStart
    × refused (codes "RSCALE=GREGORIAN;FREQ=MONTHLY;BYMONTHDAY=30") (NotSynchronised 1)
    × refused (codes "RSCALE=GREGORIAN;FREQ=MONTHLY;COUNT=0;COUNT=1") (NumberRange 2)
    × refused (codes "RSCALE=GREGORIAN;FREQ=MONTHLY;INTERVAL=2;BYMONTH=2;SKIP=BACKWARD") (NotSynchronised 1)
unfolding day_number first_day_of_year days_of_months is_digits number_at basic basic_date basic_time basic_moment freq_named weekday_named number_up_to
    number_within numbers_of part_named scale_part_named with_scale skip_named front_days with_scale_part scale_parts_of skip_rule_of scale_parts line_value
    physical_lines unfolded_lines value_of_line line_kind left_by event_scan stated_skip skip_rule_beside skip_scan skip_text
    is_day_chosen year_of days_into_year months_over month_of day_of_month
refusals_of_rules = (refl, refl, refl, refl, refl, refl, refl, refl, refl, refl, refl)

abbrev plain : List ℕ
plain = codes "RSCALE=GREGORIAN;FREQ=MONTHLY"

refusals_of_lines :
    (skip_text None (text (codes "20240131") plain ++ line_of (codes "RRULE:") (codes "nothing")) ≡ Err TooManyParts)
    × (skip_text None (text (codes "20240131") plain ++ line_of (codes "RDATE:") (codes "nothing")) ≡ Err Extended)
    × (skip_text None (text (codes "20240131") plain ++ line_of (codes "EXDATE:") (codes "nothing")) ≡ Err Extended)
    × (skip_text None (text (codes "20240131") plain ++ line_of (codes "EXRULE:") (codes "nothing")) ≡ Err Extended)
    × (skip_text None (line_of (codes "EXRULE:") plain ++ line_of (codes "RRULE:") (codes "nothing")) ≡ Err Extended)
    × (skip_text None (line_of (codes "RRULE:") (codes "nothing") ++ line_of (codes "EXRULE:") plain) ≡ Err (BadRule 1))
    × (skip_text None (line_of (codes "RDATE:") (codes "x") ++ line_of (codes "DTSTART:") (codes "bad")) ≡ Err Extended)
    × (skip_text None (line_of (codes "DTSTART:") (codes "bad") ++ line_of (codes "RDATE:") (codes "x")) ≡ Err (BadMoment 1))
    × (skip_text None (line_of (codes "RRULE:") (codes "SKIP=NEVER") ++ line_of (codes "DTSTART:") (codes "bad")) ≡ Err (BadRule 1))
    × (skip_text None (text (codes "20240131") plain ++ line_of (codes "DTSTART:") (codes "bad")) ≡ Err (PartTwice 3))
    × (skip_text None (line_of (codes "RRULE:") plain) ≡ Err NoStart)
    × (skip_text None (text (codes "20240131T000000") (plain ++ codes ";UNTIL=20240301Z")) ≡ Err (BadMoment 2))
    × (skip_text None (text (codes "20240131T000000") (plain ++ codes ";UNTIL=00010101T000000Z")) ≡ Err UtcMoment)
    × (skip_text (Some (neg_ℤ (pos 3_600))) (text (codes "20240131T000000") (plain ++ codes ";UNTIL=00010101T000000Z")) ≡ Err (BadMoment 2))
unfolding day_number first_day_of_year days_of_months is_digits number_at basic basic_date basic_time basic_moment freq_named weekday_named number_up_to
    number_within numbers_of part_named scale_part_named with_scale skip_named front_days with_scale_part scale_parts_of skip_rule_of scale_parts line_value
    physical_lines unfolded_lines value_of_line line_kind left_by event_scan stated_skip skip_rule_beside skip_scan skip_text
    is_day_chosen year_of days_into_year months_over month_of day_of_month
refusals_of_lines = (refl, refl, refl, refl, refl, refl, refl, refl, refl, refl, refl, refl, refl, refl)
