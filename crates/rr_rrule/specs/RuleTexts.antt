-- The text of a rule in three stretches (RFC 5545, section 3.3.10).
use Rattle.std.specs.Prelude.{ℕ, ◌==◌, List, ◌++◌, codes, map}
use Rattle.std.specs.Fmt.{decimal, signed_decimal}
use Rattle.std.specs.List.{join_with_byte}
use Rattle.rr_model.specs.Text.Written.{day_item_text, end_text, freq_text, list_part, part_unless, weekday_text}
use Rattle.rr_model.specs.declared.rule.Rule.{Rule}

-- the values of a part as they are written, with commas between them
abbrev pub comma_list : {X : Type 0} → (X → List ℕ) → List X → List ℕ
comma_list text values = join_with_byte 44 (map text values)

-- INTERVAL, unless it is 1
abbrev pub interval_part : ℕ → List ℕ
interval_part interval = part_unless (interval == 1) (codes "INTERVAL") (decimal interval)

-- WKST, unless it is Monday
abbrev pub week_start_part : ℕ → List ℕ
week_start_part week_start = part_unless (week_start == 0) (codes "WKST") (weekday_text week_start)

-- how often the rule repeats, up to where, and with which weeks
abbrev pub repetition_text : Rule → List ℕ
repetition_text rule =
    codes "FREQ=" ++ freq_text rule.freq ++ end_text rule.end
    ++ interval_part rule.interval ++ week_start_part rule.week_start

-- the parts that say on which days
abbrev pub date_parts_text : Rule → List ℕ
date_parts_text rule =
    list_part (codes "BYMONTH") signed_decimal rule.by_month
    ++ list_part (codes "BYWEEKNO") signed_decimal rule.by_week_no
    ++ list_part (codes "BYYEARDAY") signed_decimal rule.by_year_day
    ++ list_part (codes "BYMONTHDAY") signed_decimal rule.by_month_day
    ++ list_part (codes "BYDAY") day_item_text rule.by_day

-- the parts that say at which times, and which of all
abbrev pub time_parts_text : Rule → List ℕ
time_parts_text rule =
    list_part (codes "BYHOUR") signed_decimal rule.by_hour
    ++ list_part (codes "BYMINUTE") signed_decimal rule.by_minute
    ++ list_part (codes "BYSECOND") signed_decimal rule.by_second
    ++ list_part (codes "BYSETPOS") signed_decimal rule.by_set_pos
