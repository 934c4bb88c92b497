-- After how many days a rule's chosen moments repeat (RFC 5545, section 3.3.10), from its text alone.
use Rattle.std.specs.Prelude.{ℕ, ◌*◌, ◌/◌, Bool, not, ◌&&◌, if◌then◌else◌}
use Rattle.rr_model.specs.Whole.Divisors.{gcd, lcm}
use Rattle.rr_model.specs.Rule.Validity.{is_absent}
use Rattle.rr_model.specs.declared.rule.Freq.{Freq}
use Rattle.rr_model.specs.declared.rule.Freq.TheVariants.{Secondly, Minutely, Hourly, Daily, Weekly, Monthly, Yearly}
use Rattle.rr_model.specs.declared.rule.Rule.{Rule}

-- after how many days every n-th unit of a frequency stands again at the same offset of a day, which has 86,400 seconds
-- (SECONDLY, MINUTELY, HOURLY), or of 400 years, which have 146,097 days (MONTHLY, YEARLY); every n-th day does after n days,
-- every n-th week after 7 * n
abbrev pub interval_cycle : Freq → ℕ → ℕ
interval_cycle Secondly n = n / gcd n 86_400
interval_cycle Minutely n = n / gcd n 1_440
interval_cycle Hourly n = n / gcd n 24
interval_cycle Daily n = n
interval_cycle Weekly n = 7 * n
interval_cycle Monthly n = 146_097 * (n / gcd n 4_800)
interval_cycle Yearly n = 146_097 * (n / gcd n 400)

-- the rule has a part whose days follow the calendar's years
abbrev pub asks_calendar : Rule → Bool
asks_calendar rule =
    not (is_absent rule.by_month && is_absent rule.by_month_day && is_absent rule.by_year_day && is_absent rule.by_week_no)

-- after how many days the parts that are present repeat: weekdays after 7, and the calendar after 400 years
abbrev pub parts_cycle : Rule → ℕ
parts_cycle rule = lcm (if is_absent rule.by_day then 1 else 7) (if asks_calendar rule then 146_097 else 1)

-- the cycle of a rule, in days
abbrev pub rule_cycle : Rule → ℕ
rule_cycle rule = lcm (interval_cycle rule.freq rule.interval) (parts_cycle rule)
