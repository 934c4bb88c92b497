-- A rule of a frequency and an interval alone (RFC 5545, section 3.3.10, FREQ and INTERVAL).
use Rattle.std.specs.Prelude.{ℕ, []}
use Rattle.rr_model.specs.declared.rule.End.TheVariants.{Never}
use Rattle.rr_model.specs.declared.rule.Freq.{Freq}
use Rattle.rr_model.specs.declared.rule.Rule.{Rule}

-- the rule without a BY part and without an end, with weeks from Monday on
abbrev pub plain_rule : Freq → ℕ → Rule
plain_rule freq interval = record {
  freq = freq;
  interval = interval;
  by_month = [];
  by_week_no = [];
  by_year_day = [];
  by_month_day = [];
  by_day = [];
  by_hour = [];
  by_minute = [];
  by_second = [];
  by_set_pos = [];
  week_start = 0;
  end = Never;
}
