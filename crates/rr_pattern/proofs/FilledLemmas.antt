-- A rule whose parts name its days takes no date part from the start.
use Rattle.std.proofs.Common.{◌≡◌, ℕ, Bool, true, not, ◌&&◌, List, [], ◌∷◌, ℤ, refl}
use Rattle.rr_model.specs.Rule.Validity.{is_absent}
use Rattle.rr_model.specs.Rule.Filled.{filled_rule}
use Rattle.rr_model.specs.Rule.Candidate.{date_parts_hold}
use Rattle.rr_model.specs.declared.kind.Kind.TheVariants.{Days}
use Rattle.rr_model.specs.declared.rule.DayItem.{DayItem}
use Rattle.rr_model.specs.declared.rule.End.{End}
use Rattle.rr_model.specs.declared.rule.Freq.{Freq}
use Rattle.rr_model.specs.declared.rule.Freq.TheVariants.{Secondly, Minutely, Hourly, Daily, Weekly, Monthly, Yearly}
use Rattle.rr_model.specs.declared.rule.Rule.{Rule}

-- the rule of these parts
abbrev pub rule_of : Freq → ℕ → List ℤ → List ℤ → List ℤ → List DayItem → List ℤ → ℕ → End → Rule
rule_of freq interval months year_days month_days days positions week_start end = record {
  freq = freq;
  interval = interval;
  by_month = months;
  by_week_no = [];
  by_year_day = year_days;
  by_month_day = month_days;
  by_day = days;
  by_hour = [];
  by_minute = [];
  by_second = [];
  by_set_pos = positions;
  week_start = week_start;
  end = end;
}

-- the parts name the days of a rule of this frequency
abbrev pub names_days : Freq → List ℤ → List ℤ → List DayItem → Bool
names_days Weekly year_days month_days days = not (is_absent days)
names_days Monthly year_days month_days days = not (is_absent month_days && is_absent days)
names_days Yearly year_days month_days days = not (is_absent year_days && is_absent month_days && is_absent days)
names_days freq year_days month_days days = true

module _ (interval : ℕ) (months positions : List ℤ) (w : ℕ) (end : End) (start d : ℤ) where
  pub filled_same : (freq : Freq) (ys ms : List ℤ) (ds : List DayItem) → names_days freq ys ms ds ≡ true
      → date_parts_hold (filled_rule (rule_of freq interval months ys ms ds positions w end) Days start) d
      ≡ date_parts_hold (rule_of freq interval months ys ms ds positions w end) d
  filled_same Secondly ys ms ds e = refl
  filled_same Minutely ys ms ds e = refl
  filled_same Hourly ys ms ds e = refl
  filled_same Daily ys ms ds e = refl
  filled_same Weekly ys ms [] e = absurd (cc)
  filled_same Weekly ys ms (x ∷ ds) e = refl
  filled_same Monthly ys [] [] e = absurd (cc)
  filled_same Monthly ys (m ∷ ms) [] e = refl
  filled_same Monthly ys [] (x ∷ ds) e = refl
  filled_same Monthly ys (m ∷ ms) (x ∷ ds) e = refl
  filled_same Yearly [] [] [] e = absurd (cc)
  filled_same Yearly [] (m ∷ ms) [] e = refl
  filled_same Yearly [] [] (x ∷ ds) e = refl
  filled_same Yearly [] (m ∷ ms) (x ∷ ds) e = refl
  filled_same Yearly (y ∷ ys) [] [] e = refl
  filled_same Yearly (y ∷ ys) (m ∷ ms) [] e = refl
  filled_same Yearly (y ∷ ys) [] (x ∷ ds) e = refl
  filled_same Yearly (y ∷ ys) (m ∷ ms) (x ∷ ds) e = refl
