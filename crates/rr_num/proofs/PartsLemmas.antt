-- After how many days the parts of a rule repeat, whichever stand.
use Rattle.std.proofs.Common.{◌≡◌, ℕ, Bool, true, false, ap, ◌∙◌, refl}
use Rattle.std.specs.Prelude.{if◌then◌else◌}
use Rattle.rr_model.specs.Whole.Divisors.{gcd_within, gcd, lcm}
use Rattle.rr_model.specs.Rule.Cycle.{asks_calendar, parts_cycle}
use Rattle.rr_model.specs.Rule.Validity.{is_absent}
use Rattle.rr_model.specs.declared.rule.Rule.{Rule}

abbrev pub one_or_seven : Bool → ℕ
one_or_seven b = if b then 1 else 7

-- 146,097 days are whole weeks
whole_weeks : (b : Bool) → lcm (one_or_seven b) 146_097 ≡ 146_097
unfolding lcm gcd gcd_within
whole_weeks true = refl
whole_weeks false = refl

weekdays_alone : (b : Bool) → lcm (one_or_seven b) 1 ≡ one_or_seven b
unfolding lcm gcd gcd_within
weekdays_alone true = refl
weekdays_alone false = refl

pub parts_calendar : (r : Rule) → asks_calendar r ≡ true → parts_cycle r ≡ 146_097
parts_calendar r e = ap (λ b. lcm (one_or_seven (is_absent r.by_day)) (if b then 146_097 else 1)) e ∙ whole_weeks (is_absent r.by_day)

pub parts_weekdays : (r : Rule) → asks_calendar r ≡ false → parts_cycle r ≡ one_or_seven (is_absent r.by_day)
parts_weekdays r e = ap (λ b. lcm (one_or_seven (is_absent r.by_day)) (if b then 146_097 else 1)) e ∙ weekdays_alone (is_absent r.by_day)
