-- Candidates by their days and by their seconds of a day.
use Rattle.std.proofs.Common.{◌≡◌, ℕ, ◌/◌, ◌%◌, ◌<◌, Bool, true, false, ◌&&◌, ℤ, pos, refl, sym, ap, ◌∙◌, arith}
use Rattle.std.proofs.lemmas.Bool.{false≢true}
use Rattle.std.specs.Prelude.{IsTrue}
use Rattle.rr_model.specs.Moment.{day_part, second_part, moment_at}
use Rattle.rr_model.specs.Moment.Units.{unit_number, unit_seconds, is_whole_days}
use Rattle.rr_model.specs.Rule.Validity.{takes_start}
use Rattle.rr_model.specs.Rule.Filled.{wants_hour, wants_minute, wants_second, filled_rule}
use Rattle.rr_model.specs.Rule.Candidate.{allows, date_parts_hold, time_parts_hold, is_candidate}
use Rattle.rr_model.specs.Rule.DaysAndTimes.{seconds_of, time_holds, CandidatesAreDaysAndTimes}
use Rattle.rr_model.specs.declared.kind.Kind.{Kind}
use Rattle.rr_model.specs.declared.kind.Kind.TheVariants.{Days, Moments}
use Rattle.rr_model.specs.declared.rule.Freq.{Freq}
use Rattle.rr_model.specs.declared.rule.Freq.TheVariants.{Secondly, Minutely, Hourly, Daily, Weekly, Monthly, Yearly}
use Rattle.rr_model.specs.declared.rule.Rule.{Rule}
use Rattle.rr_model.proofs.WholeLemmas.{floor_whole, floor_mod_below}
use Rattle.rr_model.proofs.MomentLemmas.{day_part-moment_at, second_part-moment_at}

-- three tests hold together if each does
pub and_true : (a b c : Bool) → IsTrue a → IsTrue b → IsTrue c → IsTrue (a && b && c)
and_true a b c ha hb hc = rw (ha, hb, hc) refl

pub and_parts : (a b c : Bool) → IsTrue (a && b && c) → IsTrue a × IsTrue b × IsTrue c
and_parts true true true e = (refl, refl, refl)
and_parts true true false e = absurd (cc)
and_parts true false c e = absurd (cc)
and_parts false b c e = absurd (cc)

-- the parts of time, tested at the second of a day
abbrev pub holds_at : Rule → ℕ → Bool
holds_at rule s = allows rule.by_hour (pos (s / 3_600)) && allows rule.by_minute (pos (s / 60 % 60)) && allows rule.by_second (pos (s % 60))

pub time_parts_hold-at : (rule : Rule) (d : ℤ) (s : ℕ) → s < 86_400 → time_parts_hold rule Moments (moment_at Moments d s) ≡ holds_at rule s
time_parts_hold-at rule d s low = ap (holds_at rule) (second_part-moment_at d s low)

-- a rule of days fills each time part
pub fills_times : (freq : Freq) → is_whole_days freq ≡ true → (wants_hour freq ≡ true) × (wants_minute freq ≡ true) × (wants_second freq ≡ true)
fills_times Secondly e = absurd (cc)
fills_times Minutely e = absurd (cc)
fills_times Hourly e = absurd (cc)
fills_times Daily e = (refl, refl, refl)
fills_times Weekly e = (refl, refl, refl)
fills_times Monthly e = (refl, refl, refl)
fills_times Yearly e = (refl, refl, refl)

-- the date parts take from the start its day alone
pub date_parts_hold-day : (rule : Rule) (kind : Kind) (start d : ℤ)
    → date_parts_hold (filled_rule rule kind start) d ≡ date_parts_hold (filled_rule rule Days (day_part kind start)) d
date_parts_hold-day rule Days start d = refl
date_parts_hold-day rule Moments start d = refl

-- the unit of a moment is that of its day
pub unit_of_day : (freq : Freq) (w : ℕ) (kind : Kind) (t : ℤ) → is_whole_days freq ≡ true
    → unit_number freq w kind t ≡ unit_number freq w Days (day_part kind t)
unit_of_day Secondly w kind t e = absurd (cc)
unit_of_day Minutely w kind t e = absurd (cc)
unit_of_day Hourly w kind t e = absurd (cc)
unit_of_day Daily w kind t e = refl
unit_of_day Weekly w kind t e = refl
unit_of_day Monthly w kind t e = refl
unit_of_day Yearly w kind t e = refl

pub day_at : (kind : Kind) (d : ℤ) (s : ℕ) → s < seconds_of kind → day_part kind (moment_at kind d s) ≡ d
day_at Days d s low = refl
day_at Moments d s low = day_part-moment_at d s low

time_at : (rule : Rule) (kind : Kind) (start d : ℤ) (s : ℕ) → s < seconds_of kind
    → time_parts_hold (filled_rule rule kind start) kind (moment_at kind d s) ≡ time_holds rule kind start s
time_at rule Days start d s low = refl
time_at rule Moments start d s low = time_parts_hold-at (filled_rule rule Moments start) d s low
    ∙ sym (time_parts_hold-at (filled_rule rule Moments start) (pos 0) s low)

pub candidates_are_days_and_times : CandidatesAreDaysAndTimes
unfolding is_candidate
candidates_are_days_and_times rule kind start d s coarse low =
    let at = day_at kind d s low in
    let unit = unit_of_day rule.freq rule.week_start kind (moment_at kind d s) coarse ∙ ap (unit_number rule.freq rule.week_start Days) at in
    rw (unit, unit_of_day rule.freq rule.week_start kind start coarse, at, date_parts_hold-day rule kind start d, time_at rule kind start d s low) refl

-- beside a date each valid rule is one of whole days
pub takes_start-days : (freq : Freq) → takes_start freq Days ≡ is_whole_days freq
takes_start-days Secondly = refl
takes_start-days Minutely = refl
takes_start-days Hourly = refl
takes_start-days Daily = refl
takes_start-days Weekly = refl
takes_start-days Monthly = refl
takes_start-days Yearly = refl

pub second_at : (kind : Kind) (d : ℤ) (s : ℕ) → s < seconds_of kind → second_part kind (moment_at kind d s) ≡ s
second_at Days d s low = omega (arith, low)
second_at Moments d s low = second_part-moment_at d s low

pub second_part-below : (kind : Kind) (t : ℤ) → second_part kind t < seconds_of kind
second_part-below Days t = omega arith
second_part-below Moments t = floor_mod_below t 86_400 (omega arith)

-- a moment is the second of a day
pub moment_is : (kind : Kind) (t : ℤ) → t ≡ moment_at kind (day_part kind t) (second_part kind t)
moment_is Days t = refl
moment_is Moments t = floor_whole t 86_400 (omega arith)

-- a valid rule whose units are shorter than a day chooses moments
pub only_moments : (freq : Freq) (kind : Kind) → IsTrue (takes_start freq kind) → is_whole_days freq ≡ false → kind ≡ Moments
only_moments freq Moments t f = refl
only_moments freq Days t f = absurd (false≢true (sym f ∙ sym (takes_start-days freq) ∙ t))

-- each unit has some seconds
pub unit_some : (freq : Freq) → 0 < unit_seconds freq
unit_some Secondly = omega arith
unit_some Minutely = omega arith
unit_some Hourly = omega arith
unit_some Daily = omega arith
unit_some Weekly = omega arith
unit_some Monthly = omega arith
unit_some Yearly = omega arith
