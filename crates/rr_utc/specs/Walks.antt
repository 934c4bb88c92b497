-- When a walk over days decides whether two series have the same moments for ever (RFC 5545, section 3.3.5).
use Rattle.std.specs.Prelude.{◌≡◌, ℕ, ◌<◌, ◌≤◌, ⊤, [], Option, None, Some, ℤ, pos, ◌+ℤ◌, ◌*ℤ◌, ◌≤ℤ◌, ◌<ℤ◌}
use Rattle.std.specs.Int.{◌∣◌}
use Rattle.rr_model.specs.Moment.{Occurrences}
use Rattle.rr_model.specs.Sets.Sketch.{times_on}
use Rattle.rr_model.specs.Sets.Verdict.{HaveEqualOccurrences}
use Rattle.rr_model.specs.Whole.Divisors.{lcm}
use Rattle.rr_model.specs.declared.kind.Kind.TheVariants.{Moments}
use Rattle.rr_model.specs.declared.sketch.Sketch.{Sketch}
use Rattle.rr_model.specs.declared.verdict.Verdict.{Verdict}
use Rattle.rr_model.specs.declared.verdict.Verdict.TheVariants.{Yes, No}
use Rattle.rr_true.specs.Near.{IsNear}
use Rattle.rr_utc.specs.Between.{AgreeBefore, AgreeBetween, IsFirstBetween}
use Rattle.rr_utc.specs.declared.only.Only.{Only}
use Rattle.rr_utc.specs.declared.walk.Look.{Look}
use Rattle.rr_utc.specs.declared.walk.Look.TheVariants.{Found, Same}

-- the most days of a common cycle that are walked
abbrev pub longest_walk : ℕ
longest_walk = 100_000_000

-- series with these periods, and the rules of zones, repeat together only after more days than are walked: rules of a zone repeat after 400 years
abbrev pub IsLong : ℕ → ℕ → Type 0
IsLong p r = longest_walk < lcm (lcm p r) 146_097

-- the two series and the rules of zones repeat together only after more days than are walked
abbrev pub IsLongWalk : Sketch → Sketch → Type 0
IsLongWalk s u = IsLong s.period u.period

-- what a verdict names is near 1970-01-01
abbrev pub NamesNear : Verdict → Type 0
NamesNear Yes = ⊤
NamesNear (No kind at side) = IsNear at

-- the verdict of what is found
abbrev pub verdict_of : Option Only → Verdict
verdict_of None = Yes
verdict_of (Some only) = No Moments only.at only.side

-- what agrees before this moment agrees for ever
abbrev pub LastsFrom : Occurrences → Occurrences → ℤ → Type 0
LastsFrom P Q end = AgreeBefore P Q end → HaveEqualOccurrences P Q

-- no day before this one is occupied
abbrev pub HasNoDayBefore : Sketch → ℤ → Type 0
HasNoDayBefore s day = (d : ℤ) → d <ℤ day → times_on s d ≡ []

-- no day from this one on is occupied
abbrev pub HasNoDayFrom : Sketch → ℤ → Type 0
HasNoDayFrom s day = (d : ℤ) → day ≤ℤ d → times_on s d ≡ []

-- n days are a common cycle of both periods and of the zones' rules, and not too many to be walked
pub record IsCommonCycle (p r zones n : ℕ) : Type 0 where
  pub some : 1 ≤ n
  pub of_first : p ∣ n
  pub of_second : r ∣ n
  pub of_zones : zones ∣ n
  pub few : n ≤ longest_walk

-- what the days of UTC from one on and before another show: the first moment of the first day that one side alone has, or up to which later
-- day the two agree
abbrev pub IsLook : Occurrences → Occurrences → ℤ → ℤ → Look → Type 0
IsLook P Q day end (Found only) = IsFirstBetween P Q (day *ℤ pos 86_400) ((day +ℤ pos 1) *ℤ pos 86_400) (Some only)
IsLook P Q day end (Same next) = (day <ℤ next) × (next ≤ℤ end) × AgreeBetween P Q (day *ℤ pos 86_400) (next *ℤ pos 86_400)
