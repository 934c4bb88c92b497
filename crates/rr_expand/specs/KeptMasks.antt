-- Masks of years that are kept, and the year in which the last day lay that was asked for.
use Rattle.std.specs.Prelude.{◌≡◌, ℕ, Bool, true, false, IsTrue, not, ◌&&◌, List, length, get_or, Option, Some, None, int_lt, ℤ, pos, nat_abs, ◌+ℤ◌, ◌-ℤ◌, ◌≤ℤ◌, ◌<ℤ◌}
use Rattle.rr_model.specs.Calendar.{IsDayWithin, first_day_of_year}
use Rattle.rr_model.specs.Rising.Sets.{IsSetOf}
use Rattle.rr_model.specs.Rule.Validity.{is_absent}
use Rattle.rr_model.specs.declared.rule.Rule.{Rule}
use Rattle.rr_expand.specs.Years.{Filling, IsYearMask, allows_day, is_bit_set, mask_key}
use Rattle.rr_expand.specs.declared.allowed_days.MaskedYear.{MaskedYear}
use Rattle.rr_expand.specs.declared.allowed_days.KeptMasks.{KeptMasks}
use Rattle.rr_expand.specs.declared.year_masks.YearMask.{YearMask}

-- an entry for each key; a mask that is kept is that of every year of its key
pub record AreMasks (f : Filling) (kept : List (Option YearMask)) : Type 0 where
  pub keys : length kept ≡ 56
  pub masks : (year : ℤ) (mask : YearMask) → get_or kept (mask_key f.rule year) None ≡ Some mask → IsYearMask f year mask.bits

-- ---- one year

-- at most as many days as a year has, near enough for the calls, up to the first one of the next year
pub record IsMaskedYear (year : MaskedYear) : Type 0 where
  pub near : IsDayWithin 1000 year.first
  pub ordered : year.first ≤ℤ year.next
  pub short : year.next ≤ℤ (year.first +ℤ pos 366)
  pub of_next : year.next ≡ first_day_of_year (year.number +ℤ pos 1)

-- the bit of a day of the year is set
abbrev pub is_marked : MaskedYear → ℤ → Bool
is_marked year d = is_bit_set year.mask.bits (nat_abs (d -ℤ year.first))

-- the first day of the year from `from` on and before `end` whose bit is set; None if no bit is
abbrev pub IsFirstMarked : MaskedYear → ℤ → ℤ → Option ℤ → Type 0
IsFirstMarked year from end None = (d : ℤ) → from ≤ℤ d → d <ℤ end → d <ℤ year.next → is_marked year d ≡ false
IsFirstMarked year from end (Some day) =
    (from ≤ℤ day) × (day <ℤ end) × (day <ℤ year.next) × (is_marked year day ≡ true) × ((d : ℤ) → from ≤ℤ d → d <ℤ day → is_marked year d ≡ false)

-- ---- a rule's years

-- the bits of the year's days tell which of them are allowed
abbrev pub TellsYear : Filling → MaskedYear → Type 0
TellsYear f year = (d : ℤ) → year.first ≤ℤ d → d <ℤ year.next → is_marked year d ≡ allows_day f d

-- the days are those from a first one on and before another that are allowed
abbrev pub ListAllowed : Filling → ℤ → ℤ → List ℤ → Type 0
ListAllowed f first end days = IsSetOf int_lt days (λ d. (first ≤ℤ d) × (d <ℤ end) × IsTrue (allows_day f d))

-- for each filling whose days the year's bits tell: a list of its allowed days before `from` became the list of those before `end`
abbrev pub ListsOn : MaskedYear → ℤ → ℤ → List ℤ → List ℤ → Type 0
ListsOn year from end old new =
    (f : Filling) (first : ℤ) → first ≤ℤ from → TellsYear f year → ListAllowed f first from old → ListAllowed f first end new

-- the days are those, of `count` from the first one on, that are allowed
abbrev pub AreAllowedDays : Filling → ℤ → ℕ → List ℤ → Type 0
AreAllowedDays f first count days = ListAllowed f first (first +ℤ pos count) days

-- the masks that are kept are those of the rule's years, and so is that of the year looked at
pub record AreKeptMasks (f : Filling) (masks : KeptMasks) : Type 0 where
  pub kept : AreMasks f masks.kept.items
  pub year : IsMaskedYear masks.year
  pub marked : TellsYear f masks.year

-- if there are no masks every day is allowed
abbrev pub TellDays : Filling → Option KeptMasks → Type 0
TellDays f None = (d : ℤ) → allows_day f d ≡ true
TellDays f (Some masks) = AreKeptMasks f masks

-- the start is near enough for the calls, and the masks tell which days are allowed: every day if there are none
pub record AreMasksOf (f : Filling) (masks : Option KeptMasks) : Type 0 where
  pub near : IsDayWithin 1000 f.start_day
  pub days : TellDays f masks

-- a date part is present
abbrev pub has_date_part : Rule → Bool
has_date_part rule =
    not (is_absent rule.by_month && is_absent rule.by_week_no && is_absent rule.by_year_day && is_absent rule.by_month_day && is_absent rule.by_day)
