-- The days of a year that the date parts of a rule allow, as bits, and the key of a year that tells them.
use Rattle.std.specs.Prelude.{◌≡◌, ℕ, ◌+◌, ◌/◌, ◌%◌, ◌^◌, ◌<◌, ◌≤◌, ◌==◌, Bool, true, false, ◌&&◌, if◌then◌else◌, List, get_or, nat_lt, Option, Some, None, ℤ, pos, ◌+ℤ◌, ◌-ℤ◌, ◌≤ℤ◌, ◌<ℤ◌}
use Rattle.std.specs.Int.{bit_at}
use Rattle.rr_model.specs.Calendar.{days_in_year, first_day_of_year, is_leap, kind_of_year}
use Rattle.rr_model.specs.Rule.Candidate.{date_parts_hold}
use Rattle.rr_model.specs.Rule.Filled.{filled_rule}
use Rattle.rr_model.specs.Rule.Validity.{is_absent}
use Rattle.rr_model.specs.declared.kind.Kind.TheVariants.{Days}
use Rattle.rr_model.specs.declared.rule.Rule.{Rule}

-- a rule, and the day of the start that its date parts are filled from
pub record Filling : Type 0 where
  pub rule : Rule
  pub start_day : ℤ

-- a rule whose date parts are filled from a start on this day
abbrev pub filling_of : Rule → ℤ → Filling
filling_of rule start_day = record { rule = rule; start_day = start_day }

-- each date part of the filled rule holds of the day (RFC 5545, section 3.3.10)
abbrev pub allows_day : Filling → ℤ → Bool
allows_day f d = date_parts_hold (filled_rule f.rule Days f.start_day) d

-- the date parts allow every day
abbrev pub AllowsEveryDay : Filling → Type 0
AllowsEveryDay f = (d : ℤ) → allows_day f d ≡ true

-- none of the days that come after a day, fewer than this number of days after it, is allowed
abbrev pub LeavesOutNext : Filling → ℤ → ℕ → Type 0
LeavesOutNext f day days = (j : ℕ) → 1 ≤ j → j < days → allows_day f (day +ℤ pos j) ≡ false

-- day k of the year, from 0, lies in the year and is allowed
abbrev pub allows_day_of_year : Filling → ℤ → ℕ → Bool
allows_day_of_year f year k = nat_lt k (days_in_year year) && allows_day f (first_day_of_year year +ℤ pos k)

-- the bit of a number, counted from the lowest bit of the first of words of 64 bits
abbrev pub is_bit_set : List ℕ → ℕ → Bool
is_bit_set words k = (get_or words (k / 64) 0 / 2 ^ (k % 64) % 2) == 1

-- the bits are those of the allowed days of the year
abbrev pub IsYearMask : Filling → ℤ → List ℕ → Type 0
IsYearMask f year words = (k : ℕ) → k < 384 → is_bit_set words k ≡ allows_day_of_year f year k

-- the bits are those of the allowed days, of `count` from the first one on
abbrev pub MarksAllowed : Filling → ℤ → ℕ → List ℕ → Type 0
MarksAllowed f first count words = (k : ℕ) → k < 384 → is_bit_set words k ≡ (nat_lt k count && allows_day f (first +ℤ pos k))

-- the first set bit from `from` on and before `end`; None if no bit is set
abbrev pub IsFirstBit : List ℕ → ℕ → ℕ → Option ℕ → Type 0
IsFirstBit words from end None = (k : ℕ) → from ≤ k → k < end → is_bit_set words k ≡ false
IsFirstBit words from end (Some bit) =
    (from ≤ bit) × (bit < end) × (is_bit_set words bit ≡ true) × ((k : ℕ) → from ≤ k → k < bit → is_bit_set words k ≡ false)

-- the bits of a word are those of the days from `from` on and before `end`, from the lowest bit on
abbrev pub AreBitsBetween : List ℕ → ℕ → ℕ → ℕ → Type 0
AreBitsBetween words from end word = (k : ℕ) → (bit_at word k == 1) ≡ (nat_lt (from + k) end && is_bit_set words (from + k))

-- What a year's mask depends on: its kind, of which there are 14, and, if BYWEEKNO is present, whether the years before and
-- after it are leap, since a week at either end of a year can belong to the year beside it.
abbrev pub mask_key : Rule → ℤ → ℕ
mask_key rule year =
    kind_of_year year
    + (if is_absent rule.by_week_no then 0
    else ((if is_leap (year -ℤ pos 1) then 14 else 0) + (if is_leap (year +ℤ pos 1) then 28 else 0)))

-- Years of equal keys have the same days allowed.
abbrev pub EqualKeysHaveEqualMasks : Type 0
EqualKeysHaveEqualMasks =
    (f : Filling) (year other : ℤ) → mask_key f.rule year ≡ mask_key f.rule other → (k : ℕ) → allows_day_of_year f year k ≡ allows_day_of_year f other k

-- the first day from `from` on and before `end` that is allowed; None if none is
abbrev pub IsFirstAllowed : Filling → ℤ → ℤ → Option ℤ → Type 0
IsFirstAllowed f from end None = (d : ℤ) → from ≤ℤ d → d <ℤ end → allows_day f d ≡ false
IsFirstAllowed f from end (Some day) =
    (from ≤ℤ day) × (day <ℤ end) × (allows_day f day ≡ true) × ((d : ℤ) → from ≤ℤ d → d <ℤ day → allows_day f d ≡ false)
