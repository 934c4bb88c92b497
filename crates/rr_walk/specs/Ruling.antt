-- A rule beside its start, and what is kept to walk it.
use Rattle.std.specs.Prelude.{◌≡◌, ℕ, ◌<◌, Bool, true, false, IsTrue, List, [], length, get_or, slice_get}
use Rattle.std.specs.Prelude.{Option, Some, None, nat_lt, int_lt, ℤ, pos, ◌+ℤ◌, ◌-ℤ◌, ◌≤ℤ◌, ◌<ℤ◌}
use Rattle.std.proofs.Props.{props}
use Rattle.rr_model.specs.Calendar.{IsDayWithin}
use Rattle.rr_model.specs.Moment.{day_part, moment_at, second_part}
use Rattle.rr_model.specs.Moment.Units.{unit_number, unit_start}
use Rattle.rr_model.specs.Rule.Candidate.{date_parts_hold}
use Rattle.rr_model.specs.Rule.Chosen.{is_chosen}
use Rattle.rr_model.specs.Rule.Filled.{filled_rule}
use Rattle.rr_model.specs.Whole.{divides, floor_mod}
use Rattle.rr_expand.specs.Expansion.{IsUnitNear}
use Rattle.rr_expand.specs.Years.{Filling}
use Rattle.rr_expand.specs.UnitTimes.{AreUnitTimes}
use Rattle.rr_expand.specs.declared.unit_times.UnitTimes.{UnitTimes}
use Rattle.rr_shapes.specs.Tables.{Extends}
use Rattle.rr_shapes.specs.declared.ids.SetId.{SetId}
use Rattle.rr_shapes.proofs.TableLemmas.{same_set}
use Rattle.rr_model.specs.Rising.Sets.{IsSetOf}
use Rattle.rr_model.specs.Rule.Validity.{IsValidRule}
use Rattle.rr_model.specs.Moment.Years.{IsInYears}
use Rattle.rr_model.specs.declared.kind.Kind.{Kind}
use Rattle.rr_model.specs.declared.kind.Kind.TheVariants.{Days, Moments}
use Rattle.rr_model.specs.declared.rule.Freq.{Freq}
use Rattle.rr_model.specs.declared.rule.Rule.{Rule}
use Rattle.rr_model.proofs.ValidityProps.{IsValidRule-prop}
use Rattle.rr_model.specs.Rule.DaysAndTimes.{IsCandidateDay, IsCandidateTime, day_holds}
use Rattle.rr_model.specs.Moment.Units.{is_whole_days}
use Rattle.rr_setpos.specs.Ranks.{days_before, days_of_unit}
use Rattle.rr_walk.specs.SetPositions.{AreChosenOffsets}
use Rattle.rr_walk.specs.declared.day_rule.DayInUnit.{DayInUnit}
use Rattle.rr_walk.specs.declared.day_rule.WholeUnit.{WholeUnit}

-- a rule with the start that it is filled from, and the numbers of the sets that are kept for its days: of a rule of whole days one, that
-- of the times of each candidate day; of a finer rule one for each offset of the first unit of a day that fits the interval
pub record Ruling : Type 0 where
  pub rule : Rule
  pub kind : Kind
  pub start : ℤ
  pub kept : List (Option SetId)

-- the ruling of a rule beside a start, with the numbers that are kept of times
abbrev pub ruling_of : Rule → Kind → ℤ → List (Option SetId) → Ruling
ruling_of rule kind start kept = record { rule = rule; kind = kind; start = start; kept = kept }

-- the ruling with its rule and start, in kind Moments
abbrev pub at_moments : Ruling → Ruling
at_moments r = record { rule = r.rule; kind = Moments; start = r.start; kept = r.kept }

-- a second of each candidate day, if the rule's units are days or longer
abbrev pub IsTimeOf : Ruling → ℕ → Type 0
IsTimeOf r second = IsCandidateTime r.rule r.kind r.start second

-- the interval and the date parts of the rule, filled from its start, allow the day
abbrev pub is_candidate_day : Ruling → ℤ → Bool
is_candidate_day r day = day_holds r.rule (day_part r.kind r.start) day

-- the date parts of a finer rule, filled from its start, allow the day
abbrev pub AllowsDay : Ruling → ℤ → Type 0
AllowsDay r day = IsTrue (date_parts_hold (filled_rule r.rule Days (day_part Moments r.start)) day)

-- the set of this number has exactly the seconds for which P holds
abbrev pub IsSetAt : List (List ℕ) → (ℕ → Type 0) → SetId → Type 0
IsSetAt sets P set = IsSetOf nat_lt (get_or sets set.index []) P

-- two rulings have one rule, kind and start
pub record IsSameRuling (new old : Ruling) : Type 0 where
  pub rule : new.rule ≡ old.rule
  pub kind : new.kind ≡ old.kind
  pub start : new.start ≡ old.start

-- the number that is kept at an index is that of a set with exactly the seconds that hold
abbrev pub KeepsAt : List (List ℕ) → Ruling → ℕ → (ℕ → Type 0) → Type 0
KeepsAt sets r index P = (set : SetId) → slice_get r.kept index ≡ Some (Some set) → (set.index < length sets) × IsSetAt sets P set

-- in a table that goes on it is so too
pub keeps_more : (r : Ruling) (index : ℕ) (P : ℕ → Type 0) (old new : List (List ℕ)) → Extends old new → KeepsAt old r index P → KeepsAt new r index P
keeps_more r index P old new more k set at =
    let known = k set at in
    let same = same_set old new set.index more known.0 in
    (same.0, rw same.1 known.1)

-- of a rule of whole days: the number that is kept is that of the times of its candidate days
abbrev pub KnowsTimes : Ruling → List (List ℕ) → Type 0
KnowsTimes r sets = KeepsAt sets r 0 (IsTimeOf r)

-- how many units after the first one of a day the first comes that is a whole number of intervals from the start's
abbrev pub unit_offset : Ruling → ℤ → ℕ
unit_offset r day =
    floor_mod (unit_number r.rule.freq r.rule.week_start Moments r.start
    -ℤ unit_number r.rule.freq r.rule.week_start Moments (moment_at Moments day 0)) r.rule.interval

-- a second of a day that a finer rule chooses, also before its start
abbrev pub IsChosenSecond : Ruling → ℤ → ℕ → Type 0
IsChosenSecond r day s = (s < 86_400) × IsTrue (is_chosen r.rule Moments r.start (moment_at Moments day s))

-- of a finer rule: the number at an offset is that of what is chosen on each allowed day whose first unit that fits has this offset
abbrev pub KnowsUnitOffsets : Ruling → List (List ℕ) → Type 0
KnowsUnitOffsets r sets =
    (day : ℤ) → IsDayWithin 1000 day → AllowsDay r day
    → KeepsAt sets r (unit_offset r day) (IsChosenSecond r day)

-- the rule is valid beside its start, which lies in the years 1 to 9999
pub record IsValidRuling (r : Ruling) : Type 0 where
  pub valid : IsValidRule r.kind r.rule
  pub in_years : IsInYears r.kind r.start

pub unit_offsets_more : (r : Ruling) (old new : List (List ℕ)) → Extends old new → KnowsUnitOffsets r old → KnowsUnitOffsets r new
unit_offsets_more r old new more k day near allowed = keeps_more r (unit_offset r day) _ old new more (k day near allowed)

-- the days from the first one on and before the next unit's are those of the unit of this number, near enough for the calls
pub record IsWholeUnit (freq : Freq) (week_start : ℕ) (unit : WholeUnit) : Type 0 where
  pub near : IsDayWithin 1000 unit.first
  pub of_first : unit.first ≡ unit_start freq week_start Days unit.number
  pub of_next : unit.next ≡ unit_start freq week_start Days (unit.number +ℤ pos 1)

-- of a rule of whole days: the start's day and second, the seconds of each candidate day, the days that its date parts allow, the start's
-- unit, a day and its unit, and a unit with its candidate days, if they are held
pub record IsUnrolled (r : Ruling) (start_day : ℤ) (start_second : ℕ) (times : List ℕ) (allowed : Filling) (own_unit : ℤ) (last : DayInUnit)
    (unit : WholeUnit) (is_held : Bool) (days : List ℤ) : Type 0 where
  pub freq : is_whole_days r.rule.freq ≡ true
  pub valid : IsValidRuling r
  pub of_day : start_day ≡ day_part r.kind r.start
  pub of_second : start_second ≡ second_part r.kind r.start
  pub of_times : IsSetOf nat_lt times (IsTimeOf r)
  pub of_allowed : allowed ≡ record { rule = r.rule; start_day = day_part r.kind r.start }
  pub of_own : own_unit ≡ unit_number r.rule.freq r.rule.week_start Days (day_part r.kind r.start)
  pub of_last : last.unit ≡ unit_number r.rule.freq r.rule.week_start Days last.day
  pub of_unit : IsWholeUnit r.rule.freq r.rule.week_start unit
  pub held : is_held ≡ true → IsSetOf int_lt days (IsCandidateDay r.rule (day_part r.kind r.start) unit.number)

-- `IsValidRuling` has one proof at most
pub IsValidRuling-prop : (r : Ruling) → IsProp (IsValidRuling r)
IsValidRuling-prop r = let p = IsValidRule-prop r.kind r.rule in hlevel (props, p)

-- of a rule whose units are shorter than a day: the start's day, second and unit, the seconds of each unit that BYSETPOS chooses, the minutes
-- and seconds that its time parts allow in a unit, and the days that its date parts allow
pub record IsFine (r : Ruling) (start_day : ℤ) (start_second : ℕ) (own_unit : ℤ) (offsets : List ℕ) (times : UnitTimes)
    (allowed : Filling) : Type 0 where
  pub freq : is_whole_days r.rule.freq ≡ false
  pub valid : IsValidRuling r
  pub of_day : start_day ≡ day_part r.kind r.start
  pub of_second : start_second ≡ second_part r.kind r.start
  pub of_own : own_unit ≡ unit_number r.rule.freq r.rule.week_start Moments r.start
  pub own_near : IsUnitNear own_unit
  pub of_offsets : AreChosenOffsets r.rule r.start offsets
  pub of_times : AreUnitTimes r.rule r.start times.minutes.items times.seconds.items
  pub of_allowed : allowed ≡ record { rule = r.rule; start_day = day_part Moments r.start }

-- the days are the candidate days of one unit
abbrev pub AreUnitDays : Ruling → List ℤ → Type 0
AreUnitDays r days = (unit : ℤ) × IsSetOf int_lt days (IsCandidateDay r.rule (day_part r.kind r.start) unit)

-- a candidate day, how many of its unit's candidate days lie before it, and how many there are
pub record IsCandidateAt (r : Ruling) (day : ℤ) (rank count : ℕ) : Type 0 where
  pub candidate : IsTrue (is_candidate_day r day)
  pub before : rank ≡ days_before r.rule (day_part r.kind r.start) day
  pub all : count ≡ days_of_unit r.rule (day_part r.kind r.start) day

-- the first candidate day from `from` on and not after `to`; None if there is none
abbrev pub IsFirstCandidate : Ruling → ℤ → ℤ → Option ℤ → Type 0
IsFirstCandidate r from to None = (d : ℤ) → from ≤ℤ d → d ≤ℤ to → day_holds r.rule (day_part r.kind r.start) d ≡ false
IsFirstCandidate r from to (Some day) =
    (from ≤ℤ day) × (day ≤ℤ to) × (day_holds r.rule (day_part r.kind r.start) day ≡ true)
    × ((d : ℤ) → from ≤ℤ d → d <ℤ day → day_holds r.rule (day_part r.kind r.start) d ≡ false)

-- the first candidate day of one unit from a day on up to another, None if none is
abbrev pub IsFirstCandidateIn : Ruling → ℤ → ℤ → ℤ → Option ℤ → Type 0
IsFirstCandidateIn r unit from to None =
    (d : ℤ) → unit_number r.rule.freq r.rule.week_start Days d ≡ unit → from ≤ℤ d → d ≤ℤ to → day_holds r.rule (day_part r.kind r.start) d ≡ false
IsFirstCandidateIn r unit from to (Some day) =
    (unit_number r.rule.freq r.rule.week_start Days day ≡ unit) × (from ≤ℤ day) × (day ≤ℤ to) × (day_holds r.rule (day_part r.kind r.start) day ≡ true)
    × ((d : ℤ) → unit_number r.rule.freq r.rule.week_start Days d ≡ unit → from ≤ℤ d → d <ℤ day → day_holds r.rule (day_part r.kind r.start) d ≡ false)

-- the unit lies a whole number of intervals from the start's
abbrev pub IsFittingUnit : Ruling → ℤ → Type 0
IsFittingUnit r unit = divides r.rule.interval (unit -ℤ unit_number r.rule.freq r.rule.week_start Days (day_part r.kind r.start)) ≡ true

-- no candidate day from one on lies in a unit before this one
abbrev pub IsPassed : Ruling → ℤ → ℤ → Type 0
IsPassed r from unit =
    (d : ℤ) → from ≤ℤ d → unit_number r.rule.freq r.rule.week_start Days d <ℤ unit → day_holds r.rule (day_part r.kind r.start) d ≡ false
