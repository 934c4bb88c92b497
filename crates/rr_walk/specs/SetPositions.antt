-- The seconds that set positions choose, in the order in which a unit is walked (RFC 5545, section 3.3.10, BYSETPOS).
use Rattle.std.specs.Prelude.{◌≡◌, ℕ, ◌+◌, ◌*◌, ◌%◌, ◌<◌, ◌≤◌, Bool, true, false, IsTrue, Option, Some, None, List, Contains, get_or, length, nat_lt, ℤ, pos}
use Rattle.rr_model.specs.Moment.Units.{unit_seconds}
use Rattle.rr_model.specs.Rising.Sets.{IsSetOf}
use Rattle.rr_model.specs.Rule.Validity.{is_absent}
use Rattle.rr_model.specs.Rule.Filled.{minute_of, second_of, wants_second}
use Rattle.rr_model.specs.Sets.Counting.{count_seconds}
use Rattle.rr_model.specs.declared.kind.Kind.TheVariants.{Moments}
use Rattle.rr_model.specs.declared.rule.Freq.{Freq}
use Rattle.rr_model.specs.declared.rule.Freq.TheVariants.{Minutely, Hourly}
use Rattle.rr_model.specs.declared.rule.Rule.{Rule}
use Rattle.rr_setpos.specs.Nth.{IsPositionOf}
use Rattle.rr_parts.specs.Numbers.{number_allowed}
use Rattle.rr_setpos.specs.Ranks.{hour_second_allowed, is_rank_listed}

-- ---- the times of one day of a unit

-- One of the times has the position in its unit, if n of the unit's m candidates come before these times.
abbrev pub IsAtPosition : List ℕ → ℕ → ℕ → ℤ → ℕ → Type 0
IsAtPosition times before size position s = (r : ℕ) × ((r < length times) × (get_or times r 0 ≡ s) × IsPositionOf position size (before + r))

-- the time at a position, None if none of these has it
abbrev pub IsTimeAt : List ℕ → ℕ → ℕ → ℤ → Option ℕ → Type 0
IsTimeAt times before size position None = (s : ℕ) → IsAtPosition times before size position s → ⊥
IsTimeAt times before size position (Some s) = IsAtPosition times before size position s

-- the time has one of the first k positions
abbrev pub IsAtSome : List ℕ → ℕ → ℕ → List ℤ → ℕ → ℕ → Type 0
IsAtSome times before size positions k s = (i : ℕ) × ((i < k) × IsAtPosition times before size (get_or positions i (pos 0)) s)

-- these are, in order, the times at one of all positions on the day of this rank, if each of a unit's `count` days has `times`
abbrev pub AreAtPositions : List ℕ → ℕ → ℕ → List ℤ → List ℕ → Type 0
AreAtPositions times rank count positions chosen =
    IsSetOf nat_lt chosen (IsAtSome times (rank * length times) (count * length times) positions (length positions))

-- the position is that of a time of the day of this rank, if each of n days has m times
abbrev pub IsPositionOn : ℤ → ℕ → ℕ → ℕ → Type 0
IsPositionOn position each count rank = (r : ℕ) × ((r < each) × IsPositionOf position (count * each) (rank * each + r))

-- the rank of the day on which a position is, None if it is on none
abbrev pub IsDayOfPosition : ℤ → ℕ → ℕ → Option ℕ → Type 0
IsDayOfPosition position each count None = (k : ℕ) → k < count → IsPositionOn position each count k → ⊥
IsDayOfPosition position each count (Some rank) = (rank < count) × IsPositionOn position each count rank

-- one of the first k positions is that of a time of the day of this rank
abbrev pub HasOneOn : List ℤ → ℕ → ℕ → ℕ → ℕ → Type 0
HasOneOn positions k each count rank = (i : ℕ) × ((i < k) × IsPositionOn (get_or positions i (pos 0)) each count rank)

-- one of the positions is that of a time of the day of this rank
abbrev pub HasPositionOn : List ℤ → ℕ → ℕ → ℕ → Type 0
HasPositionOn positions each count rank = HasOneOn positions (length positions) each count rank

-- the first such rank from one on, None if there is none
abbrev pub IsNextRank : List ℤ → ℕ → ℕ → ℕ → Option ℕ → Type 0
IsNextRank positions each count from None = (k : ℕ) → from ≤ k → k < count → HasPositionOn positions each count k → ⊥
IsNextRank positions each count from (Some rank) =
    (from ≤ rank) × (rank < count) × HasPositionOn positions each count rank × ((k : ℕ) → from ≤ k → k < rank → HasPositionOn positions each count k → ⊥)

-- ---- units shorter than a day

-- the time parts of the rule, filled from a minute and a second, allow the second of each unit that they allow at all
abbrev pub offset_allowed : Freq → Rule → ℕ → ℕ → ℕ → Bool
offset_allowed Hourly rule minute second s = hour_second_allowed rule minute second s
offset_allowed Minutely rule minute second s = number_allowed (wants_second rule.freq) rule.by_second second s
offset_allowed freq rule minute second s = true

-- the time parts of the rule, filled from its start, allow the second of each unit that they allow at all
abbrev pub offset_holds : Rule → ℤ → ℕ → Bool
offset_holds rule start s = offset_allowed rule.freq rule (minute_of Moments start) (second_of Moments start) s

-- a second of such a unit that the time parts of the rule, filled from its start, allow
abbrev pub IsAllowedOffset : Rule → ℤ → ℕ → Type 0
IsAllowedOffset rule start s = (s < unit_seconds rule.freq) × IsTrue (offset_holds rule start s)

-- a second of such a unit that set positions choose
abbrev pub IsChosenOffset : Rule → ℤ → ℕ → Type 0
IsChosenOffset rule start s =
    (s < unit_seconds rule.freq) × IsTrue (offset_holds rule start s)
    × IsTrue (is_rank_listed rule (count_seconds (offset_holds rule start) s) (count_seconds (offset_holds rule start) (unit_seconds rule.freq)))

-- if set positions are present, the offsets are all seconds of a unit shorter than a day that they choose, in order
abbrev pub AreChosenOffsets : Rule → ℤ → List ℕ → Type 0
AreChosenOffsets rule start offsets = is_absent rule.by_set_pos ≡ false → IsSetOf nat_lt offsets (IsChosenOffset rule start)

-- a second of a day that lies at one of these seconds of its unit
abbrev pub IsAtOffset : ℕ → List ℕ → List ℕ → ℕ → Type 0
IsAtOffset unit offsets seconds s = Contains seconds s × Contains offsets (s % unit)
