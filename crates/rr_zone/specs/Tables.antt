-- The onsets of observances as lists up to a day.
use Rattle.std.specs.Prelude.{◌≡◌, true, ℕ, ◌<◌, ◌≤◌, ℤ, pos, ◌+ℤ◌, ◌-ℤ◌, ◌≤ℤ◌, ◌<ℤ◌, int_le, int_lt, if◌then◌else◌, List, [], ◌∷◌, length, slice_index_or, Option, None, Some}
use Rattle.std.specs.List.{AllZip}
use Rattle.rr_model.specs.Calendar.{first_day_of_year}
use Rattle.rr_model.specs.Moment.{day_part, moment_at}
use Rattle.rr_model.specs.Moment.Years.{IsInYears}
use Rattle.rr_model.specs.Rising.{with_value}
use Rattle.rr_model.specs.Rising.Sets.{IsSetOf}
use Rattle.rr_model.specs.Series.Tree.{tree_of_given}
use Rattle.rr_model.specs.Sets.Tree.{Tree, stands_in}
use Rattle.rr_model.specs.declared.kind.Kind.TheVariants.{Moments}
use Rattle.rr_model.specs.declared.rule.Series.{Series}
use Rattle.rr_zone.specs.Clocks.{local_by, local_time}
use Rattle.rr_zone.specs.Offsets.{IsBelowDay}
use Rattle.rr_zone.specs.Onsets.{earlier, first_onset, with_last}
use Rattle.rr_zone.specs.declared.clock.Onset.{Onset}
use Rattle.rr_zone.specs.declared.clock.Table.{Table}
use Rattle.rr_zone.specs.declared.observance.Observance.{Observance}

-- ---- lists of onsets

-- a moment of UTC is one at which something stands in a tree of local time, `from` seconds ahead; from the year 1 on and before a day
pub record IsListed (tree : Tree) (from end u : ℤ) : Type 0 where
  pub late : first_day_of_year (pos 1) ≤ℤ day_part Moments (u +ℤ from)
  pub early : day_part Moments (u +ℤ from) <ℤ end
  pub stands : stands_in tree Moments (u +ℤ from) ≡ true

-- a rising list with the seconds of a day of local time, as moments of UTC
abbrev pub with_moments : List ℤ → ℤ → ℤ → List ℕ → List ℤ
with_moments dates from day [] = dates
with_moments dates from day (s ∷ ss) = with_moments (with_value int_lt dates (moment_at Moments day s -ℤ from)) from day ss

-- The list rises, and has exactly the onsets of a series before a day, as moments of UTC: its start, its further dates and the members of its rules.
abbrev pub AreOnsets : Series → ℤ → ℤ → List ℤ → Type 0
AreOnsets series from end onsets = IsSetOf int_lt onsets (IsListed (tree_of_given series) from end)

-- the last of what is found and of these onsets that is not after a moment
abbrev pub last_from : Option ℤ → List ℤ → ℤ → Option ℤ
last_from found [] at = found
last_from found (t ∷ ts) at = last_from (if int_le t at then Some t else found) ts at

-- the last of these onsets that is not after a moment
abbrev pub last_listed : List ℤ → ℤ → Option ℤ
last_listed onsets at = last_from None onsets at

-- the first `count` of rising onsets, and no others, are not after a moment
pub record IsCountUpTo (onsets : List ℤ) (at : ℤ) (count : ℕ) : Type 0 where
  pub within : count ≤ length onsets
  pub below : (k : ℕ) → k < count → slice_index_or onsets k (pos 0) ≤ℤ at
  pub from : (k : ℕ) → count ≤ k → k < length onsets → at <ℤ slice_index_or onsets k (pos 0)

-- ---- the tables of a zone

-- the last onset of what is found and of tables that is not after a moment of UTC
abbrev pub last_of : Option Onset → List Table → ℤ → Option Onset
last_of found [] at = found
last_of found (x ∷ xs) at = last_of (with_last found x.from x.to (last_listed x.onsets at)) xs at

-- the first onset of what is found and of tables
abbrev pub first_of : Option Onset → List Table → Option Onset
first_of found [] = found
first_of found (x ∷ xs) = first_of (Some (earlier found (record { at = x.first; from = x.from; to = x.to }))) xs

-- the onsets before a day, the first onset and the offsets of an observance; an offset is less than a day
pub record IsTableOf (end : ℤ) (o : Observance) (x : Table) : Type 0 where
  pub onsets : AreOnsets o.series o.from end x.onsets
  pub first : x.first ≡ first_onset o
  pub from : x.from ≡ o.from
  pub to : x.to ≡ o.to
  pub below : IsBelowDay o.from

-- the tables are those of the observances of a zone, in order
abbrev pub AreTablesOf : ℤ → List Observance → List Table → Type 0
AreTablesOf end zone tables = AllZip (IsTableOf end) zone tables

-- 10000-01-01, the last day up to which onsets are ever listed: no moment of the years 1 to 9999 is later in local time
abbrev pub last_day : ℤ
last_day = pos 2_932_897

-- a day up to which onsets are listed
pub record IsLastDay (last : ℤ) : Type 0 where
  pub late : first_day_of_year (pos 1) ≤ℤ last
  pub early : last ≤ℤ last_day

-- the tables of a zone reach up to a day
pub record AreListed (zone : List Observance) (tables : List Table) (last : ℤ) : Type 0 where
  pub each : AreTablesOf (last +ℤ pos 1) zone tables
  pub day : IsLastDay last

-- a moment is not far from those of the years 1 to 9999, so that an offset can be added
pub record IsNear (at : ℤ) : Type 0 where
  pub low : (pos 0 -ℤ pos 100_000_000_000) <ℤ at
  pub high : at <ℤ pos 300_000_000_000

-- an onset is not after a moment, and not far
pub record IsUpTo (at : ℤ) (onset : Onset) : Type 0 where
  pub near : IsNear onset.at
  pub early : onset.at ≤ℤ at

-- Tables up to a day tell the local time of the zone at every moment of UTC before it.
abbrev pub TablesTell : Type 0
TablesTell = (zone : List Observance) (tables : List Table) (last at : ℤ) → AreListed zone tables last → IsInYears Moments at → day_part Moments at <ℤ last
    → local_by (last_of None tables at) (first_of None tables) at ≡ local_time zone at
