-- The dates of one day in a rising list, and what is left of a part once they are taken out.
use Rattle.std.specs.Prelude.{◌≡◌, ◌≢◌, ◌↔◌, ℕ, ◌<◌, ◌≤◌, true, false, List, [], All, Contains, length, get_or, Result, Ok, Err, Option, Some, None, ℤ, pos}
use Rattle.std.specs.Prelude.{◌+ℤ◌, ◌≤ℤ◌, ◌<ℤ◌}
use Rattle.std.specs.Option.{ForSome, ForNone}
use Rattle.rr_model.specs.Calendar.{first_day_of_year}
use Rattle.rr_model.specs.Moment.{day_part}
use Rattle.rr_model.specs.Moment.Years.{IsInYears}
use Rattle.rr_model.specs.declared.kind.Kind.{Kind}
use Rattle.rr_model.specs.declared.refusal.NoMemory.{NoMemory}
use Rattle.rr_model.specs.Sets.Tree.{Tree, is_among, dates_of, without, IsOfOneKind}
use Rattle.rr_lazy.specs.declared.occupied_day.OccupiedDay.{OccupiedDay}
use Rattle.rr_lazy.specs.Next.{HasNone, IsNextIn, IsSoundLazy, with_set}
use Rattle.rr_lazy.specs.Ahead.{IsAheadIn, IsGivenOn}
use Rattle.rr_lazy.specs.Parts.{AskedPart, Part}

-- the dates before the index lie before the day, and the others do not
pub record IsFirstFrom (kind : Kind) (dates : List ℤ) (day : ℤ) (index : ℕ) : Type 0 where
  pub within : index ≤ length dates
  pub below : (k : ℕ) → k < index → day_part kind (get_or dates k (pos 0)) <ℤ day
  pub from : (k : ℕ) → index ≤ k → k < length dates → day ≤ℤ day_part kind (get_or dates k (pos 0))

-- the first day from `from` on and not after `to` that has a date; None if none has
abbrev pub IsFirstDate : Kind → List ℤ → ℤ → ℤ → Option ℤ → Type 0
IsFirstDate kind dates from to (Some day) =
    (from ≤ℤ day) × (day ≤ℤ to) × HasNone (dates_of kind dates) from day × ((s : ℕ) × (is_among kind dates day s ≡ true))
IsFirstDate kind dates from to None = (d : ℤ) (s : ℕ) → from ≤ℤ d → d ≤ℤ to → is_among kind dates d s ≡ false

pub sound_dates : (kind : Kind) (dates : List ℤ) (position : ℤ) → All (IsInYears kind) dates → first_day_of_year (pos 1) ≤ℤ position
    → IsSoundLazy (dates_of kind dates) position
sound_dates kind dates position k b = record { of_kind = (λ i. kind, k); in_years = b }

-- What is left of a day once dates are taken out; None if nothing is.
abbrev pub IsLeftOf : List (List ℕ) → Kind → List ℤ → OccupiedDay → List (List ℕ) → Option OccupiedDay → Type 0
IsLeftOf old kind dates given new None = (s : ℕ) → Contains ((with_set old given).times) s → is_among kind dates given.day s ≡ true
IsLeftOf old kind dates given new (Some found) =
    (found.day ≡ given.day) × IsGivenOn new found × (((with_set new found).times) ≢ [])
    × ((s : ℕ) → Contains ((with_set new found).times) s ↔ (Contains ((with_set old given).times) s × (is_among kind dates given.day s ≡ false)))

-- What is known of a part from a position on: the day that it gave and that was not passed on yet, from some day on, before which
-- nothing is left once dates are taken out.
pub record KnowsPart (sets : List (List ℕ)) (tree : Tree) (own : ℤ) (kind : Kind) (dates : List ℤ) (position : ℤ) (ahead : Option OccupiedDay) : Type 0 where
  pub from : ℤ
  pub order : position ≤ℤ from
  pub passed : HasNone (without tree kind dates) position from
  pub known : IsAheadIn sets tree own from ahead

-- the part is known from some position on
abbrev pub KnowsPartFromSome : List (List ℕ) → Part → Kind → List ℤ → Type 0
KnowsPartFromSome sets part kind dates = (position : ℤ) × KnowsPart sets part.tree part.own kind dates position part.ahead

-- the dates of the day are taken out of these seconds
abbrev pub LosesDates : Kind → List ℤ → ℤ → List ℕ → List ℕ → Type 0
LosesDates kind dates day old new = (s : ℕ) → Contains new s ↔ (Contains old s × (is_among kind dates day s ≡ false))

-- What a part gives up to a day once dates are taken out, by what was known of it before and is known of it after: a day of which
-- something is left, and no such day was passed over; or nothing, if what is known of it after lies past the day.
abbrev pub IsNextLeft : List (List ℕ) → List (List ℕ) → Tree → Kind → List ℤ → ℤ → ℤ → Option OccupiedDay → Option OccupiedDay → ℤ
    → Result (Option OccupiedDay) NoMemory → Type 0
IsNextLeft old new tree kind dates own own' ahead ahead' to (Ok (Some found)) =
    (position : ℤ) → KnowsPart old tree own kind dates position ahead
    → IsNextIn new (without tree kind dates) position to (Ok (Some found)) (found.day +ℤ pos 1)
    × KnowsPart new tree own' kind dates (found.day +ℤ pos 1) ahead'
IsNextLeft old new tree kind dates own own' ahead ahead' to (Ok None) =
    ForSome ahead' (λ f. to <ℤ f.day) × ForNone ahead' (to <ℤ own')
    × ((position : ℤ) → KnowsPart old tree own kind dates position ahead → KnowsPart new tree own' kind dates position ahead')
IsNextLeft old new tree kind dates own own' ahead ahead' to (Err e) =
    (position : ℤ) → KnowsPart old tree own kind dates position ahead → KnowsPart new tree own' kind dates position ahead'

-- what a part that was asked gives up to a day once dates are taken out
abbrev pub IsNextLeftOfAsked : List (List ℕ) → List (List ℕ) → AskedPart → Kind → List ℤ → ℤ → Result (Option OccupiedDay) NoMemory → Type 0
IsNextLeftOfAsked old new part kind dates to result =
    IsNextLeft old new part.before.tree kind dates part.before.own part.after.own part.before.ahead part.after.ahead to result

pub sound_without : (tree : Tree) (kind : Kind) (dates : List ℤ) (position : ℤ) → IsOfOneKind (without tree kind dates)
    → first_day_of_year (pos 1) ≤ℤ position → IsSoundLazy (without tree kind dates) position
sound_without tree kind dates position k b = record { of_kind = k; in_years = b }
