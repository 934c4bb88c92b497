-- When the observances of a zone begin (RFC 5545, section 3.6.5).
use Rattle.std.specs.Prelude.{ℕ, zero, suc, ◌+◌, Bool, if◌then◌else◌, ℤ, pos, nat_abs, ◌+ℤ◌, ◌-ℤ◌, ◌*ℤ◌, int_le}
use Rattle.std.specs.Prelude.{List, [], ◌∷◌, Option, None, Some, option_map}
use Rattle.rr_model.specs.Calendar.{first_day_of_year}
use Rattle.rr_model.specs.Series.Tree.{tree_of_given}
use Rattle.rr_model.specs.Sets.Tree.{stands_in}
use Rattle.rr_model.specs.declared.kind.Kind.TheVariants.{Moments}
use Rattle.rr_model.specs.declared.rule.Series.{Series}
use Rattle.rr_zone.specs.declared.clock.Onset.{Onset}
use Rattle.rr_zone.specs.declared.observance.Observance.{Observance}

-- ---- one observance

-- the observance begins at this moment of local time: at its start, at a further date, or at a member of a rule
abbrev pub is_onset : Series → ℤ → Bool
is_onset series t = stands_in (tree_of_given series) Moments t

-- the last of the n moments up to t that pass a test
abbrev pub last_passing : (ℤ → Bool) → ℤ → ℕ → Option ℤ
last_passing test t zero = None
last_passing test t (suc n) = if test t then Some t else last_passing test (t -ℤ pos 1) n

-- the first moment of the year 1
abbrev pub first_moment : ℤ
first_moment = first_day_of_year (pos 1) *ℤ pos 86_400

-- the last moment from the year 1 on and not after t that passes a test
abbrev pub last_up_to : (ℤ → Bool) → ℤ → Option ℤ
last_up_to test t = if int_le first_moment t then last_passing test t (nat_abs (t -ℤ first_moment) + 1) else None

-- the last onset of an observance that is not after a moment of UTC, as a moment of UTC; onsets are local time as it was before them
abbrev pub last_onset : Observance → ℤ → Option ℤ
last_onset observance at = option_map (λ t. t -ℤ observance.from) (last_up_to (is_onset observance.series) (at +ℤ observance.from))

-- the first date of a rising list, or the one that is given if that is earlier
abbrev pub earliest : List ℤ → ℤ → ℤ
earliest [] t = t
earliest (u ∷ us) t = if int_le u t then u else t

-- the first onset of an observance as a moment of UTC
abbrev pub first_onset : Observance → ℤ
first_onset observance = earliest observance.series.plus observance.series.start -ℤ observance.from

-- ---- all observances

-- the later of two onsets, the first one if they are at once
abbrev pub later : Option Onset → Onset → Onset
later None b = b
later (Some a) b = if int_le b.at a.at then a else b

-- the earlier of two onsets, the first one if they are at once
abbrev pub earlier : Option Onset → Onset → Onset
earlier None b = b
earlier (Some a) b = if int_le a.at b.at then a else b

-- what is found with the last onset of an observance, if it has one
abbrev pub with_last : Option Onset → ℤ → ℤ → Option ℤ → Option Onset
with_last found from to None = found
with_last found from to (Some at) = Some (later found (record { at = at; from = from; to = to }))

-- the last onset of what is found and of observances that is not after a moment of UTC
abbrev pub last_of_zone : Option Onset → List Observance → ℤ → Option Onset
last_of_zone found [] at = found
last_of_zone found (o ∷ os) at = last_of_zone (with_last found o.from o.to (last_onset o at)) os at

-- the first onset of what is found and of observances
abbrev pub first_of_zone : Option Onset → List Observance → Option Onset
first_of_zone found [] = found
first_of_zone found (o ∷ os) = first_of_zone (Some (earlier found (record { at = first_onset o; from = o.from; to = o.to }))) os
