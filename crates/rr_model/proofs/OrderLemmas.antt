-- Dates and moments stand in one order, and their days in the same.
use Rattle.std.proofs.Common.{inl, inr, ℤ, pos, ◌+ℤ◌, ◌*ℤ◌, ◌≤ℤ◌, ◌<ℤ◌, refl, arith}
use Rattle.std.proofs.lemmas.Int.{ints, by_lt_z}
use Rattle.rr_model.specs.Moment.{Before, day_part}
use Rattle.rr_model.specs.declared.kind.Kind.{Kind}
use Rattle.rr_model.specs.declared.kind.Kind.TheVariants.{Days, Moments}
use Rattle.rr_model.proofs.WholeLemmas.{floor_whole, floor_mod_below}

-- a later date or moment has no earlier day
pub day_mono : (kind : Kind) (t u : ℤ) → t ≤ℤ u → day_part kind t ≤ℤ day_part kind u
day_mono Days t u l = l
day_mono Moments t u l =
    let w = floor_whole t 86_400 (omega arith) in
    let v = floor_whole u 86_400 (omega arith) in
    omega (arith, ints, w, v, l, floor_mod_below u 86_400 (omega arith))

-- twice the second, and one more for a moment
abbrev pub place_of : Kind → ℤ → ℤ
place_of Days t = t *ℤ pos 172_800
place_of Moments t = (t *ℤ pos 2) +ℤ pos 1

pub to_place : (k : Kind) (t : ℤ) (l : Kind) (u : ℤ) → Before k t l u → place_of k t <ℤ place_of l u
to_place Days t Days u (inl h) = omega (arith, ints)
to_place Days t Days u (inr h) = absurd (cc)
to_place Days t Moments u (inl h) = omega (arith, ints)
to_place Days t Moments u (inr h) = omega (arith, ints, h.0)
to_place Moments t Days u (inl h) = omega (arith, ints)
to_place Moments t Days u (inr h) = absurd (cc)
to_place Moments t Moments u (inl h) = omega (arith, ints)
to_place Moments t Moments u (inr h) = absurd (cc)

pub from_place : (k : Kind) (t : ℤ) (l : Kind) (u : ℤ) → place_of k t <ℤ place_of l u → Before k t l u
from_place Days t Days u h = inl (omega (arith, ints))
from_place Days t Moments u h =
    let P : Type 0 = Before Days t Moments u in
    by_lt_z {P = P} (t *ℤ pos 86_400) u (λ l. inl l) (λ g. inr (omega (arith, ints), refl, refl))
from_place Moments t Days u h = inl (omega (arith, ints))
from_place Moments t Moments u h = inl (omega (arith, ints))

-- what comes before another comes before all that come after it
pub Before-trans : (a : Kind) (t : ℤ) (b : Kind) (u : ℤ) (c : Kind) (v : ℤ) → Before a t b u → Before b u c v → Before a t c v
Before-trans a t b u c v h g =
    let x = to_place a t b u h in
    let y = to_place b u c v g in
    from_place a t c v (omega (arith, ints, x, y))
