-- Occurrences of both kinds stand in one order.
use Rattle.std.proofs.Common.{◌≡◌, ◌⊎◌, inl, inr, ◌<◌, ℤ, ◌<ℤ◌, arith}
use Rattle.std.proofs.lemmas.Int.{ints, by_lt_z}
use Rattle.rr_model.specs.Whole.{floor_div, floor_mod}
use Rattle.rr_model.specs.Moment.{Before, day_part, second_part}
use Rattle.rr_model.specs.declared.kind.Kind.{Kind}
use Rattle.rr_model.specs.declared.kind.Kind.TheVariants.{Days, Moments}
use Rattle.rr_model.proofs.OrderLemmas.{from_place, place_of, to_place}
use Rattle.rr_model.proofs.WholeLemmas.{floor_whole, floor_mod_below}

-- what comes before another that does not come before a third comes before it or is at its place
pub Before-compare : (a : Kind) (t : ℤ) (b : Kind) (u : ℤ) (c : Kind) (v : ℤ) → Before a t c v → (Before b u c v → ⊥) → Before a t b u
Before-compare a t b u c v h n =
    let x = to_place a t c v h in
    let P : Type 0 = Before a t b u in
    by_lt_z {P = P} (place_of b u) (place_of c v) (λ l. absurd (n (from_place b u c v l))) (λ g. from_place a t b u (omega (arith, ints, x)))

-- ---- days and seconds

-- an earlier one of the same kind is of an earlier day, or of an earlier second of the day
pub earlier_parts : (k : Kind) (u t : ℤ) → Before k u k t
    → (day_part k u <ℤ day_part k t) ⊎ ((day_part k u ≡ day_part k t) × (second_part k u < second_part k t))
earlier_parts Days u t (inl h) = inl (omega (arith, ints))
earlier_parts Days u t (inr h) = absurd (cc)
earlier_parts Moments u t (inr h) = absurd (cc)
earlier_parts Moments u t (inl h) =
    let a = floor_whole u 86_400 (omega arith) in
    let b = floor_whole t 86_400 (omega arith) in
    let c = floor_mod_below u 86_400 (omega arith) in
    let d = floor_mod_below t 86_400 (omega arith) in
    let P : Type 0 = (floor_div u 86_400 <ℤ floor_div t 86_400) ⊎ ((floor_div u 86_400 ≡ floor_div t 86_400) × (floor_mod u 86_400 < floor_mod t 86_400)) in
    by_lt_z {P = P} (floor_div u 86_400) (floor_div t 86_400) (λ l. inl l) (λ g.
    let same : floor_div u 86_400 ≡ floor_div t 86_400 = omega (arith, ints) in
    inr (same, omega (arith, ints)))
