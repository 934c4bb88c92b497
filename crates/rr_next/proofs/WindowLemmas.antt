-- Which numbers come before a moment.
use Rattle.std.proofs.Common.{◌≡◌, inl, inr, ℤ, pos, neg_ℤ, ◌+ℤ◌, ◌*ℤ◌, ◌≤ℤ◌, ◌<ℤ◌, refl, ap, ◌∙◌, sym, arith}
use Rattle.std.proofs.lemmas.Int.{ints, by_lt_z}
use Rattle.rr_model.specs.Moment.{Before, day_part}
use Rattle.rr_model.specs.Moment.Years.{IsInYears}
use Rattle.rr_model.specs.declared.kind.Kind.{Kind}
use Rattle.rr_model.specs.declared.kind.Kind.TheVariants.{Days, Moments}
use Rattle.rr_model.proofs.MomentLemmas.{day_part-moment_at}
use Rattle.rr_model.proofs.YearLemmas.{year_1, year_10000}
use Rattle.rr_model.proofs.WholeLemmas.{floor_mod_below, floor_whole}
use Rattle.rr_next.specs.Window.{IsNotBefore, number_from}

-- what comes before a moment has a lesser number
pub lesser_before : (own : Kind) (u : ℤ) (k : Kind) (t : ℤ) → Before own u k t → u <ℤ number_from own k t
lesser_before Days u Days t (inl h) = omega (arith, ints, h)
lesser_before Days u Days t (inr h) = absurd (cc)
lesser_before Days u Moments t (inl h) =
    let a = floor_whole t 86_400 (omega arith) in
    let b = floor_mod_below t 86_400 (omega arith) in
    omega (arith, ints, a, b, h)
lesser_before Days u Moments t (inr h) =
    let a = floor_whole t 86_400 (omega arith) in
    let b = floor_mod_below t 86_400 (omega arith) in
    omega (arith, ints, a, b, h.0)
lesser_before Moments u Days t (inl h) = omega (arith, ints, h)
lesser_before Moments u Days t (inr h) = absurd (cc)
lesser_before Moments u Moments t (inl h) = omega (arith, ints, h)
lesser_before Moments u Moments t (inr h) = absurd (cc)

-- what has a lesser number comes before the moment
pub before_lesser : (own : Kind) (u : ℤ) (k : Kind) (t : ℤ) → u <ℤ number_from own k t → Before own u k t
before_lesser Days u Days t l = inl (omega (arith, ints, l))
before_lesser Days u Moments t l =
    let a = floor_whole t 86_400 (omega arith) in
    let b = floor_mod_below t 86_400 (omega arith) in
    by_lt_z {P = Before Days u Moments t} (u *ℤ pos 86_400) t (λ m. inl m) (λ g. inr (omega (arith, ints, a, b, l, g), refl, refl))
before_lesser Moments u Days t l = inl (omega (arith, ints, l))
before_lesser Moments u Moments t l = inl (omega (arith, ints, l))

pub not_before_from : (own : Kind) (u : ℤ) (k : Kind) (t : ℤ) → number_from own k t ≤ℤ u → IsNotBefore own u k t
not_before_from own u k t l b = (let m = lesser_before own u k t b in omega (arith, ints, l, m))

pub from_not_before : (own : Kind) (u : ℤ) (k : Kind) (t : ℤ) → IsNotBefore own u k t → number_from own k t ≤ℤ u
from_not_before own u k t h =
    by_lt_z {P = number_from own k t ≤ℤ u} u (number_from own k t) (λ l. absurd (h (before_lesser own u k t l))) (λ g. g)

-- ---- how far they lie

-- the day of a moment of the years 1 to 9999
pub day_bounds : (k : Kind) (t : ℤ) → IsInYears k t → (neg_ℤ (pos 719_162) ≤ℤ day_part k t) × (day_part k t <ℤ pos 2_932_897)
day_bounds k t h = (let a = h.0 in omega (arith, ints, a, year_1), let b = h.1 in omega (arith, ints, b, year_10000))

-- the number of a moment lies on its day, or on the next
pub number_near : (own k : Kind) (t : ℤ) → IsInYears k t
    → (neg_ℤ (pos 719_162) ≤ℤ day_part own (number_from own k t)) × (day_part own (number_from own k t) ≤ℤ pos 2_932_897)
number_near Days Days t h = (let b = day_bounds Days t h in (b.0, omega (arith, ints, b.1)))
number_near Days Moments t h = (let b = day_bounds Moments t h in (omega (arith, ints, b.0), omega (arith, ints, b.1)))
number_near Moments Days t h =
    let b = day_bounds Days t h in
    let z : (t *ℤ pos 86_400) +ℤ pos 0 ≡ t *ℤ pos 86_400 = omega (arith, ints) in
    let e : day_part Moments (t *ℤ pos 86_400) ≡ t = ap (day_part Moments) (sym z) ∙ day_part-moment_at t 0 (omega arith) in
    (omega (arith, ints, b.0, e), omega (arith, ints, b.1, e))
number_near Moments Moments t h = (let b = day_bounds Moments t h in (b.0, omega (arith, ints, b.1)))
