-- Numbers that fit come back from 64 bits as they are.
use Rattle.std.proofs.Common.{◌≡◌, ℕ, ◌≤◌, ℤ, pos, neg_ℤ, nat_abs, ◌+ℤ◌, ◌-ℤ◌, ◌≤ℤ◌, ap, arith, rules, w64, to_z, of_z, to_z-of_z, FitsSigned, ◌∙◌}
use Rattle.std.proofs.lemmas.Int.{ints, clamps}
use Rattle.std.specs.Int.{int_min}
use Rattle.rr_model.specs.Bounds.{earliest_near, first_day_of_all, latest_near}
use Rattle.rr_model.specs.Moment.{day_part}
use Rattle.rr_model.specs.Moment.Years.{IsInYears}
use Rattle.rr_model.specs.declared.kind.Kind.{Kind}
use Rattle.rr_model.specs.declared.kind.Kind.TheVariants.{Days}
use Rattle.rr_model.proofs.BackLemmas.{in_years_back}

pub back : (x : ℤ) → neg_ℤ (pos 4_000_000_000_000) ≤ℤ x → x ≤ℤ pos 4_000_000_000_000 → to_z w64 (of_z w64 x) ≡ x
back x low high = let fits : FitsSigned w64 x = search rules in to_z-of_z fits

-- the day of a moment of these years
pub day_back : (kind : Kind) (t day : ℤ) → IsInYears kind t → day ≡ day_part kind (to_z w64 (of_z w64 t)) → to_z w64 (of_z w64 day) ≡ day_part kind t
day_back kind t day y e =
    (λ i. to_z w64 (of_z w64 ((e ∙ ap (day_part kind) (in_years_back kind t y)) i))) ∙ in_years_back Days (day_part kind t) y

-- the number of days between two days, computed in 64 bits
pub between_back : (day first day' first' : ℤ) → day' ≡ day → first' ≡ first → first ≤ℤ day → day ≤ℤ pos 3_000_000_000_000 → earliest_near ≤ℤ first
    → day ≡ first +ℤ pos (nat_abs (to_z w64 (of_z w64 (day' -ℤ first'))))
between_back day first day' first' e f order high low =
    let s = back (day -ℤ first) (omega (arith, ints, order)) (omega (arith, ints, high, low)) in
    rw (e, f, s) (omega (arith, ints, order))

-- a number of days that fits
pub days_back : (n : ℕ) → n ≤ 100_000_000 → to_z w64 n ≡ pos n
days_back n l = omega (arith, ints, l)

-- n days on
pub sum_back : (day day' : ℤ) (n : ℕ) → day' ≡ day → earliest_near ≤ℤ day → day ≤ℤ latest_near → n ≤ 100_000_000
    → to_z w64 (of_z w64 (day' +ℤ to_z w64 n)) ≡ day +ℤ pos n
sum_back day day' n e low high l =
    let m = days_back n l in
    rw (e, m) (back (day +ℤ pos n) (omega (arith, ints, low)) (omega (arith, ints, high, l)))

-- the lesser of two days
pub least_back : (day date least : ℤ) → least ≡ int_min (to_z w64 (of_z w64 day)) (to_z w64 (of_z w64 date))
    → (first_day_of_all ≤ℤ day) × (day ≤ℤ pos 2_932_896) → (first_day_of_all ≤ℤ date) × (date ≤ℤ pos 2_932_896)
    → (first_day_of_all ≤ℤ to_z w64 (of_z w64 least)) × (to_z w64 (of_z w64 least) ≤ℤ day) × (to_z w64 (of_z w64 least) ≤ℤ date)
least_back day date least e d t =
    let f = back day (omega (arith, ints, d.0)) (omega (arith, ints, d.1)) in
    let g = back date (omega (arith, ints, t.0)) (omega (arith, ints, t.1)) in
    let m : least ≡ int_min day date = rw (f, g) at e in
    let low : first_day_of_all ≤ℤ least = omega (arith, ints, clamps, m, d.0, t.0) in
    let first : least ≤ℤ day = omega (arith, ints, clamps, m) in
    let second : least ≤ℤ date = omega (arith, ints, clamps, m) in
    let h = back least (omega (arith, ints, low)) (omega (arith, ints, first, d.1)) in
    rw h (low, first, second)

-- n days earlier
pub less_back : (end end' left : ℤ) (n : ℕ) → end' ≡ end → left ≡ pos n → earliest_near ≤ℤ end → end ≤ℤ latest_near → n ≤ 100_000_000
    → to_z w64 (of_z w64 (end' -ℤ to_z w64 (of_z w64 left))) +ℤ pos n ≡ end
less_back end end' left n e f low high few =
    let l : to_z w64 (of_z w64 left) ≡ pos n = back left (omega (arith, ints, f)) (omega (arith, ints, f, few)) ∙ f in
    let m = back (end -ℤ pos n) (omega (arith, ints, low, few)) (omega (arith, ints, high)) in
    rw (e, l) (omega (arith, ints, m))
