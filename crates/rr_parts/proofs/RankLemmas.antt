-- The rank of a day among the days of its weekday in a month or a year, by arithmetic.
use Rattle.std.proofs.Common.{◌≡◌, ℕ, zero, suc, ◌+◌, ◌-◌, ◌/◌, ◌%◌, ◌≤◌, ◌==◌, ℤ, pos, nat_abs, ◌+ℤ◌, ◌-ℤ◌, inl, inr, sym, ap, ◌∙◌, arith}
use Rattle.std.proofs.lemmas.Int.{ints}
use Rattle.std.proofs.lemmas.Bool.{cases_eq, eq-eqb, ne_eqb}
use Rattle.rr_model.specs.Calendar.{weekday_of}
use Rattle.rr_model.specs.Whole.Count.{count_from}
use Rattle.rr_model.specs.Rule.Candidate.{has_weekday_of, rank_from_front, rank_from_back}
use Rattle.rr_model.proofs.WholeLemmas.{floor_whole, floor_mod_below}
use Rattle.rr_model.proofs.CountLemmas.{one, count_from-zero, count_from-suc, count_from-first}

-- two days have one weekday if whole weeks lie between them
pub has_weekday_of-weeks : (d e : ℤ) → has_weekday_of d e ≡ (nat_abs (e -ℤ d) % 7 == 0)
unfolding weekday_of
has_weekday_of-weeks d e =
    let a = floor_whole (d +ℤ pos 3) 7 (omega arith) in
    let b = floor_whole (e +ℤ pos 3) 7 (omega arith) in
    let x = floor_mod_below (d +ℤ pos 3) 7 (omega arith) in
    let y = floor_mod_below (e +ℤ pos 3) 7 (omega arith) in
    elim (cases_eq (weekday_of e) (weekday_of d)) [
      | inl same ↦ eq-eqb (weekday_of e) (weekday_of d) same ∙ sym (eq-eqb (nat_abs (e -ℤ d) % 7) 0 (omega (arith, ints, a, b)))
      | inr other ↦ ne_eqb (weekday_of e) (weekday_of d) other ∙ sym (ne_eqb (nat_abs (e -ℤ d) % 7) 0 (λ z. other (omega (arith, ints, a, b, x, y))))
    ]

-- one more if whole weeks are over
next_week : (n : ℕ) → (n + 6) / 7 + one (n % 7 == 0) ≡ (suc n + 6) / 7
next_week n =
    elim (cases_eq (n % 7) 0) [
      | inl whole ↦ rw (eq-eqb (n % 7) 0 whole) (omega arith)
      | inr part ↦ rw (ne_eqb (n % 7) 0 part) (omega arith)
    ]

count_after : (d : ℤ) (n : ℕ) → count_from (has_weekday_of d) d n ≡ (n + 6) / 7
count_after d zero = count_from-zero (has_weekday_of d) d
count_after d (suc n) =
    let e : nat_abs ((d +ℤ pos n) -ℤ d) ≡ n = omega (arith, ints) in
    let h : has_weekday_of d (d +ℤ pos n) ≡ (n % 7 == 0) = has_weekday_of-weeks d (d +ℤ pos n) ∙ ap (λ m. m % 7 == 0) e in
    count_from-suc (has_weekday_of d) d n ∙ omega (arith, count_after d n, ap one h, next_week n)

count_before : (d : ℤ) (n : ℕ) → count_from (has_weekday_of d) ((d -ℤ pos n) +ℤ pos 1) n ≡ (n + 6) / 7
count_before d zero = count_from-zero (has_weekday_of d) ((d -ℤ pos 0) +ℤ pos 1)
count_before d (suc n) =
    let q : ℤ = (d -ℤ pos (suc n)) +ℤ pos 1 in
    let e : nat_abs (q -ℤ d) ≡ n = omega (arith, ints) in
    let f : q +ℤ pos 1 ≡ (d -ℤ pos n) +ℤ pos 1 = omega (arith, ints) in
    let h : has_weekday_of d q ≡ (n % 7 == 0) = has_weekday_of-weeks d q ∙ ap (λ m. m % 7 == 0) e in
    count_from-first (has_weekday_of d) q n ∙ omega (arith, ap (λ t. count_from (has_weekday_of d) t n) f, count_before d n, ap one h, next_week n)

-- the k-th day of a month or a year is of its weekday the one of this number there
pub rank_from_front_is : (d : ℤ) (k : ℕ) → 1 ≤ k → rank_from_front d k ≡ (k - 1) / 7 + 1
rank_from_front_is d k h = count_before d k ∙ omega arith

pub rank_from_back_is : (d : ℤ) (k many : ℕ) → k ≤ many → rank_from_back d k many ≡ (many - k) / 7 + 1
rank_from_back_is d k many h = count_after d ((many + 1) - k) ∙ omega arith
