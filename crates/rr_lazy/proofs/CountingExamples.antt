-- Worked cases of counts in the order of time.
use Rattle.std.proofs.Common.{◌≡◌, ℕ, ◌≤◌, Bool, false, ℤ, pos, ◌+ℤ◌, refl, ◌∙◌, arith}
use Rattle.std.specs.Prelude.{◌==◌, ◌||◌}
use Rattle.std.proofs.lemmas.Int.{ints}
use Rattle.std.proofs.lemmas.Bool.Decides.{nat_tests}
use Rattle.rr_model.specs.Calendar.{first_day_of_year}
use Rattle.rr_model.specs.Sets.Counting.{count_seconds, count_days, count_before, count_to}
use Rattle.rr_lazy.proofs.CountingLemmas.{count_days-zero, count_days-suc, seconds_skip, before_none, before_next, to_is}

-- of the first five seconds two pass; of the first two, none
some : (count_seconds (λ s. s == 2 || s == 4) 5 ≡ 2) × (count_seconds (λ s. s == 2 || s == 4) 2 ≡ 0)
unfolding count_seconds
some = (refl, refl)

-- each day's midnight
abbrev midnight : ℤ → ℕ → Bool
midnight day second = second == 0

one_second : (day : ℤ) → count_seconds (midnight day) 1 ≡ 1
unfolding count_seconds
one_second day = refl

later : (s : ℕ) → 1 ≤ s → (s == 0) ≡ false
later s l = grind (arith, nat_tests)

-- a day has one
one_day : (day : ℤ) → count_seconds (midnight day) 86_400 ≡ 1
one_day day = seconds_skip (midnight day) 1 86_400 (omega arith) (λ s l h. later s l) ∙ one_second day

-- two days have two
two_days : count_days midnight (pos 19_723) 2 ≡ 2
two_days =
    omega (
      arith,
      count_days-suc midnight (pos 19_723) 1,
      count_days-suc midnight (pos 19_723) 0,
      count_days-zero midnight (pos 19_723),
      one_day (pos 19_723 +ℤ pos 0),
      one_day (pos 19_723 +ℤ pos 1),
    )

-- before 0001-01-02 there is one
before_second_day : count_before midnight (first_day_of_year (pos 1) +ℤ pos 1) ≡ 1
before_second_day =
    omega (
      arith,
      before_next midnight (first_day_of_year (pos 1)) (omega (arith, ints)),
      before_none midnight,
      one_day (first_day_of_year (pos 1)),
    )

-- and up to its first second there are two
to_second_day : count_to midnight (first_day_of_year (pos 1) +ℤ pos 1) 0 ≡ 2
to_second_day =
    let day = first_day_of_year (pos 1) +ℤ pos 1 in
    omega (arith, to_is midnight day 0, before_second_day, one_second day)
