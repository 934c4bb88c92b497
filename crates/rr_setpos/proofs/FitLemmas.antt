-- Products of a count of days and of a count of seconds of a day, over plain numbers.
use Rattle.std.proofs.Common.{◌≡◌, ℕ, suc, ◌+◌, ◌*◌, ◌/◌, ◌%◌, ◌<◌, ◌≤◌, Fits, w32, zero, arith}
use Rattle.std.proofs.lemmas.Nat.{mul-le}
use Rattle.std.proofs.Math.Nat.{div-lt_iff_lt-mul}
use Rattle.rr_model.specs.declared.kind.Kind.{Kind}
use Rattle.rr_model.specs.declared.kind.Kind.TheVariants.{Days, Moments}
use Rattle.rr_model.specs.Rule.DaysAndTimes.{seconds_of}

-- A day of either kind has at most 86,400 seconds.
seconds_few : (kind : Kind) → seconds_of kind ≤ 86400
seconds_few Days = omega arith
seconds_few Moments = omega arith

-- A number is within what it equals.
pub same_within : (a b : ℕ) → a ≡ b → a ≤ b
same_within a b is = omega arith

-- This number of days of this number of seconds each is small.
product_few : (days times seconds : ℕ) (kind : Kind) → days ≤ 366 → times ≤ seconds → seconds ≡ seconds_of kind → days * times ≤ 31622400
product_few days times seconds kind few below is = mul-le days times 366 86400 few (omega (arith, seconds_few kind))

pub product_fits : (days times seconds : ℕ) (kind : Kind) → days ≤ 366 → times ≤ seconds → seconds ≡ seconds_of kind → Fits w32 (days * times)
product_fits days times seconds kind few below is = omega (arith, product_few days times seconds kind few below is)

pub sum_fits : (days times seconds more second : ℕ) (kind : Kind) → days ≤ 366 → times ≤ seconds → seconds ≡ seconds_of kind → more ≤ second → second < 86400
    → Fits w32 (days * times + more)
sum_fits days times seconds more second kind few below is within under = omega (arith, product_few days times seconds kind few below is)

-- Of a rank below a product of days and times: there are times, its quotient is a day and its rest a time.
pub some_times : (rank days times : ℕ) → rank < days * times → 0 < times
some_times rank days zero below = grind arith
some_times rank days (suc times) below = omega arith

pub day_rank : (rank days times : ℕ) → rank < days * times → rank / times < days
day_rank rank days times below = (div-lt_iff_lt-mul (some_times rank days times below)).1 below

pub time_rank : (rank days times : ℕ) → rank < days * times → rank % times < times
time_rank rank days times below = omega (arith, some_times rank days times below)
