-- Counts of seconds of days.
use Rattle.std.proofs.Common.{◌≡◌, ℕ, zero, suc, ◌+◌, ◌-◌, ◌<◌, ◌≤◌, Bool, true, false, List, length, get_or, Contains, All, ℤ, pos, nat_abs, ◌+ℤ◌}
use Rattle.std.proofs.Common.{◌-ℤ◌, ◌≤ℤ◌, ◌<ℤ◌, refl, sym, ap, ◌∙◌, inl, inr, arith}
use Rattle.std.specs.Prelude.{IsTrue, nat_lt}
use Rattle.std.proofs.lemmas.Int.{ints}
use Rattle.std.proofs.lemmas.Bool.{cases_lt}
use Rattle.std.proofs.lemmas.List.Elements.{Contains-get_or}
use Rattle.std.proofs.lemmas.List.{get_or_default}
use Rattle.rr_times.proofs.SplitLemmas.{rising_le}
use Rattle.rr_model.specs.Calendar.{first_day_of_year}
use Rattle.rr_model.specs.Rising.Sets.{IsSetOf}
use Rattle.rr_model.proofs.RisingSetLemmas.{rising_at}
use Rattle.rr_model.specs.Sets.Counting.{count_seconds, count_days, count_before, count_to}
use Rattle.rr_model.proofs.CountLemmas.{count_seconds-zero}

-- ---- one more

pub count_seconds_yes : (test : ℕ → Bool) (n : ℕ) → test n ≡ true → count_seconds test (suc n) ≡ count_seconds test n + 1
unfolding count_seconds
count_seconds_yes test n e = rw e refl

pub count_seconds_no : (test : ℕ → Bool) (n : ℕ) → test n ≡ false → count_seconds test (suc n) ≡ count_seconds test n
unfolding count_seconds
count_seconds_no test n e = rw e (omega arith)

pub count_days-zero : (test : ℤ → ℕ → Bool) (q : ℤ) → count_days test q 0 ≡ 0
unfolding count_days
count_days-zero test q = refl

pub count_days-suc : (test : ℤ → ℕ → Bool) (q : ℤ) (n : ℕ) → count_days test q (suc n) ≡ count_days test q n + count_seconds (test (q +ℤ pos n)) 86_400
unfolding count_days
count_days-suc test q n = refl

-- ---- stretches that pass nothing

pub seconds_none : (test : ℕ → Bool) (n m : ℕ) → ((s : ℕ) → n ≤ s → s < n + m → test s ≡ false) → count_seconds test (n + m) ≡ count_seconds test n
seconds_none test n zero none = ap (count_seconds test) (let e : n + 0 ≡ n = omega arith in e)
seconds_none test n (suc m) none =
    let e : n + suc m ≡ suc (n + m) = omega arith in
    rw e (count_seconds_no test (n + m) (none (n + m) (omega arith) (omega arith)) ∙ seconds_none test n m (λ s l h. none s l (omega arith)))

pub seconds_skip : (test : ℕ → Bool) (n p : ℕ) → n ≤ p → ((s : ℕ) → n ≤ s → s < p → test s ≡ false) → count_seconds test p ≡ count_seconds test n
seconds_skip test n p l none =
    let e : p ≡ n + (p - n) = omega arith in
    rw e (seconds_none test n (p - n) (λ s a b. none s a (omega arith)))

pub seconds_all_none : (test : ℕ → Bool) (p : ℕ) → ((s : ℕ) → test s ≡ false) → count_seconds test p ≡ 0
seconds_all_none test p none = seconds_skip test 0 p (omega arith) (λ s a b. none s) ∙ count_seconds-zero test

pub days_none : (test : ℤ → ℕ → Bool) (q : ℤ) (n m : ℕ) → ((d : ℤ) (s : ℕ) → (q +ℤ pos n) ≤ℤ d → d <ℤ (q +ℤ pos (n + m)) → test d s ≡ false)
    → count_days test q (n + m) ≡ count_days test q n
days_none test q n zero none = ap (count_days test q) (let e : n + 0 ≡ n = omega arith in e)
days_none test q n (suc m) none =
    let e : n + suc m ≡ suc (n + m) = omega arith in
    let here : count_seconds (test (q +ℤ pos (n + m))) 86_400 ≡ 0 =
    seconds_all_none (test (q +ℤ pos (n + m))) 86_400 (λ s. none (q +ℤ pos (n + m)) s (omega (arith, ints)) (omega (arith, ints))) in
    let rest : count_days test q (n + m) ≡ count_days test q n = days_none test q n m (λ d s a b. none d s a (omega (arith, ints))) in
    rw e (omega (arith, count_days-suc test q (n + m), here, rest))

-- ---- the days before a day

module _ (test : ℤ → ℕ → Bool) where
  pub before_as : (d : ℤ) (n : ℕ) → d ≡ first_day_of_year (pos 1) +ℤ pos n → count_before test d ≡ count_days test (first_day_of_year (pos 1)) n
  unfolding count_before
  before_as d n e = let k : nat_abs (d -ℤ first_day_of_year (pos 1)) ≡ n = omega (arith, ints) in rw k refl

  -- nothing lies before the first day
  pub before_none : count_before test (first_day_of_year (pos 1)) ≡ 0
  before_none = before_as (first_day_of_year (pos 1)) 0 (omega (arith, ints)) ∙ count_days-zero test (first_day_of_year (pos 1))

  -- a stretch of days that passes nothing counts nothing
  pub before_skip : (d e : ℤ) → first_day_of_year (pos 1) ≤ℤ d → d ≤ℤ e → ((x : ℤ) (s : ℕ) → d ≤ℤ x → x <ℤ e → test x s ≡ false)
      → count_before test e ≡ count_before test d
  before_skip d e f l none =
      let q : ℤ = first_day_of_year (pos 1) in
      let n : ℕ = nat_abs (d -ℤ q) in
      let m : ℕ = nat_abs (e -ℤ d) in
      let a : d ≡ q +ℤ pos n = omega (arith, ints) in
      let b : e ≡ q +ℤ pos (n + m) = omega (arith, ints) in
      before_as e (n + m) b ∙ days_none test q n m (λ x s g h. none x s (omega (arith, ints)) (omega (arith, ints))) ∙ sym (before_as d n a)

  -- the next day counts that day's seconds too
  pub before_next : (d : ℤ) → first_day_of_year (pos 1) ≤ℤ d → count_before test (d +ℤ pos 1) ≡ count_before test d + count_seconds (test d) 86_400
  before_next d f =
      let q : ℤ = first_day_of_year (pos 1) in
      let n : ℕ = nat_abs (d -ℤ q) in
      let a : d ≡ q +ℤ pos n = omega (arith, ints) in
      let b : d +ℤ pos 1 ≡ q +ℤ pos (suc n) = omega (arith, ints) in
      before_as (d +ℤ pos 1) (suc n) b ∙ count_days-suc test q n ∙ (rw (sym a, before_as d n a) refl)

  -- later days count no less
  pub before_grows : (d e : ℤ) → first_day_of_year (pos 1) ≤ℤ d → d ≤ℤ e → count_before test d ≤ count_before test e
  before_grows d e f l =
      let q : ℤ = first_day_of_year (pos 1) in
      let n : ℕ = nat_abs (d -ℤ q) in
      let m : ℕ = nat_abs (e -ℤ d) in
      let a : d ≡ q +ℤ pos n = omega (arith, ints) in
      let b : e ≡ q +ℤ pos (n + m) = omega (arith, ints) in
      omega (arith, before_as d n a, before_as e (n + m) b, grows q n m)
    where
      grows : (q : ℤ) (n m : ℕ) → count_days test q n ≤ count_days test q (n + m)
      grows q n zero = omega (arith, ap (count_days test q) (let e : n + 0 ≡ n = omega arith in e))
      grows q n (suc m) =
          let e : n + suc m ≡ suc (n + m) = omega arith in
          omega (arith, grows q n m, count_days-suc test q (n + m), ap (count_days test q) e)

  pub to_is : (d : ℤ) (s : ℕ) → count_to test d s ≡ count_before test d + count_seconds (test d) (s + 1)
  unfolding count_to
  to_is d s = refl

-- ---- the seconds of one day as a list

module _ (test : ℕ → Bool) (xs : List ℕ) (set : IsSetOf nat_lt xs (λ s. IsTrue (test s))) where
  member : (s : ℕ) (c : Contains xs s) → get_or xs c.0 0 ≡ s
  member s c = get_or_default xs c.0 0 s c.1 ∙ c.2

  -- no second between two neighbours passes
  gap : (k s : ℕ) → ((j : ℕ) → j < k → j < length xs → get_or xs j 0 < s) → (k < length xs → s < get_or xs k 0) → test s ≡ false
  gap k s low high = elim (test s) as (λ b. test s ≡ b → test s ≡ false) [
    | false ↦ λ e. e
    | true ↦ λ e. (let c = (set.exact s).1 e in elim (cases_lt c.0 k) [
      | inl l ↦ absurd (omega (arith, low c.0 l c.1, member s c))
      | inr g ↦ (let l : k < length xs = omega (arith, c.1) in absurd (omega (arith, member s c, high l, rising_le xs set.rises k c.0 g c.1)))
    ])
  ] refl

  -- the seconds up to the one at an index are as many as the index says
  pub seconds_to : (k : ℕ) → k < length xs → count_seconds test (get_or xs k 0 + 1) ≡ k + 1
  seconds_to k l =
      let x : ℕ = get_or xs k 0 in
      let here : test x ≡ true = (set.exact x).0 (Contains-get_or xs k 0 l) in
      let e : x + 1 ≡ suc x = omega arith in
      rw e (count_seconds_yes test x here ∙ ap (λ n. n + 1) (below k l))
    where
      below : (k : ℕ) → k < length xs → count_seconds test (get_or xs k 0) ≡ k
      below zero l = seconds_skip test 0 (get_or xs 0 0) (omega arith) (λ s a b. gap 0 s (λ j h m. absurd (omega arith)) (λ h. b)) ∙ count_seconds-zero test
      below (suc k) l =
          let x : ℕ = get_or xs k 0 in
          let y : ℕ = get_or xs (suc k) 0 in
          let up : x < y = rising_at xs set.rises k (suc k) (omega arith) l in
          let here : test x ≡ true = (set.exact x).0 (Contains-get_or xs k 0 (omega arith)) in
          let skip : count_seconds test y ≡ count_seconds test (suc x) =
          seconds_skip test (suc x) y (omega arith)
          (λ s a b. gap (suc k) s (λ j h m. omega (arith, a, rising_le xs set.rises j k (omega arith) (omega arith))) (λ h. b)) in
          omega (arith, skip, count_seconds_yes test x here, below k (omega arith))

  -- all seconds are as many as the list has
  pub seconds_whole : (n : ℕ) → All (λ s. s < n) xs → count_seconds test n ≡ length xs
  seconds_whole n small = whole (length xs) refl
    where
      whole : (m : ℕ) → length xs ≡ m → count_seconds test n ≡ m
      whole zero e = seconds_all_none test n (λ s. gap 0 s (λ j h m. absurd (omega arith)) (λ h. absurd (omega arith)))
      whole (suc k) e =
          let x : ℕ = get_or xs k 0 in
          let l : x < n = small k 0 (omega arith) in
          let skip : count_seconds test n ≡ count_seconds test (x + 1) =
          seconds_skip test (x + 1) n (omega arith)
          (λ s a b. gap (suc k) s (λ j h m. omega (arith, a, rising_le xs set.rises j k (omega arith) (omega arith))) (λ h. absurd (omega arith))) in
          omega (arith, skip, seconds_to k (omega arith))
