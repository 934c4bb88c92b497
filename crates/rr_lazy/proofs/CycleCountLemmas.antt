-- How many seconds of days that repeat pass a test: as many in each cycle.
use Rattle.std.proofs.Common.{◌≡◌, ℕ, zero, suc, ◌+◌, ◌*◌, Bool, ℤ, pos, ◌+ℤ◌, ◌≤ℤ◌, sym, ap, ◌∙◌, arith}
use Rattle.std.proofs.lemmas.Int.{ints}
use Rattle.rr_model.specs.Sets.Counting.{count_seconds, count_days}
use Rattle.rr_model.proofs.CountLemmas.{count_seconds-zero, count_seconds-suc}
use Rattle.rr_lazy.proofs.CountingLemmas.{count_days-zero, count_days-suc}

pub seconds_alike : (f g : ℕ → Bool) (n : ℕ) → ((s : ℕ) → f s ≡ g s) → count_seconds f n ≡ count_seconds g n
seconds_alike f g zero same = count_seconds-zero f ∙ sym (count_seconds-zero g)
seconds_alike f g (suc n) same =
    count_seconds-suc f n ∙ (rw (same n, seconds_alike f g n same) (sym (count_seconds-suc g n)))

pub days_split : (test : ℤ → ℕ → Bool) (q : ℤ) (n m : ℕ) → count_days test q (n + m) ≡ count_days test q n + count_days test (q +ℤ pos n) m
days_split test q n zero = let e : n + 0 ≡ n = omega arith in rw e (omega (arith, count_days-zero test (q +ℤ pos n)))
days_split test q n (suc m) =
    let e : n + suc m ≡ suc (n + m) = omega arith in
    let at : q +ℤ pos (n + m) ≡ (q +ℤ pos n) +ℤ pos m = omega (arith, ints) in
    let day = ap (λ z. count_seconds (test z) 86_400) at in
    rw e (omega (arith, count_days-suc test q (n + m), days_split test q n m, count_days-suc test (q +ℤ pos n) m, day))

module _ (test : ℤ → ℕ → Bool) (q : ℤ) (c : ℕ) (repeats : (d : ℤ) (s : ℕ) → q ≤ℤ d → test (d +ℤ pos c) s ≡ test d s) where
  -- a cycle later as many
  pub days_later : (p : ℤ) (n : ℕ) → q ≤ℤ p → count_days test (p +ℤ pos c) n ≡ count_days test p n
  days_later p zero l = count_days-zero test (p +ℤ pos c) ∙ sym (count_days-zero test p)
  days_later p (suc n) l =
      let at : (p +ℤ pos c) +ℤ pos n ≡ (p +ℤ pos n) +ℤ pos c = omega (arith, ints) in
      let same = seconds_alike (test ((p +ℤ pos n) +ℤ pos c)) (test (p +ℤ pos n)) 86_400 (λ s. repeats (p +ℤ pos n) s (omega (arith, ints, l))) in
      let day : count_seconds (test ((p +ℤ pos c) +ℤ pos n)) 86_400 ≡ count_seconds (test (p +ℤ pos n)) 86_400 =
      ap (λ z. count_seconds (test z) 86_400) at ∙ same in
      omega (arith, count_days-suc test (p +ℤ pos c) n, count_days-suc test p n, day, days_later p n l)

  -- k cycles have k times as many as one
  pub cycles_count : (k : ℕ) → count_days test q (k * c) ≡ k * count_days test q c
  cycles_count zero = let e : 0 * c ≡ 0 = omega arith in rw e (omega (arith, count_days-zero test q))
  cycles_count (suc k) =
      let e : suc k * c ≡ c + k * c = omega arith in
      rw e (omega (arith, days_split test q c (k * c), days_later q (k * c) (omega (arith, ints)), cycles_count k))

  -- n days into the cycle after k whole ones
  pub cycles_and_days : (k n : ℕ) → count_days test q (k * c + n) ≡ k * count_days test q c + count_days test q n
  cycles_and_days k n = omega (arith, days_split test q (k * c) n, cycles_count k, later k q (omega (arith, ints)))
    where
      later : (k : ℕ) (p : ℤ) → q ≤ℤ p → count_days test (p +ℤ pos (k * c)) n ≡ count_days test p n
      later zero p l = let e : p +ℤ pos (0 * c) ≡ p = omega (arith, ints) in ap (λ z. count_days test z n) e
      later (suc k) p l =
          let e : p +ℤ pos (suc k * c) ≡ (p +ℤ pos (k * c)) +ℤ pos c = omega (arith, ints) in
          ap (λ z. count_days test z n) e ∙ days_later (p +ℤ pos (k * c)) n (omega (arith, ints, l)) ∙ later k p l
