-- The first seconds of a day.
use Rattle.std.proofs.Common.{◌≡◌, ◌↔◌, inl, inr, ℕ, zero, suc, ◌+◌, ◌<◌, ◌≤◌, List, [], ◌∷◌, get_or, length, take, refl, ap, subst, arith}
use Rattle.std.specs.Prelude.{nat_lt}
use Rattle.std.specs.List.{Contains}
use Rattle.std.proofs.lemmas.Bool.{cases_lt}
use Rattle.rr_model.specs.Rising.{Rises}
use Rattle.rr_model.proofs.RisingSetLemmas.{Contains-cons_cases, Contains-head, Contains-none, Contains-tail, rising_at}
use Rattle.rr_times.specs.Split.{SplitsAt}

pub rising_le : (xs : List ℕ) (r : Rises nat_lt xs) (i j : ℕ) → i ≤ j → j < length xs → get_or xs i 0 ≤ get_or xs j 0
rising_le xs r i j h l =
    elim (cases_lt i j) [ inl m ↦ omega (arith, rising_at xs r i j m l) | inr m ↦ (let e : i ≡ j = omega arith in omega (arith, ap (λ n. get_or xs n 0) e)) ]

-- past an element
pub split_at : (xs : List ℕ) → Rises nat_lt xs → (i : ℕ) → i < length xs → SplitsAt xs (i + 1) (get_or xs i 0 + 1)
split_at xs r i l = record {
  within = omega arith;
  below = λ k h. (let m = rising_le xs r k i (omega arith) l in omega arith);
  from = λ k h m. (let x = rising_at xs r i k (omega arith) m in omega arith);
}

tail_split : (x : ℕ) (xs : List ℕ) (j bound : ℕ) → SplitsAt (x ∷ xs) (suc j) bound → SplitsAt xs j bound
tail_split x xs j bound s = record {
  within = (let w = s.within in omega arith);
  below = λ k h. s.below (suc k) (omega arith);
  from = λ k h l. s.from (suc k) (omega arith) (omega arith);
}

-- the first ones are those below the bound
pub prefix_exact : (xs : List ℕ) (j bound w : ℕ) → SplitsAt xs j bound → Contains (take j xs) w ↔ (Contains xs w × (w < bound))
prefix_exact [] zero bound w s = ((λ c. absurd (Contains-none w c)), (λ h. h.0))
prefix_exact [] (suc j) bound w s = ((λ c. absurd (Contains-none w c)), (λ h. absurd (Contains-none w h.0)))
prefix_exact (x ∷ xs) zero bound w s = ((λ c. absurd (Contains-none w c)), (λ h. absurd (above (x ∷ xs) (λ k l. s.from k (omega arith) l) w h.0 h.1)))
  where
    above : (ys : List ℕ) → ((k : ℕ) → k < length ys → bound ≤ get_or ys k 0) → (w : ℕ) → Contains ys w → w < bound → ⊥
    above [] from w c l = Contains-none w c
    above (y ∷ ys) from w c l =
        elim (Contains-cons_cases y ys w c) [
          | inl e ↦ (let f = from 0 (omega arith) in omega arith)
          | inr more ↦ above ys (λ k m. from (suc k) (omega arith)) w more l
        ]
prefix_exact (x ∷ xs) (suc j) bound w s =
    let rest = prefix_exact xs j bound w (tail_split x xs j bound s) in (
      (λ c. elim (Contains-cons_cases x (take j xs) w c) [
        | inl e ↦ (let f = s.below 0 (omega arith) in (subst (λ z. Contains (x ∷ xs) z) e (Contains-head x xs), omega arith))
        | inr more ↦ (let h = rest.0 more in (Contains-tail x xs w h.0, h.1))
      ]),
      (λ h. elim (Contains-cons_cases x xs w h.0) [
        | inl e ↦ subst (λ z. Contains (x ∷ take j xs) z) e (Contains-head x (take j xs))
        | inr more ↦ Contains-tail x (take j xs) w (rest.1 (more, h.1))
      ]),
    )

pub prefix_rises : (xs : List ℕ) (j : ℕ) → Rises nat_lt xs → Rises nat_lt (take j xs)
prefix_rises [] zero r = tt
prefix_rises [] (suc j) r = tt
prefix_rises (x ∷ xs) zero r = tt
prefix_rises (x ∷ []) (suc j) r = one j
  where
    one : (j : ℕ) → Rises nat_lt (x ∷ take j [])
    one zero = tt
    one (suc j) = tt
prefix_rises (x ∷ y ∷ ys) (suc zero) r = tt
prefix_rises (x ∷ y ∷ ys) (suc (suc j)) r = (r.0, prefix_rises (y ∷ ys) (suc j) r.1)

pub prefix_length : (xs : List ℕ) (j : ℕ) → j ≤ length xs → length (take j xs) ≡ j
prefix_length [] zero l = refl
prefix_length [] (suc j) l = absurd (omega arith)
prefix_length (x ∷ xs) zero l = refl
prefix_length (x ∷ xs) (suc j) l = let e = prefix_length xs j (omega arith) in omega arith
