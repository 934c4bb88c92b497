-- What stands below a second, and between two.
use Rattle.std.proofs.Common.{◌≡◌, ℕ, zero, suc, ◌+◌, ◌-◌, ◌<◌, ◌≤◌, Bool, true, false, cond, List, [], ◌∷◌, length, get_or, drop, count_by, Contains}
use Rattle.std.proofs.Common.{nat_lt, inl, inr, sym, ap, ◌∙◌, subst, arith, max}
use Rattle.std.specs.Prelude.{◌⊎◌}
use Rattle.std.specs.List.{slice_range}
use Rattle.std.proofs.lemmas.Bool.{cases_lt}
use Rattle.std.proofs.lemmas.Bool.Decides.{nat_tests}
use Rattle.std.proofs.lemmas.List.{get_or_default, get_or-take, get_or-drop, length-take, length-drop}
use Rattle.std.proofs.lemmas.List.Sums.{sum_by-cons}
use Rattle.std.proofs.lemmas.List.Elements.{Contains-get_or, All-contains, All-from_get_or}
use Rattle.rr_model.specs.Rising.{Rises}
use Rattle.rr_model.specs.Rising.Sets.{IsSetOf, IsSecondsOfDay}
use Rattle.rr_model.proofs.RisingSetLemmas.{rising_at, Rises-from_places, length-le_bound}
use Rattle.rr_times.specs.Split.{SplitsAt}

-- what a test adds to a count
abbrev counted : Bool → ℕ
counted b = cond b 1 0

-- the index is the number of those below
pub split_counts : (xs : List ℕ) (index bound : ℕ) → SplitsAt xs index bound → index ≡ count_by (λ s. nat_lt s bound) xs
split_counts [] index bound s = let h = s.within in omega arith
split_counts (x ∷ xs) zero bound s =
    let above : bound ≤ x = s.from 0 (omega arith) (omega arith) in
    let test : nat_lt x bound ≡ false = grind (arith, nat_tests) in
    let rest = split_counts xs 0 bound (record {
      within = omega arith;
      below = λ k h. absurd (omega arith);
      from =
          λ k h l. s.from (suc k) (omega arith) (omega arith);
    }) in
    let head : counted (nat_lt x bound) ≡ counted false = ap counted test in
    omega (arith, sum_by-cons (λ s. counted (nat_lt s bound)) x xs, rest, head)
split_counts (x ∷ xs) (suc index) bound s =
    let below : x < bound = s.below 0 (omega arith) in
    let test : nat_lt x bound ≡ true = grind (arith, nat_tests) in
    let rest = split_counts xs index bound (record {
      within = omega (arith, s.within);
      below = λ k h. s.below (suc k) (omega arith);
      from =
          λ k h l. s.from (suc k) (omega arith) (omega arith);
    }) in
    let head : counted (nat_lt x bound) ≡ counted true = ap counted test in
    omega (arith, sum_by-cons (λ s. counted (nat_lt s bound)) x xs, rest, head)

-- an index in the seconds of a day fits its type
pub split_fits : (xs : List ℕ) (index bound : ℕ) → SplitsAt xs index bound → IsSecondsOfDay xs → index ≤ 86_400
split_fits xs index bound s day = omega (arith, s.within, length-le_bound xs 86_400 day.rises day.below_a_day)

-- a set of some of the seconds of a day holds seconds of a day
pub some_seconds : (P : ℕ → Type 0) (out : List ℕ) → IsSetOf nat_lt out P → ((s : ℕ) → P s → s < 86_400) → IsSecondsOfDay out
some_seconds P out set within = record {
  rises = set.rises;
  below_a_day = All-from_get_or (λ s. s < 86_400) out 0 (λ k l. within (get_or out k 0) ((set.exact (get_or out k 0)).0 (Contains-get_or out k 0 l)));
}

pub second_of_day : (xs : List ℕ) (s : ℕ) → IsSecondsOfDay xs → Contains xs s → s < 86_400
second_of_day xs s day c = All-contains (λ s. s < 86_400) xs s day.below_a_day c

module _ (xs : List ℕ) (i j : ℕ) where
  length_range : j ≤ length xs → length (slice_range xs i j) ≡ j - i
  length_range h = omega (arith, length-take (j - i) (drop i xs), length-drop i xs)

  at_range : (k : ℕ) → k < j - i → get_or (slice_range xs i j) k 0 ≡ get_or xs (i + k) 0
  at_range k h = get_or-take (j - i) (drop i xs) k 0 h ∙ get_or-drop i xs k 0

-- the greater of two indices
pub reach : (last start end : ℕ) → end ≡ max last start → (last ≤ end) × (start ≤ end) × ((end ≡ last) ⊎ (end ≡ start))
reach last start end e = (omega arith, omega arith, elim (cases_lt last start) [ inl l ↦ inr (omega arith) | inr l ↦ inl (omega arith) ])

-- the part between the two indices
module _ (xs : List ℕ) (r : Rises nat_lt xs) (from to start last end : ℕ) (at_start : SplitsAt xs start from) (at_last : SplitsAt xs last to)
    (reached : (last ≤ end) × (start ≤ end) × ((end ≡ last) ⊎ (end ≡ start))) where
  within : end ≤ length xs
  within = elim reached.2 [ inl e ↦ omega (arith, at_last.within) | inr e ↦ omega (arith, at_start.within) ]

  -- a second from `from` to below `to` stands in the part
  back : (s : ℕ) → Contains xs s → from ≤ s → s < to → Contains (slice_range xs start end) s
  back s (k, l, e) low high =
      let at : get_or xs k 0 ≡ s = get_or_default xs k 0 s l ∙ e in
      let from_start : start ≤ k = elim (cases_lt k start) [ inl m ↦ absurd (omega (arith, at_start.below k m)) | inr m ↦ m ] in
      let to_end : k < end = elim (cases_lt k last) [ inl m ↦ omega arith | inr m ↦ absurd (omega (arith, at_last.from k m l)) ] in
      let inside : k - start < end - start = omega arith in
      let same : start + (k - start) ≡ k = omega arith in
      let here : get_or (slice_range xs start end) (k - start) 0 ≡ s = at_range xs start end (k - start) inside ∙ ap (λ n. get_or xs n 0) same ∙ at in
      subst (λ z. Contains (slice_range xs start end) z) here
      (Contains-get_or (slice_range xs start end) (k - start) 0 (omega (arith, length_range xs start end within)))

  pub cut_between : IsSetOf nat_lt (slice_range xs start end) (λ s. Contains xs s × (from ≤ s) × (s < to))
  cut_between =
      let size = length_range xs start end within in
      record {
        rises = Rises-from_places (slice_range xs start end)
            (λ k l. omega (
              arith,
              at_range xs start end k (omega arith),
              at_range xs start end (suc k) (omega arith),
              rising_at xs r (start + k) (start + suc k) (omega arith) (omega (arith, within)),
            ));
        exact = λ s. (
          (λ (k, l, e).
              let inside : k < end - start = omega arith in
              let at : get_or xs (start + k) 0 ≡ s = sym (at_range xs start end k inside) ∙ get_or_default (slice_range xs start end) k 0 s l ∙ e in
              let here : start + k < length xs = omega (arith, within) in (
                subst (λ z. Contains xs z) at (Contains-get_or xs (start + k) 0 here),
                omega (arith, at_start.from (start + k) (omega arith) here),
                elim reached.2 [ inl f ↦ omega (arith, at_last.below (start + k) (omega arith)) | inr f ↦ absurd (omega arith) ],
              )),
          (λ q. back s q.0 q.1 q.2),
        );
      }
