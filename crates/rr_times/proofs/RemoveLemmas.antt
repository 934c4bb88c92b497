-- Rising seconds without one of them.
use Rattle.std.proofs.Common.{◌≡◌, ◌≢◌, ℕ, zero, suc, ◌+◌, ◌<◌, ◌≤◌, List, length, get_or, Contains, inl, inr, refl, sym, ap, ◌∙◌, arith}
use Rattle.std.specs.Prelude.{nat_lt, remove}
use Rattle.std.proofs.lemmas.List.{get_or_default}
use Rattle.std.proofs.lemmas.List.Edits.{get_or-remove_below, get_or-remove_above, length-remove}
use Rattle.std.proofs.lemmas.List.Elements.{Contains-get_or}
use Rattle.std.proofs.lemmas.Bool.{cases_lt}
use Rattle.rr_model.specs.Rising.{Rises}
use Rattle.rr_model.specs.Rising.Sets.{IsSetOf, IsSecondsOfDay}
use Rattle.rr_model.proofs.RisingSetLemmas.{rising_at, Rises-from_places, set_same, set_itself}
use Rattle.rr_times.specs.Split.{SplitsAt}

module _ (xs : List ℕ) (r : Rises nat_lt xs) (i : ℕ) (h : i < length xs) where
  shorter : length (remove xs i) + 1 ≡ length xs
  shorter = length-remove xs i h

  rises_still : Rises nat_lt (remove xs i)
  rises_still = Rises-from_places (remove xs i) (λ k l. elim (cases_lt (suc k) i) [
    | inl m ↦ omega (
      arith,
      get_or-remove_below xs i 0 k (omega arith) h,
      get_or-remove_below xs i 0 (suc k) m h,
      rising_at xs r k (suc k) (omega arith) (omega arith),
    )
    | inr m ↦ elim (cases_lt k i) [
      | inl n ↦ omega (
        arith,
        get_or-remove_below xs i 0 k n h,
        get_or-remove_above xs i 0 (suc k) m h,
        rising_at xs r k (suc k + 1) (omega arith) (omega (arith, shorter)),
      )
      | inr n ↦ omega (
        arith,
        get_or-remove_above xs i 0 k n h,
        get_or-remove_above xs i 0 (suc k) m h,
        rising_at xs r (k + 1) (suc k + 1) (omega arith) (omega (arith, shorter)),
      )
    ]
  ])

  pub without_one : (x : ℕ) → get_or xs i 0 ≡ x → IsSetOf nat_lt (remove xs i) (λ s. Contains xs s × (s ≢ x))
  without_one x e = record { rises = rises_still; exact = λ s. (to s, from s) }
    where
      to : (s : ℕ) → Contains (remove xs i) s → Contains xs s × (s ≢ x)
      to s c =
          let at : get_or (remove xs i) c.0 0 ≡ s = get_or_default (remove xs i) c.0 0 s c.1 ∙ c.2 in
          elim (cases_lt c.0 i) [
            | inl m ↦ (let b : get_or xs c.0 0 ≡ s = sym (get_or-remove_below xs i 0 c.0 m h) ∙ at in
                let l : c.0 < length xs = omega (arith, h, m) in
                ((c.0, l, get_or_default xs c.0 s 0 l ∙ b), λ f. omega (arith, rising_at xs r c.0 i m h, b, e, f)))
            | inr m ↦ (let b : get_or xs (c.0 + 1) 0 ≡ s = sym (get_or-remove_above xs i 0 c.0 m h) ∙ at in
                let l : c.0 + 1 < length xs = omega (arith, shorter, c.1) in
                ((c.0 + 1, l, get_or_default xs (c.0 + 1) s 0 l ∙ b), λ f. omega (arith, rising_at xs r i (c.0 + 1) (omega arith) l, b, e, f)))
          ]

      from : (s : ℕ) → Contains xs s × (s ≢ x) → Contains (remove xs i) s
      from s p =
          let c = p.0 in
          let at : get_or xs c.0 0 ≡ s = get_or_default xs c.0 0 s c.1 ∙ c.2 in
          elim (cases_lt c.0 i) [
            | inl m ↦ (let l : c.0 < length (remove xs i) = omega (arith, shorter, m, h) in
                (c.0, l, get_or_default (remove xs i) c.0 s 0 l ∙ get_or-remove_below xs i 0 c.0 m h ∙ at))
            | inr m ↦ elim (cases_lt i c.0) [
              | inr n ↦ absurd (let same : c.0 ≡ i = omega arith in p.1 (sym at ∙ ap (λ k. get_or xs k 0) same ∙ e))
              | inl n ↦ above s c.0 n c.1 at
            ]
          ]
        where
          above : (s j : ℕ) → i < j → j < length xs → get_or xs j 0 ≡ s → Contains (remove xs i) s
          above s zero m l at = absurd (omega arith)
          above s (suc j) m l at =
              let k : j < length (remove xs i) = omega (arith, shorter) in
              let g : i ≤ j = omega arith in
              let q : suc j ≡ j + 1 = omega arith in
              (j, k, get_or_default (remove xs i) j s 0 k ∙ get_or-remove_above xs i 0 j g h ∙ sym (ap (λ n. get_or xs n 0) q) ∙ at)

-- a second that does not stand at its index is none of them
pub without_none : (xs : List ℕ) (i x : ℕ) → Rises nat_lt xs → SplitsAt xs i x → (i < length xs → get_or xs i 0 ≢ x)
    → IsSetOf nat_lt xs (λ s. Contains xs s × (s ≢ x))
without_none xs i x r split other =
    set_same nat_lt (Contains xs) (λ s. Contains xs s × (s ≢ x)) xs (set_itself nat_lt xs r) (λ s. ((λ c. (c, λ e. missing s c e)), (λ p. p.0)))
  where
    missing : (s : ℕ) → Contains xs s → s ≡ x → ⊥
    missing s c e =
        let at : get_or xs c.0 0 ≡ s = get_or_default xs c.0 0 s c.1 ∙ c.2 in
        elim (cases_lt c.0 i) [
          | inl m ↦ omega (arith, split.below c.0 m, at, e)
          | inr m ↦ elim (cases_lt i c.0) [
            | inl n ↦ (let l : i < length xs = omega (arith, c.1) in
                omega (arith, rising_at xs r i c.0 n c.1, split.from i (omega arith) l, at, e, strictly i l))
            | inr n ↦ (let same : c.0 ≡ i = omega arith in let l : i < length xs = omega (arith, c.1) in other l (sym (ap (λ k. get_or xs k 0) same) ∙ at ∙ e))
          ]
        ]
      where
        strictly : (i : ℕ) → i < length xs → i < length xs
        strictly i l = l

pub fewer_seconds : (xs : List ℕ) (i : ℕ) → IsSecondsOfDay xs → i < length xs → IsSecondsOfDay (remove xs i)
fewer_seconds xs i s h = record {
  rises = (without_one xs s.rises i h (get_or xs i 0) refl).rises;
  below_a_day = λ k d l. (let c =
      ((without_one xs s.rises i h (get_or xs i 0) refl).exact (get_or (remove xs i) k d)).0 (Contains-get_or (remove xs i) k d l) in
      let e : get_or xs c.0.0 (get_or (remove xs i) k d) ≡ get_or (remove xs i) k d = c.0.2 in
      omega (arith, s.below_a_day c.0.0 (get_or (remove xs i) k d) c.0.1, e));
}
