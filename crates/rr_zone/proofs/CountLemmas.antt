-- How many of rising onsets are not after a moment.
use Rattle.std.proofs.Common.{◌≡◌, ℕ, ◌-◌, ◌<◌, ◌≤◌, true, false, ℤ, pos, ◌≤ℤ◌, List, length, get_or, Contains, None, Some, inl, inr, ap, ◌∙◌, arith}
use Rattle.std.specs.Prelude.{int_le, int_lt}
use Rattle.std.specs.List.Sorted.{IsPartitionedBy, IsPartitionPoint}
use Rattle.std.proofs.lemmas.Bool.{cases_lt}
use Rattle.std.proofs.lemmas.Int.{ints}
use Rattle.std.proofs.lemmas.List.{get_or_default}
use Rattle.std.proofs.lemmas.List.Elements.{Contains-get_or}
use Rattle.rr_model.specs.Rising.{Rises}
use Rattle.rr_model.proofs.RisingSetLemmas.{rising_dates}
use Rattle.rr_zone.specs.Tables.{IsCountUpTo, last_listed}
use Rattle.rr_zone.proofs.ZoneLemmas.{IsGreatest, last_is}

rising_to : (xs : List ℤ) → Rises int_lt xs → (i j : ℕ) → i ≤ j → j < length xs → get_or xs i (pos 0) ≤ℤ get_or xs j (pos 0)
rising_to xs r i j l h =
    elim (cases_lt i j) [
      | inl m ↦ omega (arith, ints, rising_dates xs r i j m h)
      | inr m ↦
          (let e : i ≡ j = omega arith in omega (arith, ints, ap (λ n. get_or xs n (pos 0)) e))
    ]

pub parted : (onsets : List ℤ) (at : ℤ) → Rises int_lt onsets → IsPartitionedBy (λ t. int_le t at) onsets
parted onsets at r i j d le lt e =
    let a : get_or onsets i (pos 0) ≡ get_or onsets i d = get_or_default onsets i (pos 0) d (omega arith) in
    let b : get_or onsets j (pos 0) ≡ get_or onsets j d = get_or_default onsets j (pos 0) d lt in
    let m : get_or onsets i d ≤ℤ get_or onsets j d = omega (arith, ints, a, b, rising_to onsets r i j le lt) in
    grind (arith, ints)

pub counted : (onsets : List ℤ) (at : ℤ) (count : ℕ) → count ≤ length onsets
    → IsPartitionPoint (λ t. int_le t at ≡ true) (λ t. int_le t at ≡ false) onsets count → IsCountUpTo onsets at count
counted onsets at count l p = record {
  within = l;
  below = λ k h. (let t : int_le (get_or onsets k (pos 0)) at ≡ true = p.0 k (pos 0) (omega arith) h in grind (arith, ints));
  from = λ k h m. (let t : int_le (get_or onsets k (pos 0)) at ≡ false = p.1 k (pos 0) h m in grind (arith, ints));
}

module _ (onsets : List ℤ) (at : ℤ) (rises : Rises int_lt onsets) (count : ℕ) (is : IsCountUpTo onsets at count) where
  -- if none is early there is no last one
  pub none_last : count ≡ 0 → last_listed onsets at ≡ None
  none_last e = elim (last_is at None onsets rises) [
    | inl none ↦ none.0
    | inr some ↦ absurd (late some.0 some.2.there some.2.early)
  ]
    where
      late : (u : ℤ) → Contains onsets u → u ≤ℤ at → ⊥
      late u (k, l, same) early =
          let d = get_or_default onsets k (pos 0) u l in
          let h = is.from k (omega (arith, e)) l in
          omega (arith, ints, d, h, same, early)

  -- the last of those that are counted is the last one
  pub some_last : 0 < count → last_listed onsets at ≡ Some (get_or onsets (count - 1) (pos 0))
  some_last m = elim (last_is at None onsets rises) [
    | inl none ↦ absurd (none.1 last here (is.below (count - 1) (omega (arith, m))))
    | inr some ↦ some.1 ∙ ap Some (same some.0 some.2)
  ]
    where
      last : ℤ
      last = get_or onsets (count - 1) (pos 0)

      here : Contains onsets last
      here = Contains-get_or onsets (count - 1) (pos 0) (omega (arith, m, is.within))

      under : (u : ℤ) → Contains onsets u → u ≤ℤ at → u ≤ℤ last
      under u (k, l, e) early =
          let d = get_or_default onsets k (pos 0) u l in
          elim (cases_lt k count) [
            | inl h ↦ (let r = rising_to onsets rises k (count - 1) (omega arith) (omega (arith, m, is.within)) in omega (arith, ints, d, e, r))
            | inr h ↦ (let f = is.from k h l in absurd (omega (arith, ints, d, e, f, early)))
          ]

      same : (u : ℤ) → IsGreatest at onsets u → u ≡ last
      same u g =
          let a = under u g.there g.early in
          let b = g.most last here (is.below (count - 1) (omega (arith, m))) in
          omega (arith, ints, a, b)
