-- The rank of a day in the list of its unit's candidate days is a count.
use Rattle.std.proofs.Common.{◌≡◌, ℕ, zero, suc, ◌+◌, ◌<◌, Bool, true, false, List, [], ◌∷◌, length, get_or, Contains, inl, inr, ℤ, pos, nat_abs}
use Rattle.std.proofs.Common.{◌+ℤ◌, ◌-ℤ◌, ◌≤ℤ◌, ◌<ℤ◌, refl, sym, ap, ◌∙◌, arith}
use Rattle.std.specs.Prelude.{int_lt}
use Rattle.std.proofs.lemmas.Int.{ints}
use Rattle.std.proofs.lemmas.List.Elements.{Contains-get_or}
use Rattle.std.proofs.lemmas.Bool.{and_parts, and_from}
use Rattle.rr_model.specs.Whole.{divides}
use Rattle.rr_model.specs.Whole.Count.{count_from}
use Rattle.rr_model.specs.Moment.Units.{unit_number}
use Rattle.rr_model.specs.Rule.Filled.{filled_rule}
use Rattle.rr_model.specs.Rule.Candidate.{interval_holds, date_parts_hold}
use Rattle.rr_model.specs.Rising.Sets.{IsSetOf}
use Rattle.rr_model.specs.declared.kind.Kind.TheVariants.{Days}
use Rattle.rr_model.specs.declared.rule.Rule.{Rule}
use Rattle.rr_model.proofs.CountLemmas.{one, count_from-first, count_from-split, count_from-empty}
use Rattle.rr_cal.proofs.StretchLemmas.{units_are_stretches}
use Rattle.rr_model.proofs.RisingSetLemmas.{Contains-head, Contains-tail, Contains-none, Contains-cons_cases, Rises-tail, below_rest, set_same}
use Rattle.rr_model.specs.Rule.DaysAndTimes.{IsCandidateDay}
use Rattle.rr_setpos.specs.Ranks.{days_before, days_of_unit, first_of_unit, next_of_unit}

module _ (test : ℤ → Bool) where
  -- of n whole numbers from one on, those that pass
  abbrev pub PassedFrom : ℤ → ℕ → ℤ → Type 0
  PassedFrom q n d = (q ≤ℤ d) × (d <ℤ (q +ℤ pos n)) × (test d ≡ true)

  module _ (x : ℤ) (xs : List ℤ) (q : ℤ) (n : ℕ) (set : IsSetOf int_lt (x ∷ xs) (PassedFrom q n)) where
    head_is : (q ≤ℤ x) × (x <ℤ (q +ℤ pos n)) × (test x ≡ true)
    head_is = (set.exact x).0 (Contains-head x xs)

    above_head : (d : ℤ) → Contains xs d → x <ℤ d
    above_head d c = let t : int_lt x d ≡ true = below_rest int_lt (λ y m. grind (arith, ints))
        (λ y z w a b. grind (arith, ints)) x xs set.rises d c in grind (arith, ints)

    -- how many come after the head
    abbrev pub after_head : ℕ
    after_head = nat_abs ((q +ℤ pos n) -ℤ (x +ℤ pos 1))

    end_is : (x +ℤ pos 1) +ℤ pos (nat_abs ((q +ℤ pos n) -ℤ (x +ℤ pos 1))) ≡ q +ℤ pos n
    end_is = omega (arith, ints, head_is.1)

    rest_set : IsSetOf int_lt xs (PassedFrom (x +ℤ pos 1) after_head)
    rest_set = record {
      rises = Rises-tail int_lt x xs set.rises;
      exact = λ d. (
        (λ c. (let h = (set.exact d).0 (Contains-tail x xs d c) in (omega (arith, ints, above_head d c), omega (arith, ints, h.1, end_is), h.2))),
        (λ h. elim (Contains-cons_cases x xs d
            ((set.exact d).1 (omega (arith, ints, h.0, head_is.0), omega (arith, ints, h.1, end_is), h.2))) [
              | inl e ↦ absurd
                  (omega (arith, ints, e, h.0))
              | inr c ↦ c
            ]),
      );
    }

    none_before : count_from test q (nat_abs (x -ℤ q)) ≡ 0
    none_before = count_from-empty test q (nat_abs (x -ℤ q)) (λ d l h. elim (test d) as (λ b. test d ≡ b → test d ≡ false) [
      | false ↦ λ e. e
      | true ↦ λ e. absurd (elim (Contains-cons_cases x xs d ((set.exact d).1 (l, omega (arith, ints, h, head_is.0, head_is.1), e))) [
        | inl f ↦ omega
            (arith, ints, f, h, head_is.0)
        | inr c ↦ omega (arith, ints, above_head d c, h, head_is.0)
      ])
    ] refl)

    -- the count up to one after the head: the head, and those after it
    up_to : (d : ℤ) → x <ℤ d → count_from test q (nat_abs (d -ℤ q)) ≡ 1 + count_from test (x +ℤ pos 1) (nat_abs (d -ℤ (x +ℤ pos 1)))
    up_to d l =
        let m : ℕ = nat_abs (x -ℤ q) in
        let k : ℕ = nat_abs (d -ℤ (x +ℤ pos 1)) in
        let e : nat_abs (d -ℤ q) ≡ m + suc k = omega (arith, ints, l, head_is.0) in
        let at : q +ℤ pos m ≡ x = omega (arith, ints, head_is.0) in
        ap (count_from test q) e ∙ count_from-split test q m (suc k) ∙ omega
        (arith, none_before, ap (λ z. count_from test z (suc k)) at, count_from-first test x k, ap one head_is.2)

  -- the rank of each, and the length
  pub rank_is : (xs : List ℤ) (q : ℤ) (n : ℕ) → IsSetOf int_lt xs (PassedFrom q n) → (i : ℕ) → i < length xs
      → count_from test q (nat_abs (get_or xs i (pos 0) -ℤ q)) ≡ i
  rank_is [] q n set i low = absurd (omega (arith, low))
  rank_is (x ∷ xs) q n set zero low = none_before x xs q n set
  rank_is (x ∷ xs) q n set (suc i) low =
      let d = get_or xs i (pos 0) in
      up_to x xs q n set d (above_head x xs q n set d (Contains-get_or xs i (pos 0) (omega (arith, low))))
      ∙ omega (arith, rank_is xs (x +ℤ pos 1) (after_head x xs q n set) (rest_set x xs q n set) i (omega (arith, low)))

  pub length_is : (xs : List ℤ) (q : ℤ) (n : ℕ) → IsSetOf int_lt xs (PassedFrom q n) → count_from test q n ≡ length xs
  length_is [] q n set = count_from-empty test q n (λ d l h. elim (test d) as (λ b. test d ≡ b → test d ≡ false) [
    | false ↦ λ e. e
    | true ↦ λ e. absurd (Contains-none d ((set.exact d).1 (l, h, e)))
  ] refl)
  length_is (x ∷ xs) q n set =
      let h = head_is x xs q n set in
      let last : ℤ = q +ℤ pos n in
      let m : ℕ = nat_abs (x -ℤ q) in
      let k : ℕ = after_head x xs q n set in
      let e : n ≡ m + suc k = omega (arith, ints, h.0, h.1) in
      let at : q +ℤ pos m ≡ x = omega (arith, ints, h.0) in
      let rest : count_from test (x +ℤ pos 1) k ≡ length xs = length_is xs (x +ℤ pos 1) k (rest_set x xs q n set) in
      ap (count_from test q) e ∙ count_from-split test q m (suc k) ∙ omega
      (arith, none_before x xs q n set, ap (λ z. count_from test z (suc k)) at, count_from-first test x k, ap one h.2, rest)

-- ---- candidate days

-- the rank of a candidate day in the list of its unit's is the count of those before it, and the list's length the count of all
pub ranks_are_counts : (rule : Rule) (start_day unit : ℤ) (days : List ℤ) (i : ℕ) → IsSetOf int_lt days (IsCandidateDay rule start_day unit) → i < length days
    → (days_before rule start_day (get_or days i (pos 0)) ≡ i) × (days_of_unit rule start_day (get_or days i (pos 0)) ≡ length days)
ranks_are_counts rule start_day unit days i set low =
    let d = get_or days i (pos 0) in
    let own = (set.exact d).0 (Contains-get_or days i (pos 0) low) in
    let test : ℤ → Bool = λ z. date_parts_hold (filled_rule rule Days start_day) z in
    let first = first_of_unit rule d in
    let next = next_of_unit rule d in
    let n : ℕ = nat_abs (next -ℤ first) in
    let within = (units_are_stretches rule.freq rule.week_start Days d (unit_number rule.freq rule.week_start Days d)).0 refl in
    let fits : interval_holds rule Days start_day d ≡ true = (and_parts (interval_holds rule Days start_day d) (test d) own.1).0 in
    let passed : IsSetOf int_lt days (PassedFrom test first n) =
    set_same int_lt (IsCandidateDay rule start_day unit) (PassedFrom test first n) days set
    (λ e. (let stretch = units_are_stretches rule.freq rule.week_start Days e (unit_number rule.freq rule.week_start Days d) in (
      (λ h. (let s = stretch.0 (h.0 ∙ sym own.0) in
          (s.0, omega (arith, ints, s.1, within.0, within.1), (and_parts (interval_holds rule Days start_day e) (test e) h.1).1))),
      (λ h. (let same = stretch.1 (h.0, omega (arith, ints, h.1, within.0, within.1)) in (
        same ∙ own.0,
        and_from (interval_holds rule Days start_day e) (test e)
            (ap (λ u. divides rule.interval (u -ℤ unit_number rule.freq rule.week_start Days start_day)) same ∙ fits) h.2,
      ))),
    ))) in
    (rank_is test days first n passed i low, length_is test days first n passed)
