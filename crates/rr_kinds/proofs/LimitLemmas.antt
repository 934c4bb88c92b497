-- A series that goes by kinds counts nothing, and each of its days has one second.
use Rattle.std.proofs.Common.{◌≡◌, ◌≢◌, ◌⊎◌, ℕ, zero, suc, ◌<◌, ◌≤◌, Bool, true, false, ◌&&◌, ◌||◌, List, [], ◌∷◌, length, get_or, All, ℤ, refl, sym, ap, subst, ◌∙◌, inl, inr, arith}
use Rattle.std.specs.Prelude.{AllPairs, nat_lt, if◌then◌else◌, int_lt}
use Rattle.std.specs.List.{Contains}
use Rattle.std.proofs.lemmas.Bool.{and_parts, false≢true}
use Rattle.std.proofs.lemmas.Bool.Decides.{nat_tests}
use Rattle.std.proofs.lemmas.Int.{ints}
use Rattle.rr_model.specs.Moment.{moment_at, second_part}
use Rattle.rr_model.specs.Rising.{Rises, with_value}
use Rattle.rr_model.specs.Rule.DaysAndTimes.{seconds_of}
use Rattle.rr_model.specs.Series.Limits.{CountsMore, IsCountedTooFar, IsTimeSetBefore, IsTooManyMoments}
use Rattle.rr_model.specs.Series.Tree.{dates_with_start, members_of, members_of_all, tree_of, up_to_end}
use Rattle.rr_model.specs.Sets.Sizes.{total_size}
use Rattle.rr_model.specs.Sets.Tree.{chosen_of, has_second, is_among, some_stands_at, stands_at}
use Rattle.rr_model.specs.declared.kind.Kind.{Kind}
use Rattle.rr_model.specs.declared.kind.Kind.TheVariants.{Days, Moments}
use Rattle.rr_model.specs.declared.rule.Series.{Series}
use Rattle.rr_model.specs.Rule.Chosen.{is_chosen}
use Rattle.rr_model.proofs.DaysAndTimesLemmas.{second_at}
use Rattle.rr_model.proofs.RisingSetLemmas.{Contains-head, Contains-tail}
use Rattle.rr_kinds.specs.Form.{GoesByKinds, NoLimitRefuses}
use Rattle.rr_kinds.proofs.OccursLemmas.{chosen_is, rules_are}

-- ---- one second a day

or_cases : (a b : Bool) → (a || b) ≡ true → (a ≡ true) ⊎ (b ≡ true)
or_cases true b e = inl refl
or_cases false b e = inr e

second_low : (kind : Kind) (s : ℕ) → has_second kind s ≡ true → s < seconds_of kind
second_low Days s e = grind (arith, nat_tests)
second_low Moments s e = grind (arith, nat_tests)

-- a date that is the start's has its second
date_second : (kind : Kind) (start d : ℤ) (s : ℕ) (counts : Bool) → is_among kind (if counts then with_value int_lt [] start else []) d s ≡ true
    → s ≡ second_part kind start
date_second kind start d s true e =
    let p = and_parts (has_second kind s) _ e in
    let same : start ≡ moment_at kind d s = grind (arith, ints, p.1) in
    sym (second_at kind d s (second_low kind s p.0)) ∙ ap (second_part kind) (sym same)
date_second kind start d s false e = absurd (false≢true (sym (none (has_second kind s)) ∙ e))
  where
    none : (b : Bool) → (b && false) ≡ false
    none true = refl
    none false = refl

module _ (series : Series) (by : GoesByKinds series) where
  abbrev second : ℕ
  second = second_part series.kind series.start

  -- a member has the start's second
  member_second : (d : ℤ) (s : ℕ) → stands_at (chosen_of by.rule series.kind series.start) d s ≡ true → s ≡ second
  member_second d s e =
      let p = and_parts (has_second series.kind s) _ e in
      let q = and_parts (is_chosen by.rule series.kind series.start (moment_at series.kind d s)) _ p.1 in
      sym (second_at series.kind d s (second_low series.kind s p.0))
      ∙ ((chosen_is by.rule by.chooses.units by.chooses.time series.kind series.start (moment_at series.kind d s)).0 q.0).1

  members_second : (d : ℤ) (s : ℕ) → some_stands_at (members_of_all series.kind series.start series.rules) d s ≡ true → s ≡ second
  members_second d s e =
      let one = subst (λ rs. some_stands_at (members_of_all series.kind series.start rs) d s ≡ true) (rules_are series by) e in
      elim (or_cases (stands_at (members_of series.kind series.start by.rule) d s) false one) [
        | inl h ↦ member_second d s (subst (λ x. stands_at (up_to_end series.kind x (chosen_of by.rule series.kind series.start)) d s ≡ true) by.chooses.endless h)
        | inr h ↦ absurd (false≢true h)
      ]

  pub only_second : (d : ℤ) (s : ℕ) → stands_at (tree_of series) d s ≡ true → s ≡ second
  only_second d s e =
      let kept = (and_parts _ _ e).0 in
      let given = (and_parts _ _ kept).0 in
      elim (or_cases (is_among series.kind (dates_with_start series) d s) _ given) [
        | inl h ↦ date_second series.kind series.start d s series.start_counts
            (subst (λ xs. is_among series.kind (if series.start_counts then with_value int_lt xs series.start else xs) d s ≡ true) by.alone.plus h)
        | inr h ↦ members_second d s h
      ]

-- ---- distinct time sets

-- no second, or this one alone
abbrev IsOneOrNone : ℕ → List ℕ → Type 0
IsOneOrNone w times = (times ≡ []) ⊎ (times ≡ w ∷ [])

-- a rising list in which each second is one
one_or_none : (w : ℕ) (times : List ℕ) → Rises nat_lt times → ((s : ℕ) → Contains times s → s ≡ w) → IsOneOrNone w times
one_or_none w [] rises only = inl refl
one_or_none w (x ∷ []) rises only = inr (ap (λ y. y ∷ []) (only x (Contains-head x [])))
one_or_none w (x ∷ y ∷ ys) rises only =
    let l : x < y = grind (arith, nat_tests, rises.0) in
    absurd (omega (arith, l, only x (Contains-head x (y ∷ ys)), only y (Contains-tail x (y ∷ ys) y (Contains-head y ys))))

size : (w : ℕ) (times : List ℕ) → IsOneOrNone w times → length times ≤ 1
size w times (inl e) = omega (arith, ap length e)
size w times (inr e) = omega (arith, ap length e)

two_alike : (w : ℕ) (a b c : List ℕ) → IsOneOrNone w a → IsOneOrNone w b → IsOneOrNone w c → a ≢ b → a ≢ c → b ≢ c → ⊥
two_alike w a b c (inl e) (inl f) g ab ac bc = ab (e ∙ sym f)
two_alike w a b c (inr e) (inr f) g ab ac bc = ab (e ∙ sym f)
two_alike w a b c (inl e) (inr f) (inl g) ab ac bc = ac (e ∙ sym g)
two_alike w a b c (inl e) (inr f) (inr g) ab ac bc = bc (f ∙ sym g)
two_alike w a b c (inr e) (inl f) (inl g) ab ac bc = bc (f ∙ sym g)
two_alike w a b c (inr e) (inl f) (inr g) ab ac bc = ac (e ∙ sym g)

few_seconds : (w : ℕ) (sets : List (List ℕ)) → AllPairs (λ a b. a ≢ b) sets → All (IsOneOrNone w) sets → total_size sets ≤ 2
few_seconds w [] distinct all = omega arith
few_seconds w (a ∷ []) distinct all = omega (arith, size w a (all 0 [] (omega arith)))
few_seconds w (a ∷ b ∷ []) distinct all = omega (arith, size w a (all 0 [] (omega arith)), size w b (all 1 [] (omega arith)))
few_seconds w (a ∷ b ∷ c ∷ rest) distinct all =
    absurd (two_alike w a b c (all 0 [] (omega arith)) (all 1 [] (omega arith)) (all 2 [] (omega arith))
    (distinct 0 1 [] (omega arith) (omega arith)) (distinct 0 2 [] (omega arith) (omega arith)) (distinct 1 2 [] (omega arith) (omega arith)))

-- ---- the limits

module _ (series : Series) (by : GoesByKinds series) where
  time_set : (end : ℤ) (times : List ℕ) → (times ≢ [] → IsTimeSetBefore (tree_of series) end times) → IsOneOrNone (second_part series.kind series.start) times
  time_set end [] h = inl refl
  time_set end (x ∷ xs) h =
      let set = h (λ e. (cc)) in
      one_or_none (second_part series.kind series.start) (x ∷ xs) set.all.rises (λ s c. only_second series by set.day s ((set.all.exact s).0 c))

  few_moments : (settled : ℤ) → IsTooManyMoments series settled → ⊥
  few_moments settled many =
      let all : All (IsOneOrNone (second_part series.kind series.start)) many.sets = λ k d l. time_set _ (get_or many.sets k d) (many.occupied k d l) in
      omega (arith, few_seconds (second_part series.kind series.start) many.sets many.distinct all, many.above)

  none_counted : IsCountedTooFar series → ⊥
  none_counted (inl (zero, rule, l, same, far)) =
      let first : rule ≡ by.rule = sym same ∙ ap (λ rs. get_or rs 0 rule) (rules_are series by) in
      subst (λ e. CountsMore series.kind series.start rule e) (ap (λ r. r.end) first ∙ by.chooses.endless) far
  none_counted (inl (suc k, rule, l, same, far)) = absurd (omega (arith, l, by.alone.one))
  none_counted (inr (k, rule, l, same, far)) = absurd (omega (arith, l, ap length by.alone.excluded))

pub no_limit_refuses : NoLimitRefuses
no_limit_refuses series by = (none_counted series by, few_moments series by)
