-- Where a rule that counts has members from a day on.
use Rattle.std.proofs.Common.{◌≡◌, ◌↔◌, ℕ, zero, suc, ◌+◌, ◌<◌, ◌≤◌, Bool, ◌==◌, true, false, ℤ, pos, ◌+ℤ◌, ◌≤ℤ◌, refl, sym, ap, subst, arith}
use Rattle.std.proofs.lemmas.Int.{ints}
use Rattle.std.proofs.lemmas.Bool.{and_parts}
use Rattle.std.proofs.lemmas.Bool.Decides.{nat_tests}
use Rattle.rr_model.specs.Moment.{day_part, second_part}
use Rattle.rr_model.specs.Moment.Years.{IsInYears, IsFromYearOne}
use Rattle.rr_model.specs.Rule.Member.{IsMember}
use Rattle.rr_model.specs.Rule.Member.{members_to}
use Rattle.rr_model.specs.Series.Limits.{CountsMore, CountsTooFar, span_end}
use Rattle.rr_model.specs.Series.Soundness.{EndsNotBefore}
use Rattle.rr_model.specs.Series.Tree.{up_to_end, members_of}
use Rattle.rr_model.specs.Sets.Counting.{count_before, count_seconds, count_to}
use Rattle.rr_model.specs.Sets.Tree.{Tree, chosen_of, first_n, stands_at}
use Rattle.rr_model.specs.declared.kind.Kind.{Kind}
use Rattle.rr_model.specs.declared.kind.Kind.TheVariants.{Days, Moments}
use Rattle.rr_model.specs.declared.limits.TheConstants.{MAX_SPAN_DAYS}
use Rattle.rr_model.specs.declared.rule.End.TheVariants.{Count, Both}
use Rattle.rr_model.specs.declared.rule.Rule.{Rule}
use Rattle.rr_model.proofs.CountLemmas.{count_seconds-zero}
use Rattle.rr_lazy.proofs.AgreeLemmas.{members_agree}
use Rattle.rr_lazy.proofs.PastLemmas.{first_from_on, few_before}
use Rattle.rr_lazy.proofs.StretchLemmas.{moment_day, moment_second}
use Rattle.rr_lazy.proofs.CountingLemmas.{before_next, count_seconds_no, seconds_skip, to_is}
use Rattle.rr_lazy.proofs.MemberCountLemmas.{count_is}
use Rattle.rr_iter.specs.Ends.{HasNumberOn}
use Rattle.rr_iter.proofs.RepeatLemmas.{before_later_day, member_at}

-- ---- a rule with COUNT

-- a member on a day from this one on
abbrev HasMemberFrom : Rule → Kind → ℤ → ℤ → Type 0
HasMemberFrom rule kind start from = (t : ℤ) × (from ≤ℤ day_part kind t) × IsMember rule kind start t

-- a second that stands on a day from this one on
abbrev pub HasSecondFrom : Tree → ℤ → Type 0
HasSecondFrom tree from = (d : ℤ) × (s : ℕ) × (from ≤ℤ d) × (stands_at tree d s ≡ true)

module _
    (rule : Rule) (kind : Kind) (start : ℤ) (count : ℕ) (in_years : IsInYears kind start) (counts : rule.end ≡ Count count)
    (from : ℤ) (begun : IsFromYearOne from) where
  abbrev chosen : Tree
  chosen = chosen_of rule kind start

  same : members_of kind start rule ≡ first_n chosen count
  same = ap (λ z. up_to_end kind z (chosen_of rule kind start)) counts

  fits : EndsNotBefore kind start rule.end
  fits = subst (EndsNotBefore kind start) (sym counts) tt

  -- it has a member from the day on exactly if fewer chosen moments lie before the day than it counts, and one from the day on
  pub counted_from_on : HasMemberFrom rule kind start from ↔ ((count_before (λ x y. stands_at chosen x y) from < count) × HasSecondFrom chosen from)
  counted_from_on = (
    λ m. (
        let d = day_part kind m.0 in
        let s = second_part kind m.0 in
        let i : stands_at (members_of kind start rule) d s ≡ true = (members_agree rule kind start m.0 in_years fits).1 m.2 in
        let j : stands_at (first_n chosen count) d s ≡ true = subst (λ t. stands_at t d s ≡ true) same i in
        (few_before chosen count from begun d s m.1 j, (d, s, m.1, (and_parts _ _ j).0))),
    λ h. (
        let x = first_from_on chosen count from begun h.0 h.1.0 h.1.1 h.1.2 h.1.3 in
        let j : stands_at (members_of kind start rule) x.0 x.1 ≡ true = subst (λ t. stands_at t x.0 x.1 ≡ true) (sym same) x.3 in
        let m = member_at rule kind start in_years fits x.0 x.1 j in
        (_, omega (arith, ints, m.1, x.2), m.0)),
  )

-- ---- the members within a span

-- a date has its midnight alone
one_second : (rule : Rule) (start d : ℤ) (s : ℕ) → 1 ≤ s → stands_at (chosen_of rule Days start) d s ≡ false
one_second rule start d s l = let n : (s == 0) ≡ false = grind (arith, nat_tests) in rw n refl

module _ (rule : Rule) (start : ℤ) where
  -- the day after a span, counted over days and over the numbers of the kind
  pub in_span : (kind : Kind) → IsInYears kind start
      → count_before (λ x y. stands_at (chosen_of rule kind start) x y) (day_part kind start +ℤ pos (MAX_SPAN_DAYS + 1))
      ≡ members_to rule kind start (span_end kind start)
  in_span Days y =
      let test = λ (x : ℤ) (z : ℕ). stands_at (chosen_of rule Days start) x z in
      let t : ℤ = start +ℤ pos MAX_SPAN_DAYS in
      let begun : IsFromYearOne t = omega (arith, ints, y.0) in
      let all : count_to test t 0 ≡ members_to rule Days start t = count_is rule Days start t y (omega (arith, ints)) in
      let one = seconds_skip (test t) 1 86_400 (omega arith) (λ s a b. one_second rule start t s a) in
      let next : start +ℤ pos (MAX_SPAN_DAYS + 1) ≡ t +ℤ pos 1 = omega (arith, ints) in
      rw next (omega (arith, all, to_is test t 0, one, before_next test t begun))
  in_span Moments y =
      let test = λ (x : ℤ) (z : ℕ). stands_at (chosen_of rule Moments start) x z in
      let d : ℤ = day_part Moments start +ℤ pos MAX_SPAN_DAYS in
      let t : ℤ = span_end Moments start in
      let begun : IsFromYearOne d = omega (arith, ints, y.0) in
      let day = moment_day Moments d 86_399 refl in
      let second = moment_second Moments d 86_399 refl in
      let early = before_later_day Moments start d 86_399 (omega (arith, ints)) in
      let all = rw (day, second) at (count_is rule Moments start t y (omega (arith, ints, early))) in
      let next : day_part Moments start +ℤ pos (MAX_SPAN_DAYS + 1) ≡ d +ℤ pos 1 = omega (arith, ints) in
      rw next (omega (arith, all, to_is test d 86_399, before_next test d begun))

-- a rule with COUNT counts too far exactly if fewer of its chosen moments lie within the span than it counts
pub counts_too_far : (rule : Rule) (kind : Kind) (start : ℤ) → IsInYears kind start → (count : ℕ) → rule.end ≡ Count count
    → CountsTooFar kind start rule
    ↔ (count_before (λ x y. stands_at (chosen_of rule kind start) x y) (day_part kind start +ℤ pos (MAX_SPAN_DAYS + 1)) < count)
counts_too_far rule kind start y count e =
    let same = in_span rule start kind y in (
      λ f. (let few = subst (CountsMore kind start rule) e f in omega (arith, same, few)),
      λ few. subst (CountsMore kind start rule) (sym e) (omega (arith, same, few)),
    )

-- seconds that are counted are there
seconds_exist : (test : ℕ → Bool) (n : ℕ) → 1 ≤ count_seconds test n → (s : ℕ) × (test s ≡ true)
seconds_exist test zero l = absurd (omega (arith, count_seconds-zero test, l))
seconds_exist test (suc n) l = elim (test n) as (λ b. test n ≡ b → (s : ℕ) × (test s ≡ true)) [
  | true ↦ λ e. (n, e)
  | false ↦ λ e. seconds_exist test n (omega (arith, count_seconds_no test n e, l))
] refl

-- the day on which the chosen moment of a number lies is occupied
pub second_on : (tree : Tree) (number : ℕ) (day : ℤ) → HasNumberOn tree number day → HasSecondFrom tree day
second_on tree number day h =
    let some : 1 ≤ count_seconds (stands_at tree day) 86_400 =
    omega (arith, before_next (λ x y. stands_at tree x y) day h.begun, h.above, h.within) in
    let x = seconds_exist (stands_at tree day) 86_400 some in
    (day, x.0, omega (arith, ints), x.1)

-- ---- a rule with COUNT and UNTIL

-- it is never said to count too far: its members lie in the years 1 to 9999
pub both_not_far : (rule : Rule) (kind other : Kind) (start at : ℤ) (count : ℕ) → rule.end ≡ Both other at count → CountsTooFar kind start rule → ⊥
both_not_far rule kind other start at count e far = subst (CountsMore kind start rule) e far
