-- The last day of a rule that ends.
use Rattle.std.proofs.Common.{◌≡◌, ◌↔◌, ◌⊎◌, ℕ, ◌<◌, true, List, get_or, ℤ, pos, ◌+ℤ◌, ◌≤ℤ◌, ◌<ℤ◌, sym, subst, ◌∙◌, inl, inr, arith}
use Rattle.std.specs.Prelude.{Result, Ok, Err, IfOk}
use Rattle.std.proofs.lemmas.Int.{ints, by_lt_z}
use Rattle.std.proofs.lemmas.Bool.{false≢true}
use Rattle.rr_model.specs.Answers.{RefusedExactlyWhere}
use Rattle.rr_model.specs.Moment.{day_part, second_part, moment_at}
use Rattle.rr_model.specs.Moment.Years.{IsInYears, IsFromYearOne}
use Rattle.rr_model.specs.Rule.Member.{IsMember}
use Rattle.rr_model.specs.Rule.Validity.{EndsInYears}
use Rattle.rr_model.specs.Series.Limits.{CountsMore, CountsTooFar}
use Rattle.rr_model.specs.Series.Settled.{EndsBefore}
use Rattle.rr_model.specs.Series.Soundness.{EndsNotBefore}
use Rattle.rr_model.specs.Series.Tree.{members_of}
use Rattle.rr_model.specs.Sets.Tree.{Tree, chosen_of, stands_at}
use Rattle.rr_model.specs.declared.kind.Kind.{Kind}
use Rattle.rr_model.specs.declared.refusal.Fault.{Fault}
use Rattle.rr_model.specs.declared.refusal.Fault.TheVariants.{Refused, NoMemory}
use Rattle.rr_model.specs.declared.refusal.Refusal.TheVariants.{CountedTooFar}
use Rattle.rr_model.specs.declared.rule.End.TheVariants.{Never, Until, Count, Both}
use Rattle.rr_model.specs.declared.rule.Rule.{Rule}
use Rattle.rr_model.proofs.SecondsLemmas.{first_of_some}
use Rattle.rr_model.proofs.YearLemmas.{year_10000}
use Rattle.rr_lazy.specs.Next.{HasNone, IsFirstOccupied}
use Rattle.rr_lazy.proofs.AgreeLemmas.{members_agree}
use Rattle.rr_model.proofs.OrderLemmas.{day_mono}
use Rattle.rr_iter.specs.Counts.{IsCountOf, IsCountOfEnd, IsCountUpTo, day_alone}
use Rattle.rr_iter.specs.Ends.{AnswersDayOf, HasNumberOn, IsLastDay, IsLastUpTo, IsSoundRule, before_day}
use Rattle.rr_iter.specs.declared.counts.LastDay.{LastDay}
use Rattle.rr_iter.proofs.CountedFarLemmas.{counted_from_on, counts_too_far, second_on}
use Rattle.rr_iter.proofs.CountedLemmas.{not_after}
use Rattle.rr_iter.proofs.RepeatLemmas.{member_at}

-- ---- a walk over occupied days

-- between a day and the next one there is nothing
pub none_since : (tree : Tree) (day position : ℤ) → position ≡ day +ℤ pos 1 → HasNone tree (day +ℤ pos 1) position
none_since tree day position e d s l h = absurd (omega (arith, ints, e, l, h))

-- a day that was found is occupied
pub second_found : (tree : Tree) (from day : ℤ) (times : List ℕ) → IsFirstOccupied tree from day times → (s : ℕ) × (stands_at tree day s ≡ true)
second_found tree from day times f =
    let s : ℕ = get_or times 0 0 in
    (s, (f.all.exact s).0 (first_of_some times f.some))

-- a day within the span of a day in the years 1 to 9999
pub day_near : (tree : Tree) (first : ℤ) (number : ℕ) (result : Result LastDay Fault) → first ≤ℤ pos 2_932_896
    → AnswersDayOf tree first number (day_alone result) → IfOk result (λ last. last.day ≤ℤ pos 19_710_112)
day_near tree first number (Ok last) l a = omega (arith, ints, a.0, l)
day_near tree first number (Err fault) l a = tt

-- ---- a rule beside its start

module _ (kind : Kind) (start : ℤ) (rule : Rule) where
  -- without an end
  pub never_last : rule.end ≡ Never → IsLastDay kind start rule (day_part kind start)
  never_last e = record {
    late = omega (arith, ints);
    ends = subst (EndsBefore kind start (day_part kind start +ℤ pos 1) rule) (sym e) tt;
    least = λ settled l b. l;
  }

  pub never_far : rule.end ≡ Never → CountsTooFar kind start rule → ⊥
  never_far e f = subst (CountsMore kind start rule) e f

  -- with UNTIL
  pub until_last : (other : Kind) (at : ℤ) → rule.end ≡ Until other at → EndsNotBefore kind start rule.end → IsLastDay kind start rule (day_part kind at)
  until_last other at e f =
      let fits = subst (EndsNotBefore kind start) e f in
      record {
        late = day_mono kind start at fits.1;
        ends = (
            let l : day_part kind at <ℤ (day_part kind at +ℤ pos 1) = omega (arith, ints) in
            subst (EndsBefore kind start (day_part kind at +ℤ pos 1) rule) (sym e) l);
        least = λ settled l b. subst (EndsBefore kind start settled rule) e b;
      }

  pub until_near : (other : Kind) (at : ℤ) → rule.end ≡ Until other at → EndsInYears rule.end → EndsNotBefore kind start rule.end → IsInYears kind at
  until_near other at e y f = subst (λ k. IsInYears k at) (subst (EndsNotBefore kind start) e f).0 (subst EndsInYears e y)

  pub until_far : (other : Kind) (at : ℤ) → rule.end ≡ Until other at → CountsTooFar kind start rule → ⊥
  until_far other at e f = subst (CountsMore kind start rule) e f

  -- with COUNT
  pub count_last : (count : ℕ) (day : ℤ) → rule.end ≡ Count count → IsInYears kind start
      → HasNumberOn (chosen_of rule kind start) count day → IsLastDay kind start rule day
  count_last count day e y h =
      let begun : IsFromYearOne (day +ℤ pos 1) = omega (arith, ints, h.begun) in
      let last : (t : ℤ) → IsMember rule kind start t → day_part kind t <ℤ (day +ℤ pos 1) = λ t m.
      by_lt_z {P = day_part kind t <ℤ (day +ℤ pos 1)} (day_part kind t) (day +ℤ pos 1) (λ l. l) (λ g.
      (let few = ((counted_from_on rule kind start count y e (day +ℤ pos 1) begun).0 (t, g, m)).0 in absurd (omega (arith, few, h.within)))) in
      let member = (counted_from_on rule kind start count y e day h.begun).1 (h.above, second_on (chosen_of rule kind start) count day h) in
      record {
        late = (let a = day_mono kind start member.0 member.2.not_before in let b = last member.0 member.2 in omega (arith, ints, a, b));
        ends = subst (EndsBefore kind start (day +ℤ pos 1) rule) (sym e) last;
        least = λ settled l b. (
            let before : (t : ℤ) → IsMember rule kind start t → day_part kind t <ℤ settled = subst (EndsBefore kind start settled rule) e b in
            let early = before member.0 member.2 in
            omega (arith, ints, early, member.1));
      }

  module _ (count : ℕ) (e : rule.end ≡ Count count) (sound : IsSoundRule kind start rule) where
    pub count_answered : (result : Result LastDay Fault) → AnswersDayOf (chosen_of rule kind start) (day_part kind start) count (day_alone result)
        → IfOk result (λ last. IsLastDay kind start rule last.day)
    count_answered (Ok last) a = count_last count last.day e sound.in_years a.1
    count_answered (Err fault) a = tt

    few : CountsTooFar kind start rule ↔ (before_day (chosen_of rule kind start) (day_part kind start +ℤ pos 16_777_217) < count)
    few = counts_too_far rule kind start sound.in_years count e

    -- what was counted for this number was counted of the rule
    pub count_given : (result : Result LastDay Fault) → IfOk result (λ last. IsCountUpTo rule kind start count last.counted)
        → IfOk result (λ last. IsCountOf kind start rule last.counted)
    count_given (Ok last) h = subst (λ end. IsCountOfEnd kind start rule end last.counted) (sym e) h
    count_given (Err fault) h = tt

    pub count_refused : (result : Result LastDay Fault) → AnswersDayOf (chosen_of rule kind start) (day_part kind start) count (day_alone result)
        → RefusedExactlyWhere (CountsTooFar kind start rule) CountedTooFar result
    count_refused (Ok last) a = λ far.
        not_after (chosen_of rule kind start) count last.day _ a.1 (omega (arith, ints, a.0)) (few.0 far)
    count_refused (Err (Refused refusal)) a = (a.0, few.1 a.1)
    count_refused (Err NoMemory) a = tt

  -- with both
  module _ (other : Kind) (at : ℤ) (count : ℕ) (e : rule.end ≡ Both other at count) (y : IsInYears kind start) (f : EndsNotBefore kind start rule.end) where
    pub both_in_years : EndsInYears rule.end → IsInYears kind at
    both_in_years z = subst (λ k. IsInYears k at) (subst (EndsNotBefore kind start) e f).0 (subst EndsInYears e z)

    until_day : (t : ℤ) → IsMember rule kind start t → day_part kind t ≤ℤ day_part kind at
    until_day t m = let within = rw e at m.within_end in day_mono kind t at within.1

    module _ (day : ℤ) (h : IsLastUpTo (members_of kind start rule) (day_part kind start) (day_part kind at) day) where
      -- the day is the start's, or that of a member
      of_member : (day ≡ day_part kind start) ⊎ ((t : ℤ) × IsMember rule kind start t × (day_part kind t ≡ day))
      of_member = elim h.occupied [
        | inl q ↦ inl q
        | inr x ↦ (let m = member_at rule kind start y f day x.0 x.1 in inr (moment_at kind day x.0, m.0, m.1))
      ]

      both_after : (t : ℤ) → IsMember rule kind start t → day_part kind t <ℤ (day +ℤ pos 1)
      both_after t m = by_lt_z {P = day_part kind t <ℤ (day +ℤ pos 1)} (day_part kind t) (day +ℤ pos 1) (λ l. l) (λ g.
          (let stands = (members_agree rule kind start t y f).1 m in
          let until = until_day t m in
          let none = h.after (day_part kind t) (second_part kind t) g (omega (arith, ints, until)) in
          absurd (false≢true (sym none ∙ stands))))

      pub both_last : IsLastDay kind start rule day
      both_last = record {
        late = elim of_member [
          | inl q ↦ omega (arith, ints, q)
          | inr m ↦ (let l = day_mono kind start m.0 m.1.not_before in omega (arith, ints, l, m.2))
        ];
        ends = subst (EndsBefore kind start (day +ℤ pos 1) rule) (sym e) both_after;
        least = λ settled l b. elim of_member [
          | inl q ↦ omega (arith, ints, q, l)
          | inr m ↦ (
              let before : (t : ℤ) → IsMember rule kind start t → day_part kind t <ℤ settled = subst (EndsBefore kind start settled rule) e b in
              let early = before m.0 m.1 in
              omega (arith, ints, early, m.2))
        ];
      }

      pub both_near : EndsInYears rule.end → day ≤ℤ pos 2_932_896
      both_near z = elim of_member [
        | inl q ↦ omega (arith, ints, q, y.1, year_10000)
        | inr m ↦ (let l = until_day m.0 m.1 in let w = both_in_years z in omega (arith, ints, l, m.2, w.1, year_10000))
      ]
