-- How many chosen moments lie up to a moment, counted on the days of the tree that ends there.
use Rattle.std.proofs.Common.{◌≡◌, ℕ, ◌+◌, ◌<◌, ◌≤◌, Bool, true, false, ◌==◌, ℤ, pos, ◌+ℤ◌, ◌≤ℤ◌, ◌<ℤ◌, refl, arith}
use Rattle.std.specs.Prelude.{nat_le, int_le}
use Rattle.std.proofs.lemmas.Int.{ints}
use Rattle.std.proofs.lemmas.Bool.{and_right}
use Rattle.std.proofs.lemmas.Bool.Decides.{nat_tests}
use Rattle.rr_model.specs.Moment.{day_part, second_part, moment_at}
use Rattle.rr_model.specs.Moment.Years.{IsFromYearOne, IsInYears}
use Rattle.rr_model.specs.Rule.Member.{members_to}
use Rattle.rr_model.specs.Sets.Tree.{Tree, chosen_of, stands_at, upto}
use Rattle.rr_model.specs.declared.kind.Kind.{Kind}
use Rattle.rr_model.specs.declared.kind.Kind.TheVariants.{Days, Moments}
use Rattle.rr_model.specs.declared.rule.Rule.{Rule}
use Rattle.rr_model.proofs.WholeLemmas.{floor_whole, floor_mod_below}
use Rattle.rr_lazy.proofs.AgreeLemmas.{upto_counts}
use Rattle.rr_lazy.proofs.CountingLemmas.{before_grows, before_next, seconds_skip, to_is}
use Rattle.rr_lazy.proofs.MemberCountLemmas.{count_is}
use Rattle.rr_model.proofs.OrderLemmas.{day_mono}
use Rattle.rr_iter.specs.Ends.{IsNthDayOf, before_day}
use Rattle.rr_iter.specs.declared.nth.NthDay.TheVariants.{On, Beyond}

-- the second of a moment's day is one of 86,400
second_below : (kind : Kind) (t : ℤ) → second_part kind t + 1 ≤ 86_400
second_below Days t = omega arith
second_below Moments t = omega (arith, floor_mod_below t 86_400 (omega arith))

module _ (rule : Rule) (start : ℤ) where
  -- nothing stands on its day after it
  none_later : (kind : Kind) (at : ℤ) (s : ℕ) → second_part kind at + 1 ≤ s → stands_at (upto (chosen_of rule kind start) kind at) (day_part kind at) s ≡ false
  none_later Days at s l = let e : (s == 0) ≡ false = grind (arith, nat_tests) in rw e refl
  none_later Moments at s l =
      let w = floor_whole at 86_400 (omega arith) in
      let m : at <ℤ moment_at Moments (day_part Moments at) s = omega (arith, ints, w, l) in
      let e : int_le (moment_at Moments (day_part Moments at) s) at ≡ false = grind (arith, ints) in
      and_right (stands_at (chosen_of rule Moments start) (day_part Moments at) s) _ e

module _ (rule : Rule) (kind : Kind) (start at : ℤ) (in_years : IsInYears kind start) (late : start ≤ℤ at) where
  -- the chosen moments up to it
  abbrev tree : Tree
  tree = upto (chosen_of rule kind start) kind at

  begun : IsFromYearOne (day_part kind at)
  begun = omega (arith, ints, in_years.0, day_mono kind start at late)

  -- up to its day's end as many stand as members lie up to it
  pub members_before : before_day tree (day_part kind at +ℤ pos 1) ≡ members_to rule kind start at
  members_before =
      let test : ℤ → ℕ → Bool = λ d s. stands_at tree d s in
      let day = before_next test (day_part kind at) begun in
      let rest = seconds_skip (test (day_part kind at)) (second_part kind at + 1) 86_400 (second_below kind at) (λ s l h. none_later rule start kind at s l) in
      let whole = to_is test (day_part kind at) (second_part kind at) in
      let up = upto_counts rule kind start at in_years at late (omega (arith, ints)) in
      let all = count_is rule kind start at in_years late in
      omega (arith, day, rest, whole, up, all)

  module _ (number : ℕ) where
    -- the number lies on a day up to its own: that many members lie up to it
    pub is_placed : (day : ℤ) → IsNthDayOf tree number (day_part kind at) (On day) → true ≡ nat_le number (members_to rule kind start at)
    is_placed day p =
        let grown = before_grows (λ d s. stands_at tree d s) (day +ℤ pos 1) (day_part kind at +ℤ pos 1)
        (omega (arith, ints, p.1.begun)) (omega (arith, ints, p.0)) in
        let m : number ≤ members_to rule kind start at = omega (arith, grown, p.1.within, members_before) in
        grind (arith, nat_tests)

    -- it does not: there are fewer
    pub is_beyond : (left : ℕ) → IsNthDayOf tree number (day_part kind at) (Beyond left) → false ≡ nat_le number (members_to rule kind start at)
    is_beyond left p = let m : members_to rule kind start at < number = omega (arith, p.0, p.1, members_before) in grind (arith, nat_tests)
