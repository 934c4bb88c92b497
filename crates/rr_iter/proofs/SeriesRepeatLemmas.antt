-- From its settled day on a series repeats with its cycle.
use Rattle.std.proofs.Common.{◌≡◌, ℕ, true, false, List, [], ◌∷◌, get_or, All, ℤ, pos, ◌+ℤ◌, ◌≤ℤ◌, ◌<ℤ◌, refl, sym, ap, subst, ◌∙◌, arith}
use Prim.Native.Nat.{◌∣◌}
use Rattle.std.specs.Prelude.{int_lt, if◌then◌else◌}
use Rattle.std.specs.List.{list_any}
use Rattle.std.specs.Ordering.{int_eq}
use Rattle.std.proofs.lemmas.Int.{ints}
use Rattle.std.proofs.lemmas.Bool.{and_right}
use Rattle.std.proofs.lemmas.List.Elements.{All-head, All-tail}
use Rattle.std.proofs.lemmas.List.Folds.{list_any_none}
use Rattle.std.proofs.lemmas.Nat.Gcd.{dvd_trans}
use Rattle.rr_model.specs.Moment.{day_part, moment_at}
use Rattle.rr_model.specs.Moment.Years.{IsInYears}
use Rattle.rr_model.specs.Rising.{with_value}
use Rattle.rr_model.specs.Rule.Member.{IsMember}
use Rattle.rr_model.specs.Rule.Validity.{IsValidRule}
use Rattle.rr_model.specs.Series.Cycle.{endless_cycle, rules_cycle, series_cycle}
use Rattle.rr_model.specs.Series.Settled.{EndsBefore, LieBefore, IsPast, SeriesRepeats}
use Rattle.rr_model.specs.Series.Soundness.{EndsNotBefore}
use Rattle.rr_model.specs.Series.Tree.{up_to_end, members_of, members_of_all, dates_with_start}
use Rattle.rr_model.specs.Sets.Tree.{chosen_of, has_second, is_among, stands_at, some_stands_at}
use Rattle.rr_model.specs.declared.kind.Kind.{Kind}
use Rattle.rr_model.specs.declared.rule.End.{End}
use Rattle.rr_model.specs.declared.rule.End.TheVariants.{Never, Until, Count, Both}
use Rattle.rr_model.specs.declared.rule.Rule.{Rule}
use Rattle.rr_model.specs.declared.rule.Series.{Series}
use Rattle.rr_model.proofs.RisingLemmas.{All-with_value}
use Rattle.rr_num.proofs.DivisorLemmas.{lcm_is}
use Rattle.rr_check.proofs.SeriesCycleLemmas.{endless_cycle_some, have_intervals, rules_cycle_some}
use Rattle.rr_model.proofs.OrderLemmas.{day_mono}
use Rattle.rr_iter.proofs.RepeatLemmas.{before_later_day, chosen_later, none_ended}

-- ---- rules

-- the rule ends
abbrev IsFinite : End → Type 0
IsFinite Never = ⊥
IsFinite (Until other at) = Unit {0}
IsFinite (Count count) = Unit {0}
IsFinite (Both other at count) = Unit {0}

module _ (kind : Kind) (start settled : ℤ) where
  -- each member of a rule that ends before the day lies before it
  members_before : (rule : Rule) (end : End) → rule.end ≡ end → IsFinite end → EndsBefore kind start settled rule end → (t : ℤ) → IsMember rule kind start t
      → day_part kind t <ℤ settled
  members_before rule Never e finite before t m = absurd finite
  members_before rule (Until other at) e finite before t m =
      let within = rw e at m.within_end in
      omega (arith, ints, before, day_mono kind t at within.1)
  members_before rule (Count count) e finite before t m = before t m
  members_before rule (Both other at count) e finite before t m = before t m

  module _ (in_years : IsInYears kind start) (past : day_part kind start <ℤ settled) (n : ℕ) (d : ℤ) (s : ℕ) (from : settled ≤ℤ d) where
    -- nothing stands in the tree of a rule that has ended, on the one day or the other
    none_later : (rule : Rule) → EndsNotBefore kind start rule.end → ((t : ℤ) → IsMember rule kind start t → day_part kind t <ℤ settled)
        → stands_at (members_of kind start rule) (d +ℤ pos n) s ≡ stands_at (members_of kind start rule) d s
    none_later rule fits before =
        none_ended rule kind start in_years fits settled (d +ℤ pos n) s before (omega (arith, ints, from))
        ∙ sym (none_ended rule kind start in_years fits settled d s before from)

    rule_repeats : (rule : Rule) (end : End) → rule.end ≡ end → IsValidRule kind rule → EndsNotBefore kind start rule.end
        → EndsBefore kind start settled rule end → endless_cycle end rule ∣ n
        → stands_at (members_of kind start rule) (d +ℤ pos n) s ≡ stands_at (members_of kind start rule) d s
    rule_repeats rule Never e valid fits before div =
        let same : members_of kind start rule ≡ chosen_of rule kind start = ap (λ z. up_to_end kind z (chosen_of rule kind start)) e in
        let later = chosen_later rule kind start valid n d s div (omega (arith, ints, past, from)) in
        subst (λ tree. stands_at tree (d +ℤ pos n) s ≡ stands_at tree d s) (sym same) later
    rule_repeats rule (Until other at) e valid fits before div = none_later rule fits (members_before rule (Until other at) e tt before)
    rule_repeats rule (Count count) e valid fits before div = none_later rule fits (members_before rule (Count count) e tt before)
    rule_repeats rule (Both other at count) e valid fits before div = none_later rule fits (members_before rule (Both other at count) e tt before)

    -- ends before the day
    abbrev HasEnded : Rule → Type 0
    HasEnded rule = EndsBefore kind start settled rule rule.end

    -- does not end before the start
    abbrev FitsEnd : Rule → Type 0
    FitsEnd rule = EndsNotBefore kind start rule.end

    rules_repeat : (rules : List Rule) → All (IsValidRule kind) rules → All FitsEnd rules → All HasEnded rules → rules_cycle rules ∣ n
        → some_stands_at (members_of_all kind start rules) (d +ℤ pos n) s ≡ some_stands_at (members_of_all kind start rules) d s
    unfolding rules_cycle
    rules_repeat [] valid fit before div = refl
    rules_repeat (rule ∷ rules) valid fit before div =
        let v = All-head (IsValidRule kind) rule rules valid in
        let rest_valid = All-tail (IsValidRule kind) rule rules valid in
        let some = endless_cycle_some rule.end rule v.interval_low in
        let rest_some = rules_cycle_some rules (λ k x h. (rest_valid k x h).interval_low) in
        let m = lcm_is (endless_cycle rule.end rule) (rules_cycle rules) some rest_some in
        let fits = (All-head FitsEnd rule rules fit) in
        let first = rule_repeats rule rule.end refl v fits (All-head HasEnded rule rules before) (dvd_trans _ m.0 div) in
        let rest_fit = All-tail FitsEnd rule rules fit in
        let rest = rules_repeat rules rest_valid rest_fit (All-tail HasEnded rule rules before) (dvd_trans _ m.1 div) in
        rw (first, rest) refl

-- ---- dates

-- no date stands from the day on
none_dates : (kind : Kind) (settled : ℤ) (dates : List ℤ) (d : ℤ) (s : ℕ) → LieBefore kind settled dates → settled ≤ℤ d → is_among kind dates d s ≡ false
none_dates kind settled dates d s before l =
    let none : list_any (λ x. int_eq x (moment_at kind d s)) dates ≡ false = list_any_none (λ x. int_eq x (moment_at kind d s)) dates (λ k x h. (
    let m = before_later_day kind (get_or dates k x) d s (omega (arith, ints, before k x h, l)) in
    let e : int_lt (get_or dates k x) (moment_at kind d s) ≡ true = grind (arith, ints) in
    rw e refl)) in
    and_right (has_second kind s) _ none

-- nor one of the dates with the start
with_start : (series : Series) (settled : ℤ) → IsPast series settled → LieBefore series.kind settled (dates_with_start series)
with_start series settled past =
    elim series.start_counts as (λ b. LieBefore series.kind settled (if b then with_value int_lt series.plus series.start else series.plus)) [
      | true ↦ All-with_value (λ t. day_part series.kind t <ℤ settled) int_lt series.plus series.start past.plus past.start
      | false ↦ past.plus
    ]

-- ---- the series

pub series_repeats : SeriesRepeats
series_repeats series settled sound past d s l =
    let v = sound.valid in
    let n : ℕ = series_cycle series in
    let late : settled ≤ℤ (d +ℤ pos n) = omega (arith, ints, l) in
    let of_rules = rules_cycle_some series.rules (have_intervals series.kind series.rules v.rules) in
    let of_excluded = rules_cycle_some series.excluded (have_intervals series.kind series.excluded v.excluded) in
    let both = lcm_is (rules_cycle series.rules) (rules_cycle series.excluded) of_rules of_excluded in
    let fit : All (λ rule. EndsNotBefore series.kind series.start rule.end) series.rules = λ k x h. (sound.rules k x h).end in
    let rules = rules_repeat series.kind series.start settled v.start past.start n d s l series.rules v.rules fit past.rules both.0 in
    let out = rules_repeat series.kind series.start settled v.start past.start n d s l series.excluded v.excluded sound.excluded past.excluded both.1 in
    let plus = with_start series settled past in
    let a = none_dates series.kind settled (dates_with_start series) d s plus l in
    let b = none_dates series.kind settled (dates_with_start series) (d +ℤ pos n) s plus late in
    let c = none_dates series.kind settled series.minus d s past.minus l in
    let e = none_dates series.kind settled series.minus (d +ℤ pos n) s past.minus late in
    rw (a, b, c, e, rules, out) refl
