-- A series keeps its occurrences if each rule with both ends has the earlier one alone.
use Rattle.std.proofs.Common.{◌≡◌, ◌↔◌, ℕ, suc, ◌+◌, ◌<◌, ◌≤◌, true, false, cond, List, [], ◌∷◌, All, map}
use Rattle.std.proofs.Common.{ℤ, pos, nat_abs, ◌+ℤ◌, ◌-ℤ◌, ◌≤ℤ◌, ◌<ℤ◌, refl, sym, subst, ◌∙◌, inl, inr, ap, arith}
use Rattle.std.specs.Prelude.{nat_le}
use Rattle.std.proofs.Math.Path.{fun_ext}
use Rattle.std.proofs.lemmas.Int.{ints, by_lt_z}
use Rattle.std.proofs.lemmas.Bool.Decides.{nat_tests}
use Rattle.std.proofs.lemmas.List.{length-map}
use Rattle.std.proofs.lemmas.List.Elements.{All-nil, All-cons, All-head, All-tail}
use Rattle.rr_model.specs.Rule.Candidate.{is_candidate}
use Rattle.rr_model.specs.Rule.Filled.{wants_day, wants_month_day, wants_month}
use Rattle.rr_model.specs.declared.rule.Freq.{Freq}
use Rattle.rr_model.specs.declared.rule.Freq.TheVariants.{Secondly, Minutely, Hourly, Daily, Weekly, Monthly, Yearly}
use Rattle.rr_model.specs.Rule.Chosen.{is_chosen}
use Rattle.rr_model.specs.Rule.Member.{IsMember, IsWithinEnd, members_to}
use Rattle.rr_model.specs.Rule.Validity.{EndsInYears, HasCountInRange, IsValidRule}
use Rattle.rr_model.specs.Series.Cycle.{endless_cycle, rules_cycle, series_cycle}
use Rattle.rr_model.specs.Series.Occurrences.{IsMemberOfSome, Occurs}
use Rattle.rr_model.specs.Series.Soundness.{EndsNotBefore, FitsStart, IsSound}
use Rattle.rr_model.specs.Series.Validity.{IsValidSeries}
use Rattle.rr_model.specs.Sets.Verdict.{HaveEqualOccurrences}
use Rattle.rr_model.specs.Text.WriteLaws.{IsOneEnd}
use Rattle.rr_model.specs.Whole.Count.{count_from}
use Rattle.rr_model.specs.declared.kind.Kind.{Kind}
use Rattle.rr_model.specs.declared.rule.End.{End}
use Rattle.rr_model.specs.declared.rule.End.TheVariants.{Never, Until, Count, Both}
use Rattle.rr_model.specs.declared.rule.Rule.{Rule}
use Rattle.rr_model.specs.declared.rule.Series.{Series}
use Rattle.rr_model.proofs.CountLemmas.{one, count_from-suc, count_from-split}
use Rattle.rr_model.proofs.WithEndLemmas.{with_end-valid}
use Rattle.rr_translate.specs.OneEnd.{one_end, with_one_end, with_one_ends}

-- ---- one rule

module _ (rule : Rule) (kind : Kind) (start : ℤ) where
  -- which parts the start fills does not depend on the end
  same_wanted : (end : End) (freq : Freq) → (wants_day freq (record rule { end = end }) ≡ wants_day freq rule)
      × (wants_month_day freq (record rule { end = end }) ≡ wants_month_day freq rule) × (wants_month freq (record rule { end = end }) ≡ wants_month freq rule)
  same_wanted end Secondly = (refl, refl, refl)
  same_wanted end Minutely = (refl, refl, refl)
  same_wanted end Hourly = (refl, refl, refl)
  same_wanted end Daily = (refl, refl, refl)
  same_wanted end Weekly = (refl, refl, refl)
  same_wanted end Monthly = (refl, refl, refl)
  same_wanted end Yearly = (refl, refl, refl)

  -- what a rule chooses does not either
  same_candidate : (end : End) (t : ℤ) → is_candidate (record rule { end = end }) kind start t ≡ is_candidate rule kind start t
  unfolding is_candidate
  same_candidate end t = let w = same_wanted end rule.freq in rw (w.0, w.1, w.2) refl

  same_chosen : (end : End) (t : ℤ) → is_chosen (record rule { end = end }) kind start t ≡ is_chosen rule kind start t
  unfolding is_chosen
  same_chosen end t =
      let e : is_candidate (record rule { end = end }) kind start ≡ is_candidate rule kind start = fun_ext (same_candidate end) in rw e refl

  same_choice : (end : End) → is_chosen (record rule { end = end }) kind start ≡ is_chosen rule kind start
  same_choice end = fun_ext (same_chosen end)

  -- members are counted on
  counts_grow : (t u : ℤ) → start ≤ℤ t → t ≤ℤ u → members_to rule kind start t ≤ members_to rule kind start u
  counts_grow t u l h =
      let n : ℕ = nat_abs ((t -ℤ start) +ℤ pos 1) in
      let m : ℕ = nat_abs (u -ℤ t) in
      let e : nat_abs ((u -ℤ start) +ℤ pos 1) ≡ n + m = omega (arith, ints, l, h) in
      rw e (omega (arith, count_from-split (is_chosen rule kind start) start n m))

  -- a chosen moment is one more than those up to an earlier one
  counts_more : (t u : ℤ) → start ≤ℤ t → t <ℤ u → is_chosen rule kind start u ≡ true → members_to rule kind start t < members_to rule kind start u
  counts_more t u l h c =
      let n : ℕ = nat_abs ((u -ℤ start)) in
      let e : nat_abs ((u -ℤ start) +ℤ pos 1) ≡ suc n = omega (arith, ints, l, h) in
      let at : start +ℤ pos n ≡ u = omega (arith, ints, l, h) in
      let before : members_to rule kind start (u -ℤ pos 1) ≡ count_from (is_chosen rule kind start) start n =
      (let f : nat_abs (((u -ℤ pos 1) -ℤ start) +ℤ pos 1) ≡ n = omega (arith, ints, l, h) in rw f refl) in
      let grown = counts_grow t (u -ℤ pos 1) l (omega (arith, ints, h)) in
      let last : one (is_chosen rule kind start (start +ℤ pos n)) ≡ 1 = rw at (rw c refl) in
      rw e (omega (arith, count_from-suc (is_chosen rule kind start) start n, before, grown, last))

  -- the earlier of both ends lets the same be members
  within_one : (end : End) (t : ℤ) → EndsNotBefore kind start end → start ≤ℤ t → is_chosen rule kind start t ≡ true
      → IsWithinEnd (one_end rule kind start end) kind t (members_to rule kind start t) ↔ IsWithinEnd end kind t (members_to rule kind start t)
  within_one Never t f l c = (λ x. x, λ x. x)
  within_one (Until other at) t f l c = (λ x. x, λ x. x)
  within_one (Count count) t f l c = (λ x. x, λ x. x)
  within_one (Both other at count) t f l c = elim (nat_le count (members_to rule kind start at)) as
      (λ b. nat_le count (members_to rule kind start at) ≡ b
      → IsWithinEnd (cond b (Count count) (Until other at)) kind t (members_to rule kind start t)
      ↔ ((other ≡ kind) × (t ≤ℤ at) × (members_to rule kind start t ≤ count))) [
        | true ↦ λ e. (let m : count ≤ members_to rule kind start at = grind (arith, nat_tests) in (
          λ x. (f.0, by_lt_z {P = t ≤ℤ at} at t (λ h. absurd (omega (arith, counts_more at t f.1 h c, m, x))) (λ h. omega (arith, ints, h)), x),
          λ x. x.2,
        ))
        | false ↦ λ e. (let m : members_to rule kind start at < count = grind (arith, nat_tests) in (
          λ x. (f.0, x.1, omega (arith, counts_grow t at l x.1, m)),
          λ x. (x.0, x.1),
        ))
      ] refl

  -- n are members up to a moment, whatever the end
  same_count : (end : End) (t : ℤ) → members_to (record rule { end = end }) kind start t ≡ members_to rule kind start t
  same_count end t = rw (same_choice end) refl

  same_members : EndsNotBefore kind start rule.end → (t : ℤ) → IsMember (with_one_end kind start rule) kind start t ↔ IsMember rule kind start t
  same_members fit t =
      let end : End = one_end rule kind start rule.end in
      let chosen : is_chosen (record rule { end = end }) kind start t ≡ is_chosen rule kind start t = same_chosen end t in
      let count = same_count end t in (
        λ m. (let c : is_chosen rule kind start t ≡ true = sym chosen ∙ m.chosen in
            record {
              chosen = c;
              not_before = m.not_before;
              within_end = (within_one rule.end t fit m.not_before c).0 (subst (IsWithinEnd end kind t) count m.within_end);
            }),
        λ m. record {
          chosen = chosen ∙ m.chosen;
          not_before = m.not_before;
          within_end = subst (IsWithinEnd end kind t) (sym count) ((within_one rule.end t fit m.not_before m.chosen).1 m.within_end);
        },
      )

  -- ---- its end

  counts_in_range : (end : End) → HasCountInRange end → HasCountInRange (one_end rule kind start end)
  counts_in_range Never c = c
  counts_in_range (Until other at) c = c
  counts_in_range (Count count) c = c
  counts_in_range (Both other at count) c = elim (nat_le count (members_to rule kind start at)) as
      (λ b. HasCountInRange (cond b (Count count) (Until other at))) [ true ↦ c | false ↦ tt ]

  ends_in_years : (end : End) → EndsInYears end → EndsInYears (one_end rule kind start end)
  ends_in_years Never y = y
  ends_in_years (Until other at) y = y
  ends_in_years (Count count) y = y
  ends_in_years (Both other at count) y = elim (nat_le count (members_to rule kind start at)) as
      (λ b. EndsInYears (cond b (Count count) (Until other at))) [ true ↦ tt | false ↦ y ]

  ends_not_before : (end : End) → EndsNotBefore kind start end → EndsNotBefore kind start (one_end rule kind start end)
  ends_not_before Never f = f
  ends_not_before (Until other at) f = f
  ends_not_before (Count count) f = f
  ends_not_before (Both other at count) f = elim (nat_le count (members_to rule kind start at)) as
      (λ b. EndsNotBefore kind start (cond b (Count count) (Until other at))) [ true ↦ tt | false ↦ f ]

  is_one : (end : End) → IsOneEnd (one_end rule kind start end)
  is_one Never = tt
  is_one (Until other at) = tt
  is_one (Count count) = tt
  is_one (Both other at count) = elim (nat_le count (members_to rule kind start at)) as
      (λ b. IsOneEnd (cond b (Count count) (Until other at))) [ true ↦ tt | false ↦ tt ]

  same_cycle : (end : End) → endless_cycle (one_end rule kind start end) (record rule { end = one_end rule kind start end }) ≡ endless_cycle end rule
  same_cycle Never = refl
  same_cycle (Until other at) = refl
  same_cycle (Count count) = refl
  same_cycle (Both other at count) = elim (nat_le count (members_to rule kind start at)) as
      (λ b. endless_cycle (cond b (Count count) (Until other at)) (record rule { end = cond b (Count count) (Until other at) }) ≡ 1) [ true ↦ refl | false ↦ refl ]

  still_valid : IsValidRule kind rule → IsValidRule kind (with_one_end kind start rule)
  still_valid v = with_end-valid kind rule (one_end rule kind start rule.end) v (counts_in_range rule.end v.count)

  still_fits : FitsStart kind start rule → FitsStart kind start (with_one_end kind start rule)
  still_fits f = record {
    synchronised = same_chosen (one_end rule kind start rule.end) start ∙ f.synchronised;
    end = ends_not_before rule.end f.end;
  }

-- ---- all rules

-- what each rule keeps, all of them keep
all_keep : (P Q : Rule → Type 0) (kind : Kind) (start : ℤ) → ((rule : Rule) → P rule → Q (with_one_end kind start rule)) → (rules : List Rule)
    → All P rules → All Q (map (with_one_end kind start) rules)
all_keep P Q kind start keep [] all = All-nil Q
all_keep P Q kind start keep (rule ∷ rules) all =
    All-cons Q (with_one_end kind start rule) (map (with_one_end kind start) rules) (keep rule (All-head P rule rules all))
    (all_keep P Q kind start keep rules (All-tail P rule rules all))

all_one : (kind : Kind) (start : ℤ) (rules : List Rule) → All (λ rule. IsOneEnd rule.end) (map (with_one_end kind start) rules)
all_one kind start [] = All-nil (λ rule. IsOneEnd rule.end)
all_one kind start (rule ∷ rules) =
    All-cons (λ rule. IsOneEnd rule.end) (with_one_end kind start rule) (map (with_one_end kind start) rules) (is_one rule kind start rule.end)
    (all_one kind start rules)

cycles_kept : (kind : Kind) (start : ℤ) (rules : List Rule) → rules_cycle (map (with_one_end kind start) rules) ≡ rules_cycle rules
unfolding rules_cycle
cycles_kept kind start [] = refl
cycles_kept kind start (rule ∷ rules) = rw (same_cycle rule kind start rule.end, cycles_kept kind start rules) refl

members_of_some : (kind : Kind) (start : ℤ) (rules : List Rule) → All (λ rule. EndsNotBefore kind start rule.end) rules → (t : ℤ)
    → IsMemberOfSome (map (with_one_end kind start) rules) kind start t ↔ IsMemberOfSome rules kind start t
members_of_some kind start [] fit t = (λ x. x, λ x. x)
members_of_some kind start (rule ∷ rules) fit t =
    let a = same_members rule kind start (All-head (λ r. EndsNotBefore kind start r.end) rule rules fit) t in
    let b = members_of_some kind start rules (All-tail (λ r. EndsNotBefore kind start r.end) rule rules fit) t in (
      λ x. elim x [ inl m ↦ inl (a.0 m) | inr m ↦ inr (b.0 m) ],
      λ x. elim x [ inl m ↦ inl (a.1 m) | inr m ↦ inr (b.1 m) ],
    )

-- rules that fit their start do not end before it
ends_of : (kind : Kind) (start : ℤ) (rules : List Rule) → All (FitsStart kind start) rules → All (λ rule. EndsNotBefore kind start rule.end) rules
ends_of kind start [] fit = All-nil (λ rule. EndsNotBefore kind start rule.end)
ends_of kind start (rule ∷ rules) fit =
    All-cons (λ r. EndsNotBefore kind start r.end) rule rules (All-head (FitsStart kind start) rule rules fit).end
    (ends_of kind start rules (All-tail (FitsStart kind start) rule rules fit))

-- ---- the series

pub series_valid : (series : Series) → IsValidSeries series → IsValidSeries (with_one_ends series)
unfolding with_one_ends
series_valid series v = record {
  start = v.start;
  start_counts = λ e. (let h = v.start_counts e in (h.0, h.1, ap (map (with_one_end series.kind series.start)) h.2, ap (map (with_one_end series.kind series.start)) h.3, h.4, h.5));
  rules =
      all_keep (IsValidRule series.kind) (IsValidRule series.kind) series.kind series.start
      (λ rule. still_valid rule series.kind series.start) series.rules v.rules;
  excluded =
      all_keep (IsValidRule series.kind) (IsValidRule series.kind) series.kind series.start
      (λ rule. still_valid rule series.kind series.start) series.excluded v.excluded;
  few_rules =
      let given = length-map series.rules (with_one_end series.kind series.start) in
      let left_out = length-map series.excluded (with_one_end series.kind series.start) in
      omega (arith, given, left_out, v.few_rules);
  ends =
      all_keep (λ rule. EndsInYears rule.end) (λ rule. EndsInYears rule.end) series.kind series.start
      (λ rule. ends_in_years rule series.kind series.start rule.end) series.rules v.ends;
  excluded_ends =
      all_keep (λ rule. EndsInYears rule.end) (λ rule. EndsInYears rule.end) series.kind series.start
      (λ rule. ends_in_years rule series.kind series.start rule.end) series.excluded v.excluded_ends;
  plus = v.plus;
  minus = v.minus;
  plus_rises = v.plus_rises;
  minus_rises = v.minus_rises;
  few_dates = v.few_dates;
}

pub series_sound : (series : Series) → IsSound series → IsSound (with_one_ends series)
unfolding with_one_ends
series_sound series s = record {
  valid = series_valid series s.valid;
  rules =
      all_keep (FitsStart series.kind series.start) (FitsStart series.kind series.start) series.kind series.start
      (λ rule. still_fits rule series.kind series.start) series.rules s.rules;
  excluded =
      all_keep (λ rule. EndsNotBefore series.kind series.start rule.end) (λ rule. EndsNotBefore series.kind series.start rule.end) series.kind
      series.start (λ rule. ends_not_before rule series.kind series.start rule.end) series.excluded s.excluded;
}

pub ends_are_one : (series : Series) → All (λ rule. IsOneEnd rule.end) (with_one_ends series).rules
unfolding with_one_ends
ends_are_one series = all_one series.kind series.start series.rules

pub excluded_ends_are_one : (series : Series) → All (λ rule. IsOneEnd rule.end) (with_one_ends series).excluded
unfolding with_one_ends
excluded_ends_are_one series = all_one series.kind series.start series.excluded

pub same_series_cycle : (series : Series) → series_cycle (with_one_ends series) ≡ series_cycle series
unfolding with_one_ends
same_series_cycle series =
    rw (cycles_kept series.kind series.start series.rules, cycles_kept series.kind series.start series.excluded) refl

pub same_occurrences : (series : Series) → IsSound series → HaveEqualOccurrences (Occurs (with_one_ends series)) (Occurs series)
unfolding with_one_ends
same_occurrences series s k t =
    let m = members_of_some series.kind series.start series.rules (ends_of series.kind series.start series.rules s.rules) t in
    let x = members_of_some series.kind series.start series.excluded s.excluded t in (
      λ o. record {
        kind = o.kind;
        stands = elim o.stands [ inl e ↦ inl e | inr y ↦ elim y [ inl a ↦ inr (inl (m.0 a)) | inr b ↦ inr (inr b) ] ];
        kept = o.kept;
        not_excluded = λ a. o.not_excluded (x.1 a);
      },
      λ o. record {
        kind = o.kind;
        stands = elim o.stands [ inl e ↦ inl e | inr y ↦ elim y [ inl a ↦ inr (inl (m.1 a)) | inr b ↦ inr (inr b) ] ];
        kept = o.kept;
        not_excluded = λ a. o.not_excluded (x.0 a);
      },
    )
