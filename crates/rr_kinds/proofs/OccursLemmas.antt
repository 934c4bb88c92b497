-- What occurs in a series that goes by kinds, by its days.
use Rattle.std.proofs.Common.{◌≡◌, ◌⊎◌, ℕ, ◌/◌, ◌%◌, ◌<◌, true, ◌&&◌, List, [], ◌∷◌, length, get_or, ℤ, pos, ◌-ℤ◌, ◌≤ℤ◌}
use Rattle.std.proofs.Common.{refl, sym, ap, subst, ◌∙◌, inl, inr, arith}
use Rattle.std.specs.Prelude.{◌↔◌, IsTrue}
use Rattle.std.specs.List.{Contains}
use Rattle.std.proofs.lemmas.Bool.{and_parts}
use Rattle.std.specs.Cmp.Derive.{both_true}
use Rattle.std.proofs.lemmas.Int.{ints}
use Rattle.rr_model.specs.Whole.{divides}
use Rattle.rr_model.specs.Moment.{day_part, second_part}
use Rattle.rr_model.specs.Moment.Units.{is_whole_days, unit_number}
use Rattle.rr_model.specs.Rule.Candidate.{allows, interval_holds, is_candidate}
use Rattle.rr_model.specs.Rule.Chosen.{is_chosen}
use Rattle.rr_model.specs.Rule.DaysAndTimes.{day_holds, seconds_of, time_holds}
use Rattle.rr_model.specs.Rule.Filled.{filled_rule}
use Rattle.rr_model.specs.Rule.Member.{IsWithinEnd, members_to}
use Rattle.rr_model.specs.Rule.Validity.{is_absent}
use Rattle.rr_model.specs.Series.Occurrences.{IsMemberOfSome, Occurs}
use Rattle.rr_model.specs.Series.Soundness.{IsSound}
use Rattle.rr_model.specs.declared.kind.Kind.{Kind}
use Rattle.rr_model.specs.declared.kind.Kind.TheVariants.{Days, Moments}
use Rattle.rr_model.specs.declared.rule.Freq.{Freq}
use Rattle.rr_model.specs.declared.rule.Freq.TheVariants.{Monthly, Yearly}
use Rattle.rr_model.specs.declared.rule.Rule.{Rule}
use Rattle.rr_model.specs.declared.rule.Series.{Series}
use Rattle.rr_model.proofs.ChoiceLemmas.{is_chosen-plain}
use Rattle.rr_model.proofs.DaysAndTimesLemmas.{candidates_are_days_and_times, fills_times, moment_is, second_part-below, time_parts_hold-at}
use Rattle.rr_model.proofs.DaysAndTimesLemmas.{and_parts as three_parts, and_true as three_true}
use Rattle.rr_model.proofs.RisingSetLemmas.{Contains-none}
use Rattle.rr_model.proofs.DividesLemmas.{one_divides}
use Rattle.rr_expand.specs.Years.{allows_day, filling_of}
use Rattle.rr_kinds.specs.Form.{GoesByKinds, HasOwnTime, LeavesNoUnitOut}

-- months and years are whole days
whole : (freq : Freq) → (freq ≡ Monthly) ⊎ (freq ≡ Yearly) → is_whole_days freq ≡ true
whole freq (inl e) = rw e refl
whole freq (inr e) = rw e refl

-- ---- the time of day

absent : {X : Type 0} (xs : List X) → is_absent xs ≡ true → xs ≡ []
absent [] e = refl
absent (x ∷ xs) e = absurd (cc)

-- a part with one number alone allows this number
allows_one : (a b : ℕ) → IsTrue (allows (pos a ∷ []) (pos b)) ↔ (b ≡ a)
allows_one a b = ((λ t. grind (arith, ints)), (λ e. grind (arith, ints)))

-- a second is told by its hour, minute and second
told : (s w : ℕ) → s / 3_600 ≡ w / 3_600 → s / 60 % 60 ≡ w / 60 % 60 → s % 60 ≡ w % 60 → s ≡ w
told s w h m n = omega arith

module _ (rule : Rule) (units : LeavesNoUnitOut rule) (own : HasOwnTime rule) where
  -- the time parts of the filled rule hold of the start's second alone
  pub time_is : (kind : Kind) (start : ℤ) (s : ℕ) → s < seconds_of kind → IsTrue (time_holds rule kind start s) ↔ (s ≡ second_part kind start)
  time_is Days start s low = ((λ t. omega arith), (λ e. refl))
  time_is Moments start s low =
      let w : ℕ = second_part Moments start in
      let fills = fills_times rule.freq (whole rule.freq units.freq) in
      let parts : time_holds rule Moments start s
      ≡ (allows (pos (w / 3_600) ∷ []) (pos (s / 3_600)) && allows (pos (w / 60 % 60) ∷ []) (pos (s / 60 % 60)) && allows (pos (w % 60) ∷ []) (pos (s % 60)))
      = time_parts_hold-at (filled_rule rule Moments start) (pos 0) s low ∙ rw (fills.0, fills.1, fills.2, own.hours, own.minutes, own.seconds) refl in (
        (λ t. (
            let p = three_parts _ _ _ (sym parts ∙ t) in
            told s w ((allows_one (w / 3_600) (s / 3_600)).0 p.0) ((allows_one (w / 60 % 60) (s / 60 % 60)).0 p.1) ((allows_one (w % 60) (s % 60)).0 p.2))),
        (λ e. parts ∙ three_true _ _ _ ((allows_one (w / 3_600) (s / 3_600)).1 (ap (λ x. x / 3_600) e))
            ((allows_one (w / 60 % 60) (s / 60 % 60)).1 (ap (λ x. x / 60 % 60) e)) ((allows_one (w % 60) (s % 60)).1 (ap (λ x. x % 60) e))),
      )

  -- no day is left out by the interval
  day_is : (start_day d : ℤ) → day_holds rule start_day d ≡ allows_day (filling_of rule start_day) d
  day_is start_day d =
      let fits : interval_holds rule Days start_day d ≡ true =
      subst (λ n. divides n (unit_number rule.freq rule.week_start Days d -ℤ unit_number rule.freq rule.week_start Days start_day) ≡ true) (sym units.interval)
      (one_divides (unit_number rule.freq rule.week_start Days d -ℤ unit_number rule.freq rule.week_start Days start_day)) in
      rw fits refl

  -- an allowed day, at the second of the start
  pub chosen_is : (kind : Kind) (start t : ℤ) → IsTrue (is_chosen rule kind start t)
      ↔ (IsTrue (allows_day (filling_of rule (day_part kind start)) (day_part kind t)) × (second_part kind t ≡ second_part kind start))
  chosen_is kind start t =
      let d : ℤ = day_part kind t in
      let s : ℕ = second_part kind t in
      let low = second_part-below kind t in
      let is : is_chosen rule kind start t ≡ (allows_day (filling_of rule (day_part kind start)) d && time_holds rule kind start s) =
      is_chosen-plain rule kind start t (absent rule.by_set_pos units.positions)
      ∙ ap (is_candidate rule kind start) (moment_is kind t)
      ∙ candidates_are_days_and_times rule kind start d s (whole rule.freq units.freq) low
      ∙ ap (λ b. b && time_holds rule kind start s) (day_is (day_part kind start) d) in (
        (λ c. (let p = and_parts (allows_day (filling_of rule (day_part kind start)) d) (time_holds rule kind start s) (sym is ∙ c) in
            (p.0, (time_is kind start s low).0 p.1))),
        (λ h. is ∙ both_true {s = allows_day (filling_of rule (day_part kind start)) d} {t = time_holds rule kind start s} h.0 ((time_is kind start s low).1 h.1)),
      )

-- ---- what occurs

-- an allowed day from the start on, at the start's second
pub record IsOnDay (rule : Rule) (kind : Kind) (start : ℤ) (k : Kind) (t : ℤ) : Type 0 where
  pub of_kind : k ≡ kind
  pub not_before : start ≤ℤ t
  pub allowed : IsTrue (allows_day (filling_of rule (day_part kind start)) (day_part kind t))
  pub at_second : second_part kind t ≡ second_part kind start

one_rule : (rules : List Rule) (rule : Rule) → length rules ≡ 1 → get_or rules 0 rule ≡ rule → rules ≡ rule ∷ []
one_rule [] rule l e = absurd (omega (arith, l))
one_rule (x ∷ []) rule l e = ap (λ y. y ∷ []) e
one_rule (x ∷ y ∷ ys) rule l e = absurd (omega (arith, l))

module _ (series : Series) (by : GoesByKinds series) where
  pub rules_are : series.rules ≡ by.rule ∷ []
  rules_are = one_rule series.rules by.rule by.alone.one by.is_rule

module _ (series : Series) (by : GoesByKinds series) (sound : IsSound series) where
  abbrev rule : Rule
  rule = by.rule

  start_chosen : IsTrue (is_chosen rule series.kind series.start series.start)
  start_chosen = subst (λ r. IsTrue (is_chosen r series.kind series.start series.start)) by.is_rule
      (sound.rules 0 rule (omega (arith, by.alone.one))).synchronised

  on_day : (t : ℤ) → series.start ≤ℤ t → IsTrue (is_chosen rule series.kind series.start t) → IsOnDay rule series.kind series.start series.kind t
  on_day t l c =
      let h = (chosen_is rule by.chooses.units by.chooses.time series.kind series.start t).0 c in
      record { of_kind = refl; not_before = l; allowed = h.0; at_second = h.1 }

  pub start_on_day : IsOnDay rule series.kind series.start series.kind series.start
  start_on_day = on_day series.start (omega (arith, ints)) start_chosen

  stands_on : (t : ℤ) → ((series.start_counts ≡ true) × (t ≡ series.start)) ⊎ IsMemberOfSome series.rules series.kind series.start t ⊎ Contains series.plus t
      → IsOnDay rule series.kind series.start series.kind t
  stands_on t (inl (c, e)) =
      subst (λ u. IsOnDay rule series.kind series.start series.kind u) (sym e) start_on_day
  stands_on t (inr (inl m)) = elim (subst (λ rs. IsMemberOfSome rs series.kind series.start t) (rules_are series by) m) [
    | inl one ↦ on_day t one.not_before one.chosen
    | inr none ↦ absurd none
  ]
  stands_on t (inr (inr c)) = absurd (Contains-none t (subst (λ xs. Contains xs t) by.alone.plus c))

  pub occurs_is : (k : Kind) (t : ℤ) → Occurs series k t ↔ IsOnDay rule series.kind series.start k t
  occurs_is k t = (
    (λ o. subst (λ x. IsOnDay rule series.kind series.start x t) (sym o.kind) (stands_on t o.stands)),
    (λ h. (
        let chosen = (chosen_is rule by.chooses.units by.chooses.time series.kind series.start t).1 (h.allowed, h.at_second) in
        let within : IsWithinEnd rule.end series.kind t (members_to rule series.kind series.start t) =
        subst (λ e. IsWithinEnd e series.kind t (members_to rule series.kind series.start t)) (sym by.chooses.endless) tt in
        record {
          kind = h.of_kind;
          stands = inr (inl (subst (λ rs. IsMemberOfSome rs series.kind series.start t) (sym (rules_are series by))
              (inl (record { chosen = chosen; not_before = h.not_before; within_end = within }))));
          kept = λ c. Contains-none t (subst (λ xs. Contains xs t) by.alone.minus c);
          not_excluded = λ m. subst (λ rs. IsMemberOfSome rs series.kind series.start t) by.alone.excluded m;
        })),
  )
