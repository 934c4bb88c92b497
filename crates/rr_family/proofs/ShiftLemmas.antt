-- The days of items and of patterns repeat after the cycle of their kind or type with its interval.
use Rattle.std.proofs.Common.{◌≡◌, ℕ, ◌*◌, ◌≤◌, Bool, true, false, cond, List, [], ◌∷◌, ℤ, pos, ◌+ℤ◌, inl, inr, refl, sym, subst, ◌∙◌, arith}
use Rattle.std.specs.Prelude.{◌⊎◌}
use Rattle.std.specs.Int.{◌∣◌}
use Rattle.std.specs.Prelude.{int_lt}
use Rattle.std.proofs.lemmas.Nat.Gcd.{dvd_trans, dvd_refl}
use Rattle.std.proofs.Math.Nat.{dvd-mul_right}
use Rattle.rr_model.specs.Rule.Chosen.{is_chosen}
use Rattle.rr_model.specs.Rule.Cycle.{interval_cycle, asks_calendar, parts_cycle, rule_cycle}
use Rattle.rr_model.specs.Rule.Validity.{is_absent}
use Rattle.rr_model.specs.declared.kind.Kind.{Kind}
use Rattle.rr_model.specs.declared.kind.Kind.TheVariants.{Days}
use Rattle.rr_model.specs.declared.rule.End.{End}
use Rattle.rr_model.specs.declared.rule.End.TheVariants.{Never}
use Rattle.rr_model.specs.declared.rule.Rule.{Rule}
use Rattle.rr_num.proofs.DivisorLemmas.{lcm_is, lcm_some}
use Rattle.rr_check.proofs.RepetitionLemmas.{chosen_repeats_by}
use Rattle.rr_check.proofs.RuleCycleLemmas.{interval_cycle_some}
use Rattle.rr_check.proofs.SeriesCycleLemmas.{dvd_same}
use Rattle.rr_model.specs.Rising.{day_item_lt}
use Rattle.rr_model.specs.Vcal.Counterpart.{day_of_item, month_of_item, month_day_of_item, year_day_of_item, rule_of_vrule}
use Rattle.rr_model.specs.Vcal.Members.{is_vcal_candidate}
use Rattle.rr_model.specs.Vcal.Validity.{IsValidVRule}
use Rattle.rr_model.specs.Graph.Occurrences.{is_pattern_day}
use Rattle.rr_model.specs.Graph.Counterpart.{form_freq, rule_of_pattern}
use Rattle.rr_family.specs.Profile.{vrule}
use Rattle.rr_model.specs.declared.graph.Form.{Form}
use Rattle.rr_model.specs.declared.graph.Form.TheVariants as form
use Rattle.rr_model.specs.declared.graph.Pattern.{Pattern}
use Rattle.rr_model.specs.declared.vcal.FamilyKind.{FamilyKind}
use Rattle.rr_model.specs.declared.vcal.FamilyKind.TheVariants as family
use Rattle.rr_model.specs.declared.item.Item.{Item}
use Rattle.rr_model.specs.declared.vcal.VRule.{VRule}
use Rattle.rr_vcal_laws.proofs.CounterpartProofs.{same_choices}
use Rattle.rr_vcal_laws.proofs.MemberLemmas.{AreItemsOf, items_by_recursion, values-none, every-none, weekday-none}
use Rattle.rr_vcal_laws.proofs.ValidRuleLemmas.{counterpart_is_valid}
use Rattle.rr_pattern.proofs.ValidRuleLemmas.{pattern_counterpart_is_valid}
use Rattle.rr_pattern.proofs.PatternLemmas.{pattern_chooses}
use Rattle.rr_pattern.proofs.ValidPatternLemmas.{used_members}
use Rattle.rr_family.specs.Shift.{family_cycle, form_cycle, items_have_day, RepeatsEverywhere, ItemsRepeat, PatternRepeats, CycleIsCounterparts}
use Rattle.rr_family.specs.Shift.{CycleIsPatterns}

-- ---- cycles

one_divides : (c : ℕ) → 1 ∣ c
one_divides c = subst (λ z. 1 ∣ z) (omega arith) (dvd-mul_right 1 c)

-- weekdays stand only if 7 divides c, and the calendar is asked only if 146,097 does
abbrev HasParts : Rule → ℕ → Type 0
HasParts r c = ((is_absent r.by_day ≡ true) ⊎ (7 ∣ c)) × ((asks_calendar r ≡ false) ⊎ (146_097 ∣ c))

weekdays : (b : Bool) (c : ℕ) → (b ≡ true) ⊎ (7 ∣ c) → cond b 1 7 ∣ c
weekdays true c h = one_divides c
weekdays false c (inl e) = absurd (cc)
weekdays false c (inr d) = d

calendar : (b : Bool) (c : ℕ) → (b ≡ false) ⊎ (146_097 ∣ c) → cond b 146_097 1 ∣ c
calendar false c h = one_divides c
calendar true c (inl e) = absurd (cc)
calendar true c (inr d) = d

some_days : (b : Bool) → 1 ≤ cond b 1 7
some_days true = omega arith
some_days false = omega arith

some_years : (b : Bool) → 1 ≤ cond b 146_097 1
some_years true = omega arith
some_years false = omega arith

parts_divide : (r : Rule) (c : ℕ) → HasParts r c → parts_cycle r ∣ c
parts_divide r c h =
    (lcm_is (cond (is_absent r.by_day) 1 7) (cond (asks_calendar r) 146_097 1) (some_days _) (some_years _)).2 c (weekdays _ c h.0) (calendar _ c h.1)

whole_cycle : (r : Rule) → 1 ≤ r.interval → HasParts r (interval_cycle r.freq r.interval) → rule_cycle r ≡ interval_cycle r.freq r.interval
whole_cycle r some h =
    let n = interval_cycle r.freq r.interval in
    let hn = interval_cycle_some r.freq r.interval some in
    let hm : 1 ≤ parts_cycle r = lcm_some (cond (is_absent r.by_day) 1 7) (cond (asks_calendar r) 146_097 1) (some_days _) (some_years _) in
    let is = lcm_is n (parts_cycle r) hn hm in
    dvd_same (rule_cycle r) n (lcm_some n (parts_cycle r) hn hm) hn (is.2 n (dvd_refl n) (parts_divide r n h)) is.0

calendar_weeks : (k : ℕ) → 7 ∣ 146_097 * k
calendar_weeks k = dvd_trans 7 (dvd-mul_right 7 20_871) (dvd-mul_right 146_097 k)

-- ---- vCalendar

vcal_parts : (f : FamilyKind) (interval : ℕ) (items : List Item) (end : End) (kind : Kind) (start : ℤ) → AreItemsOf f items
    → HasParts (rule_of_vrule (vrule f interval items end) kind start) (family_cycle f interval)
unfolding rule_of_vrule
vcal_parts family.D interval items end kind start h =
    let none = every-none items h in
    let d = values-none day_item_lt day_of_item [] items none.0.0 in
    let k = values-none int_lt month_day_of_item [] items none.0.1 in
    let m = values-none int_lt month_of_item [] items none.1.0 in
    let y = values-none int_lt year_day_of_item [] items none.1.1 in
    (inl (rw d refl), inl (rw (m, k, y) refl))
vcal_parts family.W interval items end kind start h =
    let none = weekday-none items h in
    let k = values-none int_lt month_day_of_item [] items none.0 in
    let m = values-none int_lt month_of_item [] items none.1.0 in
    let y = values-none int_lt year_day_of_item [] items none.1.1 in
    (inr (dvd-mul_right 7 interval), inl (rw (m, k, y) refl))
vcal_parts family.MD interval items end kind start h = (inr (calendar_weeks _), inr (dvd-mul_right 146_097 _))
vcal_parts family.MP interval items end kind start h = (inr (calendar_weeks _), inr (dvd-mul_right 146_097 _))
vcal_parts family.YM interval items end kind start h = (inr (calendar_weeks _), inr (dvd-mul_right 146_097 _))
vcal_parts family.YD interval items end kind start h = (inr (calendar_weeks _), inr (dvd-mul_right 146_097 _))

pub cycle_is_counterparts : CycleIsCounterparts
unfolding rule_of_vrule
cycle_is_counterparts rule kind start valid =
    whole_cycle (rule_of_vrule rule kind start) valid.interval_low
    (vcal_parts rule.family rule.interval rule.items rule.end kind start (items_by_recursion rule.family rule.items valid.items))

pub candidates_repeat : (rule : VRule) (start : ℤ) → IsValidVRule rule
    → RepeatsEverywhere (is_vcal_candidate rule Days start) (family_cycle rule.family rule.interval)
candidates_repeat rule start valid d =
    let c = family_cycle rule.family rule.interval in
    let e = cycle_is_counterparts rule Days start valid in
    same_choices rule Days start (d +ℤ pos c) valid
    ∙ chosen_repeats_by (rule_of_vrule rule Days start) Days start d (counterpart_is_valid rule Days start valid) c (subst (λ z. z ∣ c) (sym e)
    (dvd_refl c))
    ∙ sym (same_choices rule Days start d valid)

candidate_is : (f : FamilyKind) (interval : ℕ) (items : List Item) (start d : ℤ)
    → is_vcal_candidate (vrule f interval items Never) Days start d ≡ items_have_day f interval start items d
unfolding is_vcal_candidate
candidate_is f interval items start d = refl

pub items_repeat : ItemsRepeat
items_repeat f interval start [] low high items d = refl
items_repeat f interval start (x ∷ xs) low high items d =
    let rule = vrule f interval (x ∷ xs) Never in
    let valid : IsValidVRule rule = record { interval_low = low; interval_high = high; items = items; some_item = omega arith; count = tt } in
    sym (candidate_is f interval (x ∷ xs) start (d +ℤ pos (family_cycle f interval))) ∙ candidates_repeat rule start valid d ∙ candidate_is f
    interval (x ∷ xs) start d

-- ---- Microsoft Graph

graph_parts : (p : Pattern) (f : Form) (end : End) → p.form ≡ f → HasParts (rule_of_pattern p end) (interval_cycle (form_freq f) p.interval)
unfolding rule_of_pattern
graph_parts p form.Daily end e = rw e (inl refl, inl refl)
graph_parts p form.Weekly end e = (inr (dvd-mul_right 7 p.interval), rw e (inl refl))
graph_parts p form.AbsoluteMonthly end e = (inr (calendar_weeks _), inr (dvd-mul_right 146_097 _))
graph_parts p form.RelativeMonthly end e = (inr (calendar_weeks _), inr (dvd-mul_right 146_097 _))
graph_parts p form.AbsoluteYearly end e = (inr (calendar_weeks _), inr (dvd-mul_right 146_097 _))
graph_parts p form.RelativeYearly end e = (inr (calendar_weeks _), inr (dvd-mul_right 146_097 _))

pub cycle_is_patterns : CycleIsPatterns
unfolding rule_of_pattern
cycle_is_patterns pattern end valid = whole_cycle (rule_of_pattern pattern end) valid.interval_low (graph_parts pattern pattern.form end refl)

pub pattern_repeats : PatternRepeats
pattern_repeats pattern start valid few d =
    let c = form_cycle pattern.form pattern.interval in
    let e = cycle_is_patterns pattern Never valid in
    sym (days (d +ℤ pos c))
    ∙ chosen_repeats_by (rule_of_pattern pattern Never) Days start d (pattern_counterpart_is_valid pattern Days Never (used_members pattern valid)
    few tt) c (subst (λ z. z ∣ c) (sym e) (dvd_refl c))
    ∙ days d
  where
    days : (t : ℤ) → is_chosen (rule_of_pattern pattern Never) Days start t ≡ is_pattern_day pattern start t
    days t = pattern_chooses pattern Never Days start t (used_members pattern valid)
