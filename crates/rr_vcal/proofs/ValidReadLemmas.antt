-- What is read of a vCalendar 1.0 text is a valid series.
use Rattle.std.proofs.Common.{◌≡◌, ℕ, ◌≤◌, ◌==◌, not, Bool, true, false, if◌then◌else◌, List, [], ◌∷◌, length, Option, None, Some, Result, Ok, Err, ℤ, pos}
use Rattle.std.proofs.Common.{refl, subst, arith}
use Rattle.std.specs.Prelude.{All, IfOk}
use Rattle.std.specs.List.{slice_split}
use Rattle.std.specs.Option.{IfSome}
use Rattle.std.proofs.lemmas.Bool.{and_parts}
use Rattle.std.proofs.lemmas.Bool.Decides.{nat_tests}
use Rattle.std.proofs.lemmas.Int.{ints}
use Rattle.std.proofs.lemmas.List.Elements.{All-nil, All-cons, All-weaker}
use Rattle.rr_model.specs.Answers.{Answers}
use Rattle.rr_model.specs.Calendar.{weekday_of, day_of_month, month_of, year_of, day_of_year}
use Rattle.rr_model.specs.Moment.{day_part}
use Rattle.rr_model.specs.Rule.Validity.{is_absent, HasCountInRange, EndsInYears}
use Rattle.rr_model.specs.Text.Calendars.{end_beside}
use Rattle.rr_model.specs.Text.Passes.{Stated, Event}
use Rattle.rr_model.specs.Text.Event.{event_scan}
use Rattle.rr_model.specs.Text.Lines.{without_mark}
use Rattle.rr_model.specs.Text.Rules.{is_blank, line_value}
use Rattle.rr_model.specs.Text.Steps.{in_turn}
use Rattle.rr_model.specs.Vcal.Reading.{own_items, filled_items, vrule_beside, vcal_language, vseries_of_event, reads_vcal}
use Rattle.rr_model.specs.Vcal.Rule.{with_piece, whole_parts, is_list_whole, end_of_words, stated_parts, stated_vrule}
use Rattle.rr_model.specs.Vcal.Validity.{IsItemOf, IsValidVRule, IsValidVSeries}
use Rattle.rr_model.specs.declared.item.Item.{Item}
use Rattle.rr_model.specs.declared.item.Item.TheVariants.{Every, Weekday, MonthDay, Month, YearDay}
use Rattle.rr_model.specs.declared.kind.Kind.{Kind}
use Rattle.rr_model.specs.declared.refusal.Fault.{Fault}
use Rattle.rr_model.specs.declared.rule.End.TheVariants.{Never, Until, Count, Both}
use Rattle.rr_model.specs.declared.stamp.Stamp.{Stamp}
use Rattle.rr_model.specs.declared.used.Scan.{Scan}
use Rattle.rr_model.specs.declared.vcal.FamilyKind.{FamilyKind}
use Rattle.rr_model.specs.declared.vcal.FamilyKind.TheVariants as family
use Rattle.rr_model.specs.declared.vcal.VRule.{VRule}
use Rattle.rr_model.specs.declared.vcal.VRuleParts.{VRuleParts}
use Rattle.rr_model.specs.declared.vcal.VSeries.{VSeries}
use Rattle.rr_model.proofs.CalendarLemmas.{IsDate-year_of, days_in_month_bounds, weekday_of_below, days_into_year_below, days_in_year_bounds}
use Rattle.rr_text.proofs.StepLemmas.{and_then_ok}
use Rattle.rr_text.specs.Stamps.{IsStamp}
use Rattle.rr_ical.proofs.BesideLemmas.{EndsAt, FitsUntil, end_beside-valid, IsReadEvent, read-valid}
use Rattle.rr_ical.proofs.PassLemmas.{in_turn-keeps}
use Rattle.rr_vcal.specs.Parts.{IsValidParts}
use Rattle.rr_vcal.specs.Scans.{vcal_scan}
use Rattle.rr_vcal.proofs.ValidPartsLemmas.{piece-valid, finished-valid}

-- ---- the rule as its line states it

-- the numbers lie in their ranges; only a rule by places has its items already
record IsValidStated (stated : Stated VRule) : Type 0 where
  interval_low : 1 ≤ stated.rule.interval
  interval_high : stated.rule.interval ≤ 4_294_967_295
  items : All (IsItemOf stated.rule.family) stated.rule.items
  listed : stated.rule.family ≡ family.MP → 1 ≤ length stated.rule.items
  count : HasCountInRange stated.rule.end
  until : FitsUntil stated.until stated.rule.end

counted : (m : ℕ) → m ≤ 18_446_744_073_709_551_615 → HasCountInRange (if m == 0 then Never else Count m) × EndsInYears (if m == 0 then Never else Count m)
counted m h = by (m == 0) (λ e. grind (arith, nat_tests, e))
  where
    by : (b : Bool) → (b ≡ false → 1 ≤ m) → HasCountInRange (if b then Never else Count m) × EndsInYears (if b then Never else Count m)
    by true low = (tt, tt)
    by false low = ((low refl, h), tt)

both : (m : ℕ) (stamp : Stamp) → m ≤ 18_446_744_073_709_551_615
    → HasCountInRange (if m == 0 then Until stamp.kind stamp.at else Both stamp.kind stamp.at m)
    × EndsAt stamp.kind (if m == 0 then Until stamp.kind stamp.at else Both stamp.kind stamp.at m)
both m stamp h = by (m == 0) (λ e. grind (arith, nat_tests, e))
  where
    by : (b : Bool) → (b ≡ false → 1 ≤ m) → HasCountInRange (if b then Until stamp.kind stamp.at else Both stamp.kind stamp.at m)
        × EndsAt stamp.kind (if b then Until stamp.kind stamp.at else Both stamp.kind stamp.at m)
    by true low = (tt, refl)
    by false low = ((low refl, h), refl)

end_of_words-valid : (count : Option ℕ) (until : Option Stamp) → IfSome count (λ n. n ≤ 18_446_744_073_709_551_615) → IfSome until IsStamp
    → HasCountInRange (end_of_words count until) × FitsUntil until (end_of_words count until)
end_of_words-valid None None c u = ((omega arith, omega arith), tt)
end_of_words-valid (Some m) None c u = counted m c
end_of_words-valid None (Some stamp) c u = (tt, (u, refl))
end_of_words-valid (Some m) (Some stamp) c u =
    let end = both m stamp c in
    (end.0, (u, end.1))

-- a whole list of a rule by places has items
whole_lists : (f : FamilyKind) (parts : VRuleParts) → f ≡ family.MP → is_list_whole f parts ≡ true → IsValidParts parts → 1 ≤ length parts.items
whole_lists family.MP parts e whole v = v.listed (and_parts (not (is_absent parts.places)) parts.has_weekday whole).1
whole_lists family.D parts e whole v = absurd (cc)
whole_lists family.W parts e whole v = absurd (cc)
whole_lists family.MD parts e whole v = absurd (cc)
whole_lists family.YM parts e whole v = absurd (cc)
whole_lists family.YD parts e whole v = absurd (cc)

stated_parts-valid : (parts : VRuleParts) → IsValidParts parts → is_list_whole parts.family parts ≡ true → IsValidStated (stated_parts parts)
stated_parts-valid parts v whole =
    let end = end_of_words-valid parts.count parts.until v.count v.until in record {
      interval_low = v.interval_low;
      interval_high = v.interval_high;
      items = v.items;
      listed = λ e. whole_lists parts.family parts e whole v;
      count = end.0;
      until = end.1;
    }

stated_vrule-valid : (line : ℕ) (text : List ℕ) (stated : Stated VRule) → stated_vrule line text ≡ Ok stated → IsValidStated stated
unfolding stated_vrule
stated_vrule-valid line text stated h =
    let pieces = and_then_ok (in_turn (with_piece line) None (slice_split is_blank (line_value text))) _ stated h in
    let parts = and_then_ok (whole_parts line pieces.0) _ stated pieces.2 in
    let read = in_turn-keeps (with_piece line) (λ (p : Option VRuleParts). IfSome p IsValidParts) (λ p piece next v e. piece-valid line p piece next v e)
    None (slice_split is_blank (line_value text)) pieces.0 tt pieces.1 in
    let valid = finished-valid line pieces.0 parts.0 read parts.1 in
    let same : stated_parts parts.0 ≡ stated = cc in
    subst IsValidStated same (stated_parts-valid parts.0 valid.0 valid.1)

-- ---- the rule beside its start

own_items-valid : (f : FamilyKind) (d : ℤ) → (f ≡ family.MP → ⊥) → All (IsItemOf f) (own_items f d) × (1 ≤ length (own_items f d))
unfolding day_of_year
own_items-valid family.D d other = (All-cons (IsItemOf family.D) Every [] tt (All-nil _), omega arith)
own_items-valid family.W d other =
    (All-cons (IsItemOf family.W) (Weekday (weekday_of d)) [] (omega (arith, weekday_of_below d)) (All-nil _), omega arith)
own_items-valid family.MD d other =
    let date = IsDate-year_of d in
    let long = days_in_month_bounds (year_of d) (month_of d) in (
      All-cons (IsItemOf family.MD) (MonthDay (pos (day_of_month d))) [] (omega (arith, ints, date.2), omega (arith, ints, date.3, long.1))
          (All-nil _),
      omega arith,
    )
own_items-valid family.MP d other = absurd (other refl)
own_items-valid family.YM d other =
    let date = IsDate-year_of d in
    (All-cons (IsItemOf family.YM) (Month (month_of d)) [] (date.0, date.1) (All-nil _), omega arith)
own_items-valid family.YD d other =
    let long = days_in_year_bounds (year_of d) in
    let below = days_into_year_below d in
    (All-cons (IsItemOf family.YD) (YearDay (day_of_year d)) [] (omega (arith, below), omega (arith, below, long.1)) (All-nil _), omega arith)

filled_items-valid : (f : FamilyKind) (d : ℤ) (items : List Item) → All (IsItemOf f) items → (f ≡ family.MP → 1 ≤ length items)
    → All (IsItemOf f) (filled_items f d items) × (1 ≤ length (filled_items f d items))
filled_items-valid f d [] h listed = own_items-valid f d (λ e. absurd (omega (arith, listed e)))
filled_items-valid f d (item ∷ items) h listed = (h, omega arith)

module _ (offset : Option ℤ) (start : Stamp) where
  vrule_beside-valid : (line : ℕ) (stated : Stated VRule) (rule : VRule) → IsValidStated stated → vrule_beside offset start line stated ≡ Ok rule
      → IsValidVRule rule × EndsInYears rule.end
  unfolding vrule_beside
  vrule_beside-valid line stated rule v h =
      let d = day_part start.kind start.at in
      let end = and_then_ok (end_beside offset start line stated.until stated.rule.end) _ rule h in
      let ends = end_beside-valid offset start line stated.until stated.rule.end end.0 v.until v.count end.1 in
      let filled = filled_items-valid stated.rule.family d stated.rule.items v.items v.listed in
      let same : record stated.rule { items = filled_items stated.rule.family d stated.rule.items; end = end.0 } ≡ rule = cc in
      subst (λ (r : VRule). IsValidVRule r × EndsInYears r.end) same
      (record { interval_low = v.interval_low; interval_high = v.interval_high; items = filled.0; some_item = filled.1; count = ends.0 }, ends.1)

-- ---- the series

-- a rule of a series is valid, and its end lies in the years 1 to 9999
abbrev IsGoodRule : Kind → VRule → Type 0
IsGoodRule kind rule = IsValidVRule rule × EndsInYears rule.end

series-valid : (event : Event VRule) → IsReadEvent IsGoodRule event → IsValidVSeries (vseries_of_event event)
series-valid event v =
    let valid : (rule : VRule) → IsGoodRule event.start.kind rule → IsValidVRule rule = λ rule good. good.0 in
    let ends : (rule : VRule) → IsGoodRule event.start.kind rule → EndsInYears rule.end = λ rule good. good.1 in
    record {
      start = v.start;
      rules = All-weaker _ _ valid event.beside.rules v.beside.rules;
      excluded = All-weaker _ _ valid event.beside.excluded v.beside.excluded;
      few_rules = v.few_rules;
      ends = All-weaker _ _ ends event.beside.rules v.beside.rules;
      excluded_ends = All-weaker _ _ ends event.beside.excluded v.beside.excluded;
      plus = v.beside.plus;
      minus = v.beside.minus;
      few_dates = v.few_dates;
    }

pub scan-valid : (offset : Option ℤ) (scan : Scan) (series : VSeries) → vcal_scan offset scan ≡ Ok series → IsValidVSeries series
scan-valid offset scan series h =
    read-valid vcal_language (vrule_beside offset) IsGoodRule
    (λ start line text stated rule s r. vrule_beside-valid offset start line stated rule (stated_vrule-valid line text stated s) r)
    vseries_of_event IsValidVSeries series-valid offset scan series h

reading-valid : (offset : Option ℤ) (bytes : List ℕ) (series : VSeries) → reads_vcal offset bytes ≡ Ok series → IsValidVSeries series
unfolding reads_vcal
reading-valid offset bytes series = scan-valid offset (event_scan true (without_mark bytes)) series

-- so is what a call answers that takes memory
pub answer-valid : (offset : Option ℤ) (bytes : List ℕ) (r : Result VSeries Fault) → Answers (reads_vcal offset bytes) r → IfOk r IsValidVSeries
answer-valid offset bytes (Ok series) h = reading-valid offset bytes series h
answer-valid offset bytes (Err fault) h = tt
