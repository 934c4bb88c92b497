-- What is read of a text whose rule has RSCALE is sound.
use Rattle.std.proofs.Common.{◌≡◌, ℕ, ◌≤◌, Bool, true, false, if◌then◌else◌, List, [], ◌∷◌, All, Option, None, Some, Result, Ok, Err, ℤ, pos, nat_abs, ◌≤ℤ◌, refl, sym, subst, ◌∙◌, arith}
use Rattle.std.specs.Prelude.{int_lt, ok_or, slice_get, unwrap_or}
use Rattle.std.specs.Option.{IfSome}
use Rattle.std.specs.Result.{IfOk}
use Rattle.std.proofs.lemmas.Bool.{false≢true, and_parts}
use Rattle.std.proofs.lemmas.Int.{ints}
use Rattle.std.proofs.Math.Bool.{or-true}
use Rattle.std.proofs.lemmas.List.Elements.{All-head, All-nil}
use Rattle.rr_model.specs.Answers.{Answers}
use Rattle.rr_model.specs.Rising.{Rises}
use Rattle.rr_model.specs.Rule.Validity.{CountUpTo, EndsInYears, IsValidRule, is_allowed, takes_start}
use Rattle.rr_model.specs.Series.Soundness.{end_refusal}
use Rattle.rr_model.specs.Text.Calendars.{end_at, end_beside}
use Rattle.rr_model.specs.Text.Event.{event_scan}
use Rattle.rr_model.specs.Text.Lines.{without_mark}
use Rattle.rr_model.specs.Text.Moments.{basic}
use Rattle.rr_model.specs.Text.Passes.{Event, Stated, moment_beside, passes}
use Rattle.rr_model.specs.Text.RuleValues.{pieces, freq_named, weekday_named, number_up_to}
use Rattle.rr_rule_parts.specs.Values.{numbers_of, number_within, unsigned_bounds, signed_bounds, has_number_form}
use Rattle.rr_model.specs.Text.Rules.{split_once, line_value}
use Rattle.rr_rule_parts.specs.Rules.{part_named, no_parts, without_last_semicolon, end_of, rule_with}
use Rattle.rr_model.specs.Text.WriteLaws.{IsOneEnd}
use Rattle.rr_model.specs.declared.kind.Kind.{Kind}
use Rattle.rr_model.specs.declared.kind.Kind.TheVariants.{Days, Moments}
use Rattle.rr_model.specs.declared.refusal.Refusal.{Refusal}
use Rattle.rr_model.specs.declared.refusal.Refusal.TheVariants.{BadMoment, BadRule, PartTwice, Extended, NotSynchronised}
use Rattle.rr_model.specs.declared.refusal.Fault.{Fault}
use Rattle.rr_model.specs.declared.rule.End.{End}
use Rattle.rr_model.specs.declared.rule.End.TheVariants.{Never, Until, Count, Both}
use Rattle.rr_model.specs.declared.rule.Freq.{Freq}
use Rattle.rr_model.specs.declared.rule.Freq.TheVariants.{Secondly, Minutely, Hourly, Daily, Weekly, Monthly, Yearly}
use Rattle.rr_rule_parts.specs.declared.rule_parts.PartName.{PartName}
use Rattle.rr_rule_parts.specs.declared.rule_parts.PartName.TheVariants as part
use Rattle.rr_rule_parts.specs.declared.rule_parts.RuleParts.{RuleParts}
use Rattle.rr_model.specs.declared.stamp.Stamp.{Stamp}
use Rattle.rr_model.specs.declared.used.Scan.{Scan}
use Rattle.rr_check.proofs.SoundnessLemmas.{end_fits}
use Rattle.rr_ical.proofs.BesideLemmas.{FitsUntil, end_beside-valid, IsReadEvent, passes-valid}
use Rattle.rr_ical.proofs.PassLemmas.{in_turn-keeps}
use Rattle.rr_text.proofs.StepLemmas.{and_then_ok, step_keeps, passed, not_refused}
use Rattle.rr_rule_parts.proofs.BoundsLemmas.{All-list_of, number_within-counts}
use Rattle.rr_rule_parts.proofs.ValidPartsLemmas.{ArePartsValid, no_parts-valid, with_part_value-valid}
use Rattle.rr_rule_parts.proofs.ValidRisingLemmas.{Rises-list_of}
use Rattle.rr_model.proofs.WithEndLemmas.{with_end-valid}
use Rattle.rr_rule_parts.proofs.ValidityLemmas.{IsValidBeside, end_of-valid, rule_with-valid, end_of-fits}
use Rattle.rr_skip.specs.Months.{is_skip_chosen}
use Rattle.rr_skip.specs.Parts.{is_taken, taken_part, scale_part_named, has_scale_part, with_scale, is_scale_name, skip_named, front_day, front_days, with_taken_value, with_scale_value}
use Rattle.rr_skip.specs.Parts.{with_scale_part, no_scale_parts, scale_parts_of, is_scaled, skip_rule_of, scale_parts}
use Rattle.rr_skip.specs.Reading.{stated_skip, skip_language, skip_rule_beside, unless_refused, start_refusal, judged_skip, judged_if_some}
use Rattle.rr_skip.specs.Reading.{lines_read, skip_scan, skip_text}
use Rattle.rr_skip.specs.Validity.{HasMonthPartsAlone, FitsSkipping, FitsIfSome, IsSoundSkipping, takes_skip}
use Rattle.rr_skip.specs.declared.parts.ScalePart.{ScalePart}
use Rattle.rr_skip.specs.declared.parts.ScalePart.TheVariants.{Scale, Skipping, Of}
use Rattle.rr_skip.specs.declared.parts.ScaledParts.{ScaledParts}
use Rattle.rr_skip.specs.declared.series.Skip.TheVariants.{Omit}
use Rattle.rr_skip.specs.declared.series.SkipRule.{SkipRule}
use Rattle.rr_skip.specs.declared.series.SkipSeries.{SkipSeries}

-- ---- the parts that are read

-- no BY part is read but BYMONTH and BYMONTHDAY, and days of the month from the front alone
pub record IsFromFront (parts : RuleParts) : Type 0 where
  pub week_numbers : parts.by_week_no ≡ []
  pub year_days : parts.by_year_day ≡ []
  pub days : parts.by_day ≡ []
  pub hours : parts.by_hour ≡ []
  pub minutes : parts.by_minute ≡ []
  pub seconds : parts.by_second ≡ []
  pub set_positions : parts.by_set_pos ≡ []
  pub from_front : All (λ k. pos 1 ≤ℤ k) parts.by_month_day

pub record IsScaledValid (parts : ScaledParts) : Type 0 where
  pub valid : ArePartsValid parts.parts
  pub front : IsFromFront parts.parts

no_parts-front : IsFromFront no_parts
no_parts-front = record {
  week_numbers = refl;
  year_days = refl;
  days = refl;
  hours = refl;
  minutes = refl;
  seconds = refl;
  set_positions = refl;
  from_front = All-nil _;
}

-- a day of the month counts from the front, up to 31
front_day-counts : (line : ℕ) (text : List ℕ) (k : ℤ) → front_day line text ≡ Ok k → (pos 1 ≤ℤ k) × ((1 ≤ nat_abs k) × (nat_abs k ≤ 31))
front_day-counts line text k h =
    let n = and_then_ok (number_within line (signed_bounds 31) text) (λ z. if int_lt z (pos 0) then Err Extended else Ok z) k h in
    let p = not_refused (int_lt n.0 (pos 0)) Extended (Ok n.0) k n.2 in
    let same : n.0 ≡ k = cc in
    let c = number_within-counts line 31 text n.0 n.1 in
    let low : pos 1 ≤ℤ n.0 = (let f = p.0 in omega (arith, ints, f, c)) in
    subst (λ z. (pos 1 ≤ℤ z) × ((1 ≤ nat_abs z) × (nat_abs z ≤ 31))) same (low, c)

front_days-front : (line : ℕ) (text : List ℕ) (ks : List ℤ) → front_days line text ≡ Ok ks → All (λ k. pos 1 ≤ℤ k) ks
unfolding front_days
front_days-front line text =
    All-list_of (λ k. pos 1 ≤ℤ k) int_lt (front_day line) (λ t k h. (front_day-counts line t k h).0) line (has_number_form (signed_bounds 31)) text

front_days-count : (line : ℕ) (text : List ℕ) (ks : List ℤ) → front_days line text ≡ Ok ks → CountUpTo 31 ks
unfolding front_days
front_days-count line text =
    All-list_of (λ k. (1 ≤ nat_abs k) × (nat_abs k ≤ 31)) int_lt (front_day line) (λ t k h. (front_day-counts line t k h).1) line
    (has_number_form (signed_bounds 31)) text

front_days-rise : (line : ℕ) (text : List ℕ) (ks : List ℤ) → front_days line text ≡ Ok ks → Rises int_lt ks
unfolding front_days
front_days-rise line text = Rises-list_of int_lt (front_day line) line (has_number_form (signed_bounds 31)) text

-- what a value keeps of that
value-front : (line : ℕ) (parts : RuleParts) (name : PartName) (text : List ℕ) (more : RuleParts) → is_taken name ≡ true → IsFromFront parts
    → with_taken_value line parts name text ≡ Ok more → IsFromFront more
value-front line parts part.Freq text more t f =
    step_keeps IsFromFront (ok_or (freq_named text) (BadRule line)) (λ x. record parts { freq = Some x }) more (λ x e. assumption)
value-front line parts part.Until text more t f =
    step_keeps IsFromFront (ok_or (basic text) (BadMoment line)) (λ x. record parts { until = Some x }) more (λ x e. assumption)
value-front line parts part.Count text more t f =
    step_keeps IsFromFront (number_up_to line 18_446_744_073_709_551_615 text) (λ x. record parts { count = Some x }) more (λ x e. assumption)
value-front line parts part.Interval text more t f =
    step_keeps IsFromFront (number_up_to line 4_294_967_295 text) (λ x. record parts { interval = Some x }) more (λ x e. assumption)
value-front line parts part.WeekStart text more t f =
    step_keeps IsFromFront (ok_or (weekday_named text) (BadRule line)) (λ x. record parts { week_start = Some x }) more (λ x e. assumption)
value-front line parts part.ByMonth text more t f =
    step_keeps IsFromFront (numbers_of line (unsigned_bounds 1 12) text) (λ x. record parts { by_month = x }) more (λ x e. assumption)
value-front line parts part.ByMonthDay text more t f =
    step_keeps IsFromFront (front_days line text) (λ x. record parts { by_month_day = x }) more (λ x e. assumption (front_days-front line text x e))
value-front line parts part.BySecond text more t f = λ h. absurd (false≢true t)
value-front line parts part.ByMinute text more t f = λ h. absurd (false≢true t)
value-front line parts part.ByHour text more t f = λ h. absurd (false≢true t)
value-front line parts part.ByDay text more t f = λ h. absurd (false≢true t)
value-front line parts part.ByYearDay text more t f = λ h. absurd (false≢true t)
value-front line parts part.ByWeekNo text more t f = λ h. absurd (false≢true t)
value-front line parts part.BySetPos text more t f = λ h. absurd (false≢true t)

value-valid : (line : ℕ) (parts : RuleParts) (name : PartName) (text : List ℕ) (more : RuleParts) → ArePartsValid parts
    → with_taken_value line parts name text ≡ Ok more → ArePartsValid more
value-valid line parts part.ByMonthDay text more v =
    step_keeps ArePartsValid (front_days line text) (λ x. record parts { by_month_day = x }) more
    (λ x e. assumption (front_days-count line text x e, front_days-rise line text x e))
value-valid line parts part.Freq text more v = with_part_value-valid line parts part.Freq text more v
value-valid line parts part.Until text more v = with_part_value-valid line parts part.Until text more v
value-valid line parts part.Count text more v = with_part_value-valid line parts part.Count text more v
value-valid line parts part.Interval text more v = with_part_value-valid line parts part.Interval text more v
value-valid line parts part.WeekStart text more v = with_part_value-valid line parts part.WeekStart text more v
value-valid line parts part.BySecond text more v = with_part_value-valid line parts part.BySecond text more v
value-valid line parts part.ByMinute text more v = with_part_value-valid line parts part.ByMinute text more v
value-valid line parts part.ByHour text more v = with_part_value-valid line parts part.ByHour text more v
value-valid line parts part.ByDay text more v = with_part_value-valid line parts part.ByDay text more v
value-valid line parts part.ByYearDay text more v = with_part_value-valid line parts part.ByYearDay text more v
value-valid line parts part.ByWeekNo text more v = with_part_value-valid line parts part.ByWeekNo text more v
value-valid line parts part.ByMonth text more v = with_part_value-valid line parts part.ByMonth text more v
value-valid line parts part.BySetPos text more v = with_part_value-valid line parts part.BySetPos text more v

-- ---- names

abbrev IsTakenPart : ScalePart → Type 0
IsTakenPart Scale = Unit {0}
IsTakenPart Skipping = Unit {0}
IsTakenPart (Of name) = is_taken name ≡ true

either_taken : (a : Bool) (x y : ScalePart) (m : Result ScalePart Refusal) → IsTakenPart x → (m ≡ Ok y → IsTakenPart y) → (if a then Ok x else m) ≡ Ok y
    → IsTakenPart y
either_taken true x y m t f h = let same : x ≡ y = cc in subst IsTakenPart same t
either_taken false x y m t f h = f h

taken_part-taken : (name : PartName) (y : ScalePart) → taken_part name ≡ Ok y → IsTakenPart y
taken_part-taken name y h =
    let p = passed (is_taken name) (Ok (Of name)) Extended y h in
    let same : Of name ≡ y = cc in
    subst IsTakenPart same p.0

named-taken : (line : ℕ) (name : List ℕ) (y : ScalePart) → scale_part_named line name ≡ Ok y → IsTakenPart y
unfolding scale_part_named
named-taken line name y =
    either_taken _ Scale y _ tt (either_taken _ Skipping y _ tt (λ h. (let p = and_then_ok (ok_or (part_named name) (BadRule line)) taken_part y h in
    taken_part-taken p.0 y p.2)))

-- ---- the parts, one after the other

scale-valid : (line : ℕ) (parts : ScaledParts) (text : List ℕ) (more : ScaledParts) → IsScaledValid parts → with_scale line parts text ≡ Ok more
    → IsScaledValid more
unfolding with_scale
scale-valid line parts text more v h =
    let p = passed (is_scale_name text) _ (BadRule line) more h in
    let q = passed _ (Ok (record parts { has_scale = true })) Extended more p.1 in
    let same : record parts { has_scale = true } ≡ more = cc in
    subst IsScaledValid same (record { valid = v.valid; front = v.front })

scale_value-valid : (line : ℕ) (parts : ScaledParts) (name : ScalePart) (text : List ℕ) (more : ScaledParts) → IsTakenPart name → IsScaledValid parts
    → with_scale_value line parts name text ≡ Ok more → IsScaledValid more
scale_value-valid line parts Scale text more t v = scale-valid line parts text more v
scale_value-valid line parts Skipping text more t v =
    step_keeps IsScaledValid (ok_or (skip_named text) (BadRule line)) (λ skip. record parts { skip = Some skip }) more
    (λ x e. record { valid = v.valid; front = v.front })
scale_value-valid line parts (Of name) text more t v =
    step_keeps IsScaledValid (with_taken_value line parts.parts name text) (λ x. record parts { parts = x }) more
    (λ x e. record { valid = value-valid line parts.parts name text x v.valid e; front = value-front line parts.parts name text x t v.front e })

scale_part-valid : (line : ℕ) (parts : ScaledParts) (text : List ℕ) (more : ScaledParts) → IsScaledValid parts → with_scale_part line parts text ≡ Ok more
    → IsScaledValid more
unfolding with_scale_part
scale_part-valid line parts text more v h =
    let sides = and_then_ok (ok_or (split_once 61 text) (BadRule line)) _ more h in
    let name = and_then_ok (scale_part_named line sides.0.0) _ more sides.2 in
    scale_value-valid line parts name.0 sides.0.1 more (named-taken line sides.0.0 name.0 name.1) v
    (not_refused (has_scale_part parts name.0) (PartTwice line) _ more name.2).1

pub scale_parts-valid : (line : ℕ) (text : List ℕ) (parts : ScaledParts) → scale_parts line text ≡ Ok parts → IsScaledValid parts
unfolding scale_parts scale_parts_of
scale_parts-valid line text parts =
    in_turn-keeps (with_scale_part line) IsScaledValid (scale_part-valid line) no_scale_parts (pieces 59 (without_last_semicolon (line_value text))) parts
    (record { valid = no_parts-valid; front = no_parts-front })

-- ---- the rule

-- a rule as its line states it
pub record IsReadRule (stated : Stated SkipRule) : Type 0 where
  pub valid : IsValidBeside stated.rule.rule
  pub freq : takes_skip stated.rule.rule.freq ≡ true
  pub parts : HasMonthPartsAlone stated.rule.rule
  pub from_front : All (λ k. pos 1 ≤ℤ k) stated.rule.rule.by_month_day
  pub until : FitsUntil stated.until stated.rule.rule.end
  pub one_end : IsOneEnd stated.rule.rule.end

pub starts : (freq : Freq) (kind : Kind) → takes_skip freq ≡ true → takes_start freq kind ≡ true
starts Monthly Days t = refl
starts Monthly Moments t = refl
starts Yearly Days t = refl
starts Yearly Moments t = refl
starts Secondly kind t = absurd (false≢true t)
starts Minutely kind t = absurd (false≢true t)
starts Hourly kind t = absurd (false≢true t)
starts Daily kind t = absurd (false≢true t)
starts Weekly kind t = absurd (false≢true t)

-- each such part may stand beside each other one
pub allowed : (freq : Freq) (end : End) (parts : RuleParts) → takes_skip freq ≡ true → IsFromFront parts → is_allowed (rule_with freq end parts) ≡ true
allowed Monthly end parts t f = rw (f.week_numbers, f.year_days, f.days, f.set_positions) (or-true _)
allowed Yearly end parts t f = rw (f.week_numbers, f.year_days, f.days, f.set_positions) (or-true _)
allowed Secondly end parts t f = absurd (false≢true t)
allowed Minutely end parts t f = absurd (false≢true t)
allowed Hourly end parts t f = absurd (false≢true t)
allowed Daily end parts t f = absurd (false≢true t)
allowed Weekly end parts t f = absurd (false≢true t)

end_of-one : (until : Option Stamp) (count : Option ℕ) (end : End) → end_of until count ≡ Ok end → IsOneEnd end
end_of-one None None end h = (let e : Never ≡ end = cc in subst IsOneEnd e tt)
end_of-one None (Some n) end h = (let e : Count n ≡ end = cc in subst IsOneEnd e tt)
end_of-one (Some stamp) None end h = (let e : Until stamp.kind stamp.at ≡ end = cc in subst IsOneEnd e tt)
end_of-one (Some stamp) (Some n) end h = absurd (cc)

stated-read : (line : ℕ) (text : List ℕ) (stated : Stated SkipRule) → stated_skip line text ≡ Ok stated → IsReadRule stated
unfolding stated_skip skip_rule_of
stated-read line text stated h =
    let parts = and_then_ok (scale_parts line text) _ stated h in
    let rule = and_then_ok (skip_rule_of line parts.0) _ stated parts.2 in
    let p = parts.0.parts in
    let v = scale_parts-valid line text parts.0 parts.1 in
    let freq = and_then_ok (ok_or p.freq (BadRule line)) _ rule.0 rule.1 in
    let end = and_then_ok (end_of p.until p.count) _ rule.0 freq.2 in
    let scaled = passed (is_scaled parts.0 freq.0) (Ok (record { skip = unwrap_or parts.0.skip Omit; rule = rule_with freq.0 end.0 p })) Extended rule.0
    end.2 in
    let taken : takes_skip freq.0 ≡ true = (and_parts parts.0.has_scale (takes_skip freq.0) scaled.0).1 in
    let same : record { rule = record { skip = unwrap_or parts.0.skip Omit; rule = rule_with freq.0 end.0 p }; until = p.until } ≡ stated = cc in
    subst IsReadRule same (record {
      valid = rule_with-valid freq.0 end.0 p v.valid (end_of-valid p.until p.count end.0 v.valid.until v.valid.count end.1)
          (allowed freq.0 end.0 p taken v.front);
      freq = taken;
      parts = record {
        week_numbers = v.front.week_numbers;
        year_days = v.front.year_days;
        days = v.front.days;
        hours = v.front.hours;
        minutes = v.front.minutes;
        seconds = v.front.seconds;
        set_positions = v.front.set_positions;
      };
      from_front = v.front.from_front;
      until = end_of-fits p.until p.count end.0 v.valid.until end.1;
      one_end = end_of-one p.until p.count end.0 end.1;
    })

-- ---- the rule beside the start

pub unrefused : {A : Type 0} (refusal : Option Refusal) (x y : A) → unless_refused refusal x ≡ Ok y → (refusal ≡ None) × (x ≡ y)
unrefused None x y h = (refl, cc)
unrefused (Some r) x y h = absurd (cc)

chooses : (kind : Kind) (start : ℤ) (rule : SkipRule) → start_refusal kind start rule ≡ None → is_skip_chosen rule kind start start ≡ true
chooses kind start rule h = by_test (is_skip_chosen rule kind start start) h
  where
    by_test : (b : Bool) → (if b then None else Some (NotSynchronised 1)) ≡ None → b ≡ true
    by_test true e = refl
    by_test false e = absurd (cc)

-- the end beside the start is of the same form
end_at-one : (end : End) (t : ℤ) → IsOneEnd end → IsOneEnd (end_at end t)
end_at-one Never t o = tt
end_at-one (Until kind at) t o = tt
end_at-one (Count n) t o = tt
end_at-one (Both kind at n) t o = absurd o

beside-one : (offset : Option ℤ) (start : Stamp) (line : ℕ) (until : Option Stamp) (end next : End) → IsOneEnd end
    → end_beside offset start line until end ≡ Ok next → IsOneEnd next
beside-one offset start line None end next o = λ h. (let same : end ≡ next = cc in subst IsOneEnd same o)
beside-one offset start line (Some stamp) end next o =
    step_keeps IsOneEnd (moment_beside offset start line stamp) (λ at. end_at end at) next (λ at e. end_at-one end at o)

-- a rule beside the start, before it is judged there
pub record IsReadBeside (kind : Kind) (rule : SkipRule) : Type 0 where
  pub valid : IsValidRule kind rule.rule
  pub freq : takes_skip rule.rule.freq ≡ true
  pub parts : HasMonthPartsAlone rule.rule
  pub from_front : All (λ k. pos 1 ≤ℤ k) rule.rule.by_month_day
  pub one_end : IsOneEnd rule.rule.end
  pub ends_in_years : EndsInYears rule.rule.end

beside-read : (offset : Option ℤ) (start : Stamp) (line : ℕ) (stated : Stated SkipRule) (rule : SkipRule) → IsReadRule stated
    → skip_rule_beside offset start line stated ≡ Ok rule → IsReadBeside start.kind rule
unfolding skip_rule_beside
beside-read offset start line stated rule r h =
    let end = and_then_ok (end_beside offset start line stated.until stated.rule.rule.end) _ rule h in
    let valid = r.valid.0 start.kind (starts stated.rule.rule.freq start.kind r.freq) in
    let ends = end_beside-valid offset start line stated.until stated.rule.rule.end end.0 r.until valid.count end.1 in
    let same : record stated.rule { rule = record stated.rule.rule { end = end.0 } } ≡ rule = cc in
    subst (IsReadBeside start.kind) same (record {
      valid = with_end-valid start.kind stated.rule.rule end.0 valid ends.0;
      freq = r.freq;
      parts = record {
        week_numbers = r.parts.week_numbers;
        year_days = r.parts.year_days;
        days = r.parts.days;
        hours = r.parts.hours;
        minutes = r.parts.minutes;
        seconds = r.parts.seconds;
        set_positions = r.parts.set_positions;
      };
      from_front = r.from_front;
      one_end = beside-one offset start line stated.until stated.rule.rule.end end.0 r.one_end end.1;
      ends_in_years = ends.1;
    })

pub event-read : (offset : Option ℤ) (scan : Scan) (event : Event SkipRule) → passes skip_language (skip_rule_beside offset) offset scan ≡ Ok event
    → IsReadEvent IsReadBeside event
event-read offset =
    passes-valid skip_language (skip_rule_beside offset) IsReadBeside
    (λ start line text stated rule s r. beside-read offset start line stated rule (stated-read line text stated s) r) offset

-- what holds of each rule holds of the first
first-keeps : {A : Type 0} (P : A → Type 0) (xs : List A) → All P xs → IfSome (slice_get xs 0) P
first-keeps P [] all = tt
first-keeps P (x ∷ xs) all = All-head P x xs all

pub first-read : (event : Event SkipRule) → IsReadEvent IsReadBeside event → IfSome (slice_get event.beside.rules 0) (IsReadBeside event.start.kind)
first-read event r = first-keeps (IsReadBeside event.start.kind) event.beside.rules r.beside.rules

pub interval-some : (kind : Kind) (rule : Option SkipRule) → IfSome rule (IsReadBeside kind) → IfSome rule (λ r. 1 ≤ r.rule.interval)
interval-some kind None r = tt
interval-some kind (Some rule) r = r.valid.interval_low

-- ---- the rule judged beside the start

pub judged-unrefused : (kind : Kind) (start : ℤ) (rule judged : SkipRule) → judged_skip kind start rule ≡ Ok judged
    → (end_refusal kind start rule.rule.end ≡ None) × ((start_refusal kind start rule ≡ None) × (rule ≡ judged))
judged-unrefused kind start rule judged h =
    let ended = and_then_ok (unless_refused (end_refusal kind start rule.rule.end) rule) (λ (e : SkipRule). unless_refused (start_refusal kind start e) e) judged h in
    let own = unrefused (end_refusal kind start rule.rule.end) rule ended.0 ended.1 in
    let chosen = unrefused (start_refusal kind start ended.0) ended.0 judged ended.2 in
    (own.0, (subst (λ r. start_refusal kind start r ≡ None) (sym own.1) chosen.0, own.1 ∙ chosen.1))

judged-fits : (kind : Kind) (start : ℤ) (rule judged : SkipRule) → IsReadBeside kind rule → judged_skip kind start rule ≡ Ok judged
    → FitsSkipping kind start judged
judged-fits kind start rule judged r h =
    let free = judged-unrefused kind start rule judged h in
    subst (FitsSkipping kind start) free.1.1 (record {
      valid = r.valid;
      freq = r.freq;
      parts = r.parts;
      from_front = r.from_front;
      one_end = r.one_end;
      ends_in_years = r.ends_in_years;
      ends_not_before = end_fits kind start rule.rule.end free.0;
      synchronised = chooses kind start rule free.1.0;
    })

if_some-fits : (kind : Kind) (start : ℤ) (rule judged : Option SkipRule) → IfSome rule (IsReadBeside kind) → judged_if_some kind start rule ≡ Ok judged
    → FitsIfSome kind start judged
if_some-fits kind start None judged r = λ h. (let same : None ≡ judged = cc in subst (FitsIfSome kind start) same tt)
if_some-fits kind start (Some rule) judged r =
    step_keeps (FitsIfSome kind start) (judged_skip kind start rule) (λ x. Some x) judged (λ x e. judged-fits kind start rule x r e)

-- ---- the series

-- a scan as it is read
pub record IsRead (offset : Option ℤ) (scan : Scan) (series : SkipSeries) : Type 0 where
  pub event : Event SkipRule
  pub rule : Option SkipRule
  pub both : passes skip_language (skip_rule_beside offset) offset (lines_read scan) ≡ Ok event
  pub judged : judged_if_some event.start.kind event.start.at (slice_get event.beside.rules 0) ≡ Ok rule
  pub is : record { kind = event.start.kind; start = event.start.at; rule = rule } ≡ series

pub scan_is : (offset : Option ℤ) (scan : Scan) (series : SkipSeries) → skip_scan offset scan ≡ Ok series → IsRead offset scan series
unfolding skip_scan
scan_is offset scan series h =
    let event = and_then_ok (passes skip_language (skip_rule_beside offset) offset (lines_read scan)) _ series h in
    let rule = and_then_ok (judged_if_some event.0.start.kind event.0.start.at (slice_get event.0.beside.rules 0)) _ series event.2 in
    record { event = event.0; rule = rule.0; both = event.1; judged = rule.1; is = cc }

pub scan-sound : (offset : Option ℤ) (scan : Scan) (series : SkipSeries) → IsRead offset scan series → IsSoundSkipping series
scan-sound offset scan series r =
    let e = event-read offset (lines_read scan) r.event r.both in
    subst IsSoundSkipping r.is (record {
      start = e.start;
      rule = if_some-fits r.event.start.kind r.event.start.at (slice_get r.event.beside.rules 0) r.rule (first-read r.event e) r.judged;
    })

pub text-sound : (offset : Option ℤ) (text : List ℕ) (result : Result SkipSeries Fault) → Answers (skip_text offset text) result → IfOk result IsSoundSkipping
unfolding skip_text
text-sound offset text (Ok series) h =
    let scan = event_scan false (without_mark text) in
    scan-sound offset scan series (scan_is offset scan series h)
text-sound offset text (Err fault) h = tt
