-- What is read beside the start is valid.
use Rattle.std.proofs.Common.{◌≡◌, ℕ, false, List, Result, Ok, Err, Option, subst, ℤ}
use Rattle.std.specs.Result.{IfOk}
use Rattle.std.proofs.lemmas.List.Elements.{All-weaker}
use Rattle.rr_model.specs.Answers.{Answers}
use Rattle.rr_model.specs.Rule.Validity.{takes_start, IsValidRule, EndsInYears}
use Rattle.rr_model.specs.Series.Validity.{IsValidSeries}
use Rattle.rr_model.specs.Text.Calendars.{end_beside}
use Rattle.rr_rule_parts.specs.Calendars.{stated_rule, rule_beside, rrule_language, series_of_event, calendar_scan, calendar_text}
use Rattle.rr_model.specs.Text.Event.{event_scan}
use Rattle.rr_model.specs.Text.Lines.{without_mark}
use Rattle.rr_model.specs.Text.Passes.{Stated, Event}
use Rattle.rr_rule_parts.specs.Rules.{rule_of, rule_parts}
use Rattle.rr_model.specs.declared.kind.Kind.{Kind}
use Rattle.rr_model.specs.declared.refusal.Fault.{Fault}
use Rattle.rr_model.specs.declared.refusal.Refusal.TheVariants.{NotAllowed}
use Rattle.rr_model.specs.declared.rule.Rule.{Rule}
use Rattle.rr_model.specs.declared.rule.Series.{Series}
use Rattle.rr_model.specs.declared.stamp.Stamp.{Stamp}
use Rattle.rr_model.specs.declared.used.Scan.{Scan}
use Rattle.rr_text.proofs.StepLemmas.{and_then_ok, passed}
use Rattle.rr_ical.proofs.BesideLemmas.{FitsUntil, end_beside-valid, IsReadEvent, read-valid}
use Rattle.rr_rule_parts.proofs.ValidPartsLemmas.{rule_parts-valid}
use Rattle.rr_model.proofs.WithEndLemmas.{with_end-valid}
use Rattle.rr_rule_parts.proofs.ValidityLemmas.{IsValidBeside, rule_of-valid, rule_of-fits}

-- ---- rules

stated_rule-valid : (line : ℕ) (text : List ℕ) (stated : Stated Rule) → stated_rule line text ≡ Ok stated
    → IsValidBeside stated.rule × FitsUntil stated.until stated.rule.end
unfolding stated_rule
stated_rule-valid line text stated h =
    let parts = and_then_ok (rule_parts line text) _ stated h in
    let rule = and_then_ok (rule_of line parts.0) _ stated parts.2 in
    let valid = rule_parts-valid line text parts.0 parts.1 in
    let same : record { rule = rule.0; until = parts.0.until } ≡ stated = cc in
    subst (λ (s : Stated Rule). IsValidBeside s.rule × FitsUntil s.until s.rule.end) same
    (rule_of-valid line parts.0 rule.0 valid rule.1, rule_of-fits line parts.0 rule.0 valid.until rule.1)

module _ (offset : Option ℤ) (start : Stamp) where
  rule_beside-valid : (line : ℕ) (stated : Stated Rule) (rule : Rule) → IsValidBeside stated.rule × FitsUntil stated.until stated.rule.end
      → rule_beside offset start line stated ≡ Ok rule
      → IsValidRule start.kind rule × EndsInYears rule.end
  unfolding rule_beside
  rule_beside-valid line stated rule v h =
      let end = and_then_ok (end_beside offset start line stated.until stated.rule.end) _ rule h in
      let taken = passed (takes_start stated.rule.freq start.kind) (Ok (record stated.rule { end = end.0 })) NotAllowed rule end.2 in
      let same : record stated.rule { end = end.0 } ≡ rule = cc in
      let valid = v.0.0 start.kind taken.0 in
      let ends = end_beside-valid offset start line stated.until stated.rule.end end.0 v.1 valid.count end.1 in
      subst (λ (r : Rule). IsValidRule start.kind r × EndsInYears r.end) same (with_end-valid start.kind stated.rule end.0 valid ends.0, ends.1)

-- ---- the series

-- a rule of a series is valid beside a start of this kind, and its end lies in the years 1 to 9999
abbrev IsGoodRule : Kind → Rule → Type 0
IsGoodRule kind rule = IsValidRule kind rule × EndsInYears rule.end

series-valid : (event : Event Rule) → IsReadEvent IsGoodRule event → IsValidSeries (series_of_event event)
series-valid event v =
    let valid : (rule : Rule) → IsGoodRule event.start.kind rule → IsValidRule event.start.kind rule = λ rule good. good.0 in
    let ends : (rule : Rule) → IsGoodRule event.start.kind rule → EndsInYears rule.end = λ rule good. good.1 in
    record {
      start = v.start;
      start_counts = λ e. absurd (cc);
      rules = All-weaker _ _ valid event.beside.rules v.beside.rules;
      excluded = All-weaker _ _ valid event.beside.excluded v.beside.excluded;
      few_rules = v.few_rules;
      ends = All-weaker _ _ ends event.beside.rules v.beside.rules;
      excluded_ends = All-weaker _ _ ends event.beside.excluded v.beside.excluded;
      plus = v.beside.plus;
      minus = v.beside.minus;
      plus_rises = v.beside.plus_rises;
      minus_rises = v.beside.minus_rises;
      few_dates = v.few_dates;
    }

pub scan-valid : (offset : Option ℤ) (scan : Scan) (series : Series) → calendar_scan offset scan ≡ Ok series → IsValidSeries series
scan-valid offset scan series h =
    read-valid rrule_language (rule_beside offset) IsGoodRule
    (λ start line text stated rule s r. rule_beside-valid offset start line stated rule (stated_rule-valid line text stated s) r)
    series_of_event IsValidSeries series-valid offset scan series h

pub calendar-valid : (offset : Option ℤ) (bytes : List ℕ) (series : Series) → calendar_text offset bytes ≡ Ok series → IsValidSeries series
unfolding calendar_text
calendar-valid offset bytes series = scan-valid offset (event_scan false (without_mark bytes)) series

-- so is what a call answers that takes memory
pub text-valid : (offset : Option ℤ) (text : List ℕ) (r : Result Series Fault) → Answers (calendar_text offset text) r → IfOk r IsValidSeries
text-valid offset text (Ok series) h = calendar-valid offset text series h
text-valid offset text (Err fault) h = tt
