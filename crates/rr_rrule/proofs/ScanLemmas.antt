-- The series of used lines, by what the two passes make of these.
use Rattle.std.proofs.Common.{◌≡◌, List, Option, Result, Ok, ap, ◌∙◌, ℤ}
use Rattle.std.specs.Prelude.{ok_or}
use Rattle.rr_rule_parts.specs.Calendars.{rule_beside, rrule_language, series_of_event, calendar_scan}
use Rattle.rr_model.specs.Text.Passes.{Beside, Event, nothing_read, nothing_beside, first_pass, second_pass, unless_stopped}
use Rattle.rr_model.specs.Text.RuleValues.{◌>>=◌}
use Rattle.rr_model.specs.declared.pass.FirstPass.{FirstPass}
use Rattle.rr_model.specs.declared.refusal.Refusal.{Refusal}
use Rattle.rr_model.specs.declared.refusal.Refusal.TheVariants.{NoStart}
use Rattle.rr_model.specs.declared.rule.Rule.{Rule}
use Rattle.rr_model.specs.declared.stamp.Stamp.{Stamp}
use Rattle.rr_model.specs.declared.used.UsedLine.{UsedLine}
use Rattle.rr_text.proofs.StepLemmas.{step_same}

-- lines of which both passes make the same
pub scan_by_passes : (offset : Option ℤ) (lines others : List UsedLine) (stop : Option Refusal)
    → first_pass rrule_language nothing_read lines ≡ first_pass rrule_language nothing_read others
    → ((start : Stamp) → second_pass rrule_language (rule_beside offset start) offset start nothing_beside lines
    ≡ second_pass rrule_language (rule_beside offset start) offset start nothing_beside others)
    → calendar_scan offset (record { used = lines; stop = stop }) ≡ calendar_scan offset (record { used = others; stop = stop })
scan_by_passes offset lines others stop first second =
    ap (λ (r : Result (Event Rule) Refusal). r >>= λ event. Ok (series_of_event event))
    (ap (λ (r : Result FirstPass Refusal). r >>= λ read. unless_stopped stop read >>= λ pass. ok_or pass.start NoStart >>= λ start.
    second_pass rrule_language (rule_beside offset start) offset start nothing_beside lines >>= λ beside. Ok (record { start = start; beside = beside })) first
    ∙ step_same (first_pass rrule_language nothing_read others) _ _
    (λ read. step_same (unless_stopped stop read) _ _ (λ pass. step_same (ok_or pass.start NoStart) _ _ (λ start.
    ap (λ (r : Result (Beside Rule) Refusal). r >>= λ beside. Ok (record { start = start; beside = beside })) (second start)))))
