-- A carriage return before a line feed changes nothing that a text states.
use Rattle.std.proofs.Common.{◌≡◌, ℕ, false, List, [], length, ap, ◌∙◌}
use Rattle.rr_rule_parts.specs.Calendars.{calendar_scan, calendar_text}
use Rattle.rr_model.specs.Text.Event.{event_scan, scan_of, is_bare_text, no_components}
use Rattle.rr_model.specs.Text.Lines.{physical_lines, with_physical_lines, unfolded_lines, without_mark}
use Rattle.rr_ical.specs.LineLaws.{with_returns}
use Rattle.rr_ical.proofs.LineEndLemmas.{same_lines, without_mark-returns, no_return-mark}
use Rattle.rr_rrule.specs.TextLaws.{LineEndsDoNotMatter}

scan_by_lines : (text other : List ℕ) → physical_lines text ≡ physical_lines other → event_scan false text ≡ event_scan false other
unfolding event_scan unfolded_lines
scan_by_lines text other same =
    ap (λ (ls : List (List ℕ)). scan_of (is_bare_text (with_physical_lines false 1 [] ls)) (length ls) no_components (with_physical_lines false 1 [] ls)) same

pub line_ends_do_not_matter : LineEndsDoNotMatter
unfolding calendar_text
line_ends_do_not_matter offset text h =
    let plain = without_mark text in
    ap (λ (t : List ℕ). calendar_scan offset (event_scan false t)) (without_mark-returns text)
    ∙ ap (calendar_scan offset) (scan_by_lines (with_returns plain) plain (same_lines plain (no_return-mark text h)))
