use Rattle.std.proofs.Common.{◌≡◌, ◌++◌, length, drop, map}
use Rattle.std.specs.List.{slice_split}
use Rattle.rr_model.specs.Text.Calendars.{is_comma}
use Rattle.rr_icalfile.specs.Days.{value_line}
use Rattle.rr_icalfile.proofs.day.put_values.Given as goal

abbrev pub invariant-loop-text : goal.invariant-loop-text
invariant-loop-text l =
    l.used ++ map (value_line l.time l.line) (drop (length l.yielded) (slice_split is_comma l.value))
    ≡ l.fn.used ++ map (value_line l.time l.line) (slice_split is_comma l.value)
