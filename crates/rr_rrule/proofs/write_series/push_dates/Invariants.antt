use Rattle.std.specs.Prelude.{◌≡◌, ◌++◌, drop}
use Rattle.rr_model.specs.Text.Written.{date_line, lines_of}
use Rattle.rr_rrule.proofs.write_series.push_dates.Given as goal

-- the others are left
abbrev pub invariant-loop-at : goal.invariant-loop-at
invariant-loop-at l =
    l.out.items ++ lines_of (date_line l.name l.kind) (drop l.at-index l.dates) ≡ l.fn.out.items ++ lines_of (date_line l.name l.kind) l.dates
