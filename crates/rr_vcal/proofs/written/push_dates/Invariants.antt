use Rattle.std.specs.Prelude.{◌≡◌, ◌++◌, drop}
use Rattle.rr_model.specs.Text.Written.{basic_text, lines_of}
use Rattle.rr_model.specs.Vcal.Written.{vcal_line}
use Rattle.rr_vcal.proofs.written.push_dates.Given as goal

-- the dates so far were added
abbrev pub invariant-loop-date : goal.invariant-loop-date
invariant-loop-date l =
    l.out.items ++ lines_of (λ at. vcal_line l.name (basic_text l.kind at)) (drop l.date-index l.dates)
    ≡ l.fn.out.items ++ lines_of (λ at. vcal_line l.name (basic_text l.kind at)) l.dates
