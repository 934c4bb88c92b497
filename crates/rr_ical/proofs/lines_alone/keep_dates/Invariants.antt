use Rattle.std.proofs.Common.{◌≡◌, length}
use Rattle.std.specs.List.{slice_split}
use Rattle.rr_ical.specs.Kept.{is_date_separator, kept_dates}
use Rattle.rr_ical.proofs.lines_alone.keep_dates.Given as goal

abbrev pub invariant-loop-piece : goal.invariant-loop-piece
invariant-loop-piece g l =
    kept_dates l.line l.is_plus l.read (slice_split (is_date_separator l.takes_semicolons) l.rest)
    ≡ kept_dates l.line l.is_plus l.fn.read (slice_split (is_date_separator l.takes_semicolons) l.text)

abbrev pub decreases-loop-piece : goal.decreases-loop-piece
decreases-loop-piece g l = length l.rest
