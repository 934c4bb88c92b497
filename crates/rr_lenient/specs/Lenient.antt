-- How calendars show a series that is at odds with the standard (RFC 5545, sections 3.3.10 and 3.8.5.3).
use Rattle.std.specs.Prelude.{◌≡◌, Bool}
use Rattle.rr_model.specs.declared.rule.Series.{Series}
use Rattle.rr_lenient.specs.Ends.{has_other_end, with_ends_of_kind}
use Rattle.rr_start.specs.Start.{IsReread}

-- The given series read leniently: each UNTIL as one of the start's kind, `until` if one was of another; then restated if its start is off, `start` if it is.
abbrev pub IsLenient : Series → Series → Bool → Bool → Type 0
IsLenient given read until start = (until ≡ has_other_end given) × IsReread (with_ends_of_kind given) read start
