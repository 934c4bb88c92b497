-- What a BY part says of a number, if the start fills it (RFC 5545, section 3.3.10, on DTSTART).
use Rattle.std.specs.Prelude.{ℕ, Bool, List, ℤ, pos}
use Rattle.rr_model.specs.Rule.Candidate.{allows}
use Rattle.rr_model.specs.Rule.Filled.{filled_part}

-- a time part allows the number; if it is absent and wanted, it has the start's own number alone
abbrev pub number_allowed : Bool → List ℤ → ℕ → ℕ → Bool
number_allowed is_wanted numbers own n = allows (filled_part is_wanted numbers (pos own)) (pos n)
