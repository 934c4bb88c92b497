-- Worked lists: what they state, or the first refusal.
use Rattle.std.proofs.Common.{◌≡◌, List, [], ◌∷◌, ℤ, pos, true, false, refl}
use Rattle.std.specs.Prelude.{codes, Ok, Err}
use Rattle.rr_model.specs.Calendar.{day_number, first_day_of_year, days_of_months}
use Rattle.rr_model.specs.Text.Moments.{is_digits, number_at, basic_date, basic_time}
use Rattle.rr_model.specs.declared.kind.Kind.TheVariants.{Days}
use Rattle.rr_model.specs.declared.rule.Series.{Series}
use Rattle.rr_model.specs.Text.Lines.{physical_lines}
use Rattle.rr_model.specs.Text.ExtendedMoments.{extended_date_of, extended_time_of, extended_moment_of, extended}
use Rattle.rr_ical.specs.Lists.{with_list_line, list_text}
use Rattle.rr_model.specs.declared.refusal.Refusal.TheVariants.{BadMoment, MixedKinds}
use Rattle.rr_model.specs.declared.refusal.Refusal.TheVariants.{NotRising}

abbrev dates : List ℤ → Series
dates plus = record { kind = Days; start = pos 19_723; start_counts = true; rules = []; excluded = []; plus = plus; minus = [] }

lists :
    (list_text (codes "") ≡ Ok (record { kind = Days; start = pos 0; start_counts = false; rules = []; excluded = []; plus = []; minus = [] }))
    × (list_text (codes "\n 2024-01-01\t\r\n\n2024-01-03") ≡ Ok (dates (pos 19_725 ∷ [])))
    × (list_text (codes "2024-01-02\n2024-01-01\n") ≡ Err (NotRising 2))
    × (list_text (codes "2024-01-02\n2024-01-02\n") ≡ Err (NotRising 2))
    × (list_text (codes "2024-01-02\n2024-01-01T00:00:00\n") ≡ Err (MixedKinds 2))
    × (list_text (codes "2024-01-02T00:00:00.0\n") ≡ Err (BadMoment 1))
    × (list_text (codes "2024-01-02\r") ≡ Err (BadMoment 1))
    × (list_text (239 ∷ 187 ∷ 191 ∷ codes "2024-01-01\n") ≡ Ok (dates []))
unfolding physical_lines day_number first_day_of_year days_of_months is_digits number_at basic_date basic_time extended_date_of extended_time_of
    extended_moment_of extended with_list_line list_text
lists = (refl, refl, refl, refl, refl, refl, refl, refl)
