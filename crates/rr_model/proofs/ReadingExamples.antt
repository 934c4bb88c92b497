-- Worked dates and moments of ISO 8601.
use Rattle.std.proofs.Common.{◌≡◌, pos, true, false, refl}
use Rattle.std.specs.Prelude.{codes, None, Some}
use Rattle.rr_model.specs.Calendar.{day_number, first_day_of_year, days_of_months}
use Rattle.rr_model.specs.Text.Moments.{is_digits, number_at, basic_date, basic_time, date_stamp, moment_stamp}
use Rattle.rr_model.specs.Text.ExtendedMoments.{extended_date_of, extended_time_of, extended_moment_of, extended}

extended_texts :
    (extended (codes "2024-02-29") ≡ Some (date_stamp (pos 19_782)))
    × (extended (codes "2024-02-29T09:30:00") ≡ Some (moment_stamp (pos 19_782) 34_200 false))
    × (extended (codes "2024-01-02t09:30:00.0000000z") ≡ Some (moment_stamp (pos 19_724) 34_200 true))
    × (extended (codes "2024-01-02T09:30:00.") ≡ None)
    × (extended (codes "2024-01-02T09:30:00.1") ≡ None)
    × (extended (codes "2024-01-02T09:30") ≡ None)
    × (extended (codes "2023-02-29") ≡ None)
    × (extended (codes "2024/01/02") ≡ None)
    × (extended (codes "2024-01-02T24:00:00") ≡ None)
unfolding day_number first_day_of_year days_of_months is_digits number_at basic_date basic_time extended_date_of extended_time_of extended_moment_of extended
extended_texts = (refl, refl, refl, refl, refl, refl, refl, refl, refl)
