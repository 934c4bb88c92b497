-- Worked texts.
use Rattle.std.proofs.Common.{◌≡◌, pos, neg_ℤ, true, false, refl}
use Rattle.std.specs.Prelude.{codes, None, Some}
use Rattle.std.specs.Fmt.{digits}
use Rattle.rr_model.specs.Calendar.{day_number, first_day_of_year, days_of_months, year_of, days_into_year, months_over, month_of, day_of_month}
use Rattle.rr_model.specs.Text.Moments.{is_digits, number_at, basic_date, basic_time, basic_moment, basic, extended_date_text, extended_time_text}
use Rattle.rr_model.specs.Text.Moments.{extended_text, date_stamp, moment_stamp}
use Rattle.rr_model.specs.declared.kind.Kind.TheVariants.{Days, Moments}

basic_dates :
    (basic_date (codes "20240101") ≡ Some (pos 19_723))
    × (basic_date (codes "20240229") ≡ Some (pos 19_782))
    × (basic_date (codes "20230229") ≡ None)
    × (basic_date (codes "00010101") ≡ Some (neg_ℤ (pos 719_162)))
    × (basic_date (codes "99991231") ≡ Some (pos 2_932_896))
    × (basic_date (codes "00001231") ≡ None)
    × (basic_date (codes "202401011") ≡ None)
    × (basic_date (codes "2024010") ≡ None)
    × (basic_date (codes "2024 101") ≡ None)
unfolding day_number first_day_of_year days_of_months is_digits number_at basic_date
basic_dates = (refl, refl, refl, refl, refl, refl, refl, refl, refl)

basic_moments :
    (basic (codes "20240101") ≡ Some (date_stamp (pos 19_723)))
    × (basic (codes "19700101T000001") ≡ Some (moment_stamp (pos 0) 1 false))
    × (basic (codes "19700102t235959z") ≡ Some (moment_stamp (pos 1) 86_399 true))
    × (basic (codes "19700101T240000") ≡ None)
    × (basic (codes "19700101T235960") ≡ None)
    × (basic (codes "19700101T000000ZZ") ≡ None)
    × (basic (codes "19700101Z") ≡ None)
    × (basic (codes "19700101 000000") ≡ None)
unfolding day_number first_day_of_year days_of_months is_digits number_at basic_date basic_time basic_moment basic
basic_moments = (refl, refl, refl, refl, refl, refl, refl, refl)

extended_texts :
    (extended_text Days (pos 19_782) ≡ codes "2024-02-29")
    × (extended_text Days (neg_ℤ (pos 719_162)) ≡ codes "0001-01-01")
    × (extended_text Days (pos 2_932_897) ≡ codes "10000-01-01")
    × (extended_text Moments (pos 1_709_199_000) ≡ codes "2024-02-29T09:30:00")
    × (extended_text Moments (neg_ℤ (pos 1)) ≡ codes "1969-12-31T23:59:59")
unfolding first_day_of_year days_of_months year_of days_into_year months_over month_of day_of_month extended_date_text extended_time_text extended_text digits
extended_texts = (refl, refl, refl, refl, refl)
