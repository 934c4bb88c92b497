-- Worked texts of vCalendar 1.0.
use Rattle.std.proofs.Common.{◌≡◌, ℕ, List, [], ◌∷◌, ◌++◌, pos, neg_ℤ, true, false, refl}
use Rattle.std.specs.Prelude.{codes, None, Ok, Err}
use Rattle.rr_model.specs.Calendar.{day_number, first_day_of_year, days_of_months, year_of, days_into_year, months_over, month_of, day_of_month}
use Rattle.rr_model.specs.Calendar.{day_of_year, weekday_of}
use Rattle.rr_model.specs.Whole.Count.{count_from}
use Rattle.rr_model.specs.Text.Moments.{is_digits, number_at, basic, basic_date, basic_time, basic_moment}
use Rattle.rr_model.specs.Text.RuleValues.{weekday_named, number_up_to}
use Rattle.rr_model.specs.Text.Rules.{line_value}
use Rattle.rr_model.specs.declared.kind.Kind.TheVariants.{Days}
use Rattle.rr_model.specs.declared.rule.End.{End}
use Rattle.rr_model.specs.declared.rule.End.TheVariants.{Never, Until, Count, Both}
use Rattle.rr_model.specs.Text.Lines.{physical_lines, unfolded_lines}
use Rattle.rr_model.specs.Text.UsedLines.{value_of_line, line_kind}
use Rattle.rr_model.specs.Text.Event.{left_by, event_scan}
use Rattle.rr_model.specs.Vcal.Rule.{head_of, parts_of_head, with_word, stated_vrule}
use Rattle.rr_model.specs.Vcal.Reading.{vrule_beside, reads_vcal}
use Rattle.rr_model.specs.Vcal.Members.{is_vcal_candidate}
use Rattle.rr_model.specs.declared.refusal.Refusal.{Refusal}
use Rattle.rr_model.specs.declared.refusal.Refusal.TheVariants.{BadMoment, BadRule, PartTwice, NumberRange}
use Rattle.rr_model.specs.declared.vcal.FamilyKind.{FamilyKind}
use Rattle.rr_model.specs.declared.vcal.FamilyKind.TheVariants.{D, W, MD, MP, YM, YD}
use Rattle.rr_model.specs.declared.item.Item.{Item}
use Rattle.rr_model.specs.declared.item.Item.TheVariants.{Every, Weekday, MonthDay, Place, Month, YearDay}
use Rattle.rr_model.specs.declared.vcal.VRule.{VRule}
use Rattle.rr_model.specs.declared.vcal.VSeries.{VSeries}

abbrev text : List ℕ → List ℕ
text rule = codes "DTSTART:20240131\r\nRRULE:" ++ rule ++ codes "\r\n"

abbrev vrule : FamilyKind → ℕ → List Item → End → VRule
vrule family interval items end = record { family = family; interval = interval; items = items; end = end }

-- a series of dates from 2024-01-31 with one rule
abbrev one : VRule → VSeries
one rule = record { kind = Days; start = pos 19_753; rules = rule ∷ []; excluded = []; plus = []; minus = [] }

abbrev read : List ℕ → VRule → Type 0
read rule wanted = reads_vcal None (text rule) ≡ Ok (one wanted)

readings :
    read (codes "D4") (vrule D 4 (Every ∷ []) (Count 2))
    × read (codes "d1 #0") (vrule D 1 (Every ∷ []) Never)
    × read (codes "D1 #5 20240203") (vrule D 1 (Every ∷ []) (Both Days (pos 19_756) 5))
    × read (codes "D1 20240203 #0") (vrule D 1 (Every ∷ []) (Until Days (pos 19_756)))
    × read (codes "W2 FR mo \t #3") (vrule W 2 (Weekday 0 ∷ Weekday 4 ∷ []) (Count 3))
    × read (codes "W1") (vrule W 1 (Weekday 2 ∷ []) (Count 2))
    × read (codes "MD1") (vrule MD 1 (MonthDay (pos 31) ∷ []) (Count 2))
    × read (codes "MD1 LD 2- 3+ 1") (vrule MD 1 (MonthDay (pos 1) ∷ MonthDay (pos 3) ∷ MonthDay (neg_ℤ (pos 1)) ∷ MonthDay (neg_ℤ (pos 2)) ∷ []) (Count 2))
    × read (codes "MP1 5+ FR #3") (vrule MP 1 (Place (pos 5) 4 ∷ []) (Count 3))
    × read (codes "MP2 1+ 1- WE FR 3+ MO #1")
    (vrule MP 2 (Place (pos 1) 2 ∷ Place (pos 1) 4 ∷ Place (pos 3) 0 ∷ Place (neg_ℤ (pos 1)) 2 ∷ Place (neg_ℤ (pos 1)) 4 ∷ []) (Count 1))
    × read (codes "YM1") (vrule YM 1 (Month 1 ∷ []) (Count 2))
    × read (codes "YD1 001 200") (vrule YD 1 (YearDay 1 ∷ YearDay 200 ∷ []) (Count 2))
    × read (codes "YD1") (vrule YD 1 (YearDay 31 ∷ []) (Count 2))
unfolding physical_lines unfolded_lines value_of_line line_kind left_by event_scan head_of parts_of_head with_word stated_vrule vrule_beside reads_vcal
    day_number first_day_of_year days_of_months year_of days_into_year months_over month_of day_of_month day_of_year weekday_of is_digits number_at basic
    basic_date basic_time basic_moment weekday_named number_up_to line_value
readings = (refl, refl, refl, refl, refl, refl, refl, refl, refl, refl, refl, refl, refl)

abbrev refused : List ℕ → Refusal → Type 0
refused rule refusal = reads_vcal None (text rule) ≡ Err refusal

refusals :
    refused (codes "") (BadRule 2)
    × refused (codes "X1") (BadRule 2)
    × refused (codes "D") (BadRule 2)
    × refused (codes "D0") (NumberRange 2)
    × refused (codes "D1 MO") (BadRule 2)
    × refused (codes "MP1") (BadRule 2)
    × refused (codes "MP0") (NumberRange 2)
    × refused (codes "MP1 6+") (NumberRange 2)
    × refused (codes "MP1 1+") (BadRule 2)
    × refused (codes "MP1 MO") (BadRule 2)
    × refused (codes "MP1 1+ 20240230") (BadRule 2)
    × refused (codes "MP1 1+ MO 20240230") (BadMoment 2)
    × refused (codes "W1 MO 20240201T #1") (BadMoment 2)
    × refused (codes "W1 MO 20240201 20240230") (BadMoment 2)
    × refused (codes "W1 MO 20240201 20240202") (PartTwice 2)
    × refused (codes "W1 #1 #x") (BadRule 2)
    × refused (codes "W1 #1 #99999999999999999999") (PartTwice 2)
    × refused (codes "W1 #18446744073709551616") (NumberRange 2)
    × refused (codes "W1 #2 MO") (BadRule 2)
    × refused (codes "MD1 1234") (BadRule 2)
    × refused (codes "MD1 32") (NumberRange 2)
    × refused (codes "MD1 0-") (NumberRange 2)
    × refused (codes "YM1 13") (NumberRange 2)
    × refused (codes "YD1 5+") (BadRule 2)
unfolding physical_lines unfolded_lines value_of_line line_kind left_by event_scan head_of parts_of_head with_word stated_vrule vrule_beside reads_vcal
    day_number first_day_of_year days_of_months year_of days_into_year months_over month_of day_of_month day_of_year weekday_of is_digits number_at basic
    basic_date basic_time basic_moment weekday_named number_up_to line_value
refusals = (refl, refl, refl, refl, refl, refl, refl, refl, refl, refl, refl, refl, refl, refl, refl, refl, refl, refl, refl, refl, refl, refl, refl, refl)

-- the fifth Fridays from 2024-03-29: 2024-05-31 is one, 2024-04-26 is none
members :
    (is_vcal_candidate (vrule MP 1 (Place (pos 5) 4 ∷ []) (Count 3)) Days (pos 19_811) (pos 19_874) ≡ true)
    × (is_vcal_candidate (vrule MP 1 (Place (pos 5) 4 ∷ []) (Count 3)) Days (pos 19_811) (pos 19_839) ≡ false)
unfolding is_vcal_candidate first_day_of_year days_of_months year_of days_into_year months_over month_of day_of_month weekday_of count_from
members = (refl, refl)
