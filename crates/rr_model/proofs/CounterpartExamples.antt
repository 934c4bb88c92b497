-- Worked counterparts of vCalendar rules in RFC 5545 (section 3.3.10).
use Rattle.std.proofs.Common.{◌≡◌, ℕ, List, [], ◌∷◌, pos, neg_ℤ, true, refl}
use Rattle.rr_model.specs.Calendar.{first_day_of_year, year_of, days_of_months, days_into_year, months_over, month_of, day_of_month}
use Rattle.rr_model.specs.Vcal.Counterpart.{day_item, rule_of_vrule, series_of_vseries}
use Rattle.rr_model.specs.Rule.Plain.{plain_rule}
use Rattle.rr_model.specs.declared.item.Item.{Item}
use Rattle.rr_model.specs.declared.item.Item.TheVariants.{Every, MonthDay, Place, Month}
use Rattle.rr_model.specs.declared.kind.Kind.TheVariants.{Days}
use Rattle.rr_model.specs.declared.rule.DayItem.{DayItem}
use Rattle.rr_model.specs.declared.rule.End.{End}
use Rattle.rr_model.specs.declared.rule.End.TheVariants.{Never, Count}
use Rattle.rr_model.specs.declared.rule.Freq.{Freq}
use Rattle.rr_model.specs.declared.rule.Freq.TheVariants.{Daily, Monthly}
use Rattle.rr_model.specs.declared.rule.Rule.{Rule}
use Rattle.rr_model.specs.declared.vcal.FamilyKind.{FamilyKind}
use Rattle.rr_model.specs.declared.vcal.FamilyKind.TheVariants.{D, MD, MP, YM}
use Rattle.rr_model.specs.declared.vcal.VRule.{VRule}

abbrev vrule : FamilyKind → ℕ → List Item → End → VRule
vrule family interval items end = record { family = family; interval = interval; items = items; end = end }

-- a rule with BYDAY alone
abbrev rule : Freq → ℕ → List DayItem → End → Rule
rule freq interval by_day end = record (plain_rule freq interval) { by_day = by_day; end = end }

-- D4 #2
of_days : rule_of_vrule (vrule D 4 (Every ∷ []) (Count 2)) Days (pos 19_753) ≡ rule Daily 4 [] (Count 2)
unfolding rule_of_vrule
of_days = refl

-- MP1 5+ FR 1- MO #0: both places in BYDAY, in its own order
of_places :
    rule_of_vrule (vrule MP 1 (Place (pos 5) 4 ∷ Place (neg_ℤ (pos 1)) 0 ∷ []) Never) Days (pos 19_753)
    ≡ rule Monthly 1 (day_item (neg_ℤ (pos 1)) 0 ∷ day_item (pos 5) 4 ∷ []) Never
unfolding rule_of_vrule
of_places = refl

-- MD1 LD 1 #0 lists days of the month; YM1 3 #0 from 2024-01-31 on, the start's day of the month
of_lists :
    ((rule_of_vrule (vrule MD 1 (MonthDay (pos 1) ∷ MonthDay (neg_ℤ (pos 1)) ∷ []) Never) Days (pos 19_753)).by_month_day ≡ neg_ℤ (pos 1) ∷ pos 1 ∷ [])
    × ((rule_of_vrule (vrule YM 1 (Month 3 ∷ []) Never) Days (pos 19_753)).by_month_day ≡ pos 31 ∷ [])
    × ((rule_of_vrule (vrule YM 1 (Month 3 ∷ []) Never) Days (pos 19_753)).by_month ≡ pos 3 ∷ [])
unfolding rule_of_vrule first_day_of_year year_of days_of_months days_into_year months_over month_of day_of_month
of_lists = (refl, refl, refl)

-- a series keeps its dates, and its start counts
of_series :
    series_of_vseries (record { kind = Days; start = pos 19_753; rules = vrule D 4 (Every ∷ []) Never ∷ []; excluded = vrule D 2 (Every ∷ []) Never ∷ []; plus = pos 19_800 ∷ []; minus = [] })
    ≡ record { kind = Days; start = pos 19_753; start_counts = true; rules = rule Daily 4 [] Never ∷ []; excluded = rule Daily 2 [] Never ∷ []; plus = pos 19_800 ∷ []; minus = [] }
unfolding rule_of_vrule series_of_vseries
of_series = refl
