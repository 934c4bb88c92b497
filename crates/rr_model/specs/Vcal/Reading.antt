-- What a vCalendar 1.0 text states, or the first refusal.
use Rattle.std.specs.Prelude.{ℕ, ◌==◌, Bool, true, ◌||◌, ℤ, pos, List, [], ◌∷◌, Option, Result, Ok}
use Rattle.rr_model.specs.Calendar.{weekday_of, day_of_month, month_of, day_of_year}
use Rattle.rr_model.specs.Moment.{day_part}
use Rattle.rr_model.specs.declared.stamp.Stamp.{Stamp}
use Rattle.rr_model.specs.Text.RuleValues.{◌>>=◌}
use Rattle.rr_model.specs.Text.Lines.{without_mark}
use Rattle.rr_model.specs.Text.Event.{event_scan}
use Rattle.rr_model.specs.Text.Passes.{Stated, Language, Event, passes}
use Rattle.rr_model.specs.Text.Calendars.{end_beside}
use Rattle.rr_model.specs.Vcal.Rule.{stated_vrule}
use Rattle.rr_model.specs.declared.refusal.Refusal.{Refusal}
use Rattle.rr_model.specs.declared.vcal.FamilyKind.{FamilyKind}
use Rattle.rr_model.specs.declared.vcal.FamilyKind.TheVariants as family
use Rattle.rr_model.specs.declared.item.Item.{Item}
use Rattle.rr_model.specs.declared.item.Item.TheVariants.{Every, Weekday, MonthDay, Month, YearDay}
use Rattle.rr_model.specs.declared.vcal.VRule.{VRule}
use Rattle.rr_model.specs.declared.vcal.VSeries.{VSeries}

-- the item of a day, for a rule that lists none
abbrev pub own_items : FamilyKind → ℤ → List Item
own_items family.D d = Every ∷ []
own_items family.W d = Weekday (weekday_of d) ∷ []
own_items family.MD d = MonthDay (pos (day_of_month d)) ∷ []
own_items family.MP d = []
own_items family.YM d = Month (month_of d) ∷ []
own_items family.YD d = YearDay (day_of_year d) ∷ []

-- the items of a rule, or the start's own if none stands
abbrev pub filled_items : FamilyKind → ℤ → List Item → List Item
filled_items family d [] = own_items family d
filled_items family d (item ∷ items) = item ∷ items

-- the rule beside the start: its end turned into a moment beside it, and its items filled from it if there are none
unfoldable pub vrule_beside : Option ℤ → Stamp → ℕ → Stated VRule → Result VRule Refusal
vrule_beside offset start line stated =
    end_beside offset start line stated.until stated.rule.end >>= λ end.
    Ok (record stated.rule { items = filled_items stated.rule.family (day_part start.kind start.at) stated.rule.items; end = end })

-- a byte that stands between values of RDATE and EXDATE: a comma or a semicolon
abbrev pub is_comma_or_semicolon : ℕ → Bool
is_comma_or_semicolon b = (b == 44) || (b == 59)

-- how rules and dates of vCalendar 1.0 are read
abbrev pub vcal_language : Language VRule
vcal_language = record { stated = stated_vrule; is_separator = is_comma_or_semicolon }

-- the series that an event states
abbrev pub vseries_of_event : Event VRule → VSeries
vseries_of_event event = record {
  kind = event.start.kind;
  start = event.start.at;
  rules = event.beside.rules;
  excluded = event.beside.excluded;
  plus = event.beside.plus;
  minus = event.beside.minus;
}

-- The series that the bytes state, beside a stated offset of local time from UTC in seconds. They need not be UTF-8.
unfoldable pub reads_vcal : Option ℤ → List ℕ → Result VSeries Refusal
reads_vcal offset bytes =
    passes vcal_language (vrule_beside offset) offset (event_scan true (without_mark bytes)) >>= λ event. Ok (vseries_of_event event)
