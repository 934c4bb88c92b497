-- What a vCalendar 1.0 rule and series mean, one moment at a time, with no word of RRULE (basic recurrence rule grammar).
use Rattle.std.specs.Prelude.{◌≡◌, ◌⊎◌, ℕ, ◌==◌, Bool, true, false, ◌&&◌, ◌||◌, IsTrue, ℤ, pos, nat_abs, ◌+ℤ◌, ◌-ℤ◌, ◌≤ℤ◌, List, [], ◌∷◌, Contains}
use Rattle.std.specs.List.{list_any}
use Rattle.std.specs.Ordering.{int_eq}
use Rattle.rr_model.specs.Calendar.{weekday_of, day_of_month, month_of, day_of_year, year_of, days_in_month}
use Rattle.rr_model.specs.Rule.Candidate.{is_ordinal_of_day}
use Rattle.rr_model.specs.Rule.Member.{IsWithinEnd}
use Rattle.rr_model.specs.Whole.Count.{count_from}
use Rattle.rr_model.specs.Moment.{day_part, second_part}
use Rattle.rr_model.specs.Moment.Units.{month_number}
use Rattle.rr_model.specs.Calendar.Week.{week_index}
use Rattle.rr_model.specs.Whole.{divides}
use Rattle.rr_model.specs.declared.kind.Kind.{Kind}
use Rattle.rr_model.specs.declared.vcal.FamilyKind.{FamilyKind}
use Rattle.rr_model.specs.declared.vcal.FamilyKind.TheVariants as family
use Rattle.rr_model.specs.declared.item.Item.{Item}
use Rattle.rr_model.specs.declared.item.Item.TheVariants.{Every, Weekday, MonthDay, Place, Month, YearDay}
use Rattle.rr_model.specs.declared.vcal.VRule.{VRule}
use Rattle.rr_model.specs.declared.vcal.VSeries.{VSeries}

-- ---- the days of an item

-- the number of a day's unit in a rule of this kind; weeks begin on Monday
abbrev pub family_unit : FamilyKind → ℤ → ℤ
family_unit family.D d = d
family_unit family.W d = week_index d 0
family_unit family.MD d = month_number d
family_unit family.MP d = month_number d
family_unit family.YM d = year_of d
family_unit family.YD d = year_of d

-- the day is what the item says, if the series starts on this day
abbrev pub item_holds : ℤ → Item → ℤ → Bool
item_holds start Every d = true
item_holds start (Weekday k) d = k == weekday_of d
item_holds start (MonthDay n) d = int_eq n (pos (day_of_month d)) || int_eq n ((pos (day_of_month d) -ℤ pos (days_in_month (year_of d) (month_of d))) -ℤ pos 1)
item_holds start (Place n k) d = (k == weekday_of d) && is_ordinal_of_day n false d
item_holds start (Month m) d = (m == month_of d) && (day_of_month start == day_of_month d)
item_holds start (YearDay k) d = k == day_of_year d

-- the item of a rule of this kind and interval has the day
abbrev pub item_has_day : FamilyKind → ℕ → ℤ → Item → ℤ → Bool
item_has_day family interval start item d = divides interval (family_unit family d -ℤ family_unit family start) && item_holds start item d

-- ---- members

-- some item has the moment's day, and its second is the start's
unfoldable pub is_vcal_candidate : VRule → Kind → ℤ → ℤ → Bool
is_vcal_candidate rule kind start t =
    (second_part kind t == second_part kind start)
    && list_any (λ item. item_has_day rule.family rule.interval (day_part kind start) item (day_part kind t)) rule.items

-- how many of these lie from the start to t, both included
abbrev pub vcal_members_to : VRule → Kind → ℤ → ℤ → ℕ
vcal_members_to rule kind start t = count_from (is_vcal_candidate rule kind start) start (nat_abs ((t -ℤ start) +ℤ pos 1))

-- t is a member of the rule with this start
pub record IsVcalMember (rule : VRule) (kind : Kind) (start t : ℤ) : Type 0 where
  pub candidate : IsTrue (is_vcal_candidate rule kind start t)
  pub not_before : start ≤ℤ t
  pub within_end : IsWithinEnd rule.end kind t (vcal_members_to rule kind start t)

-- some item of the rule has the start's day
abbrev pub IsVcalSynchronised : VRule → Kind → ℤ → Type 0
IsVcalSynchronised rule kind start =
    IsTrue (list_any (λ item. item_has_day rule.family rule.interval (day_part kind start) item (day_part kind start)) rule.items)

-- ---- occurrences

-- t is a member of one of the rules
abbrev pub IsVcalMemberOfSome : Kind → ℤ → ℤ → List VRule → Type 0
IsVcalMemberOfSome kind start t [] = ⊥
IsVcalMemberOfSome kind start t (rule ∷ rules) = IsVcalMember rule kind start t ⊎ IsVcalMemberOfSome kind start t rules

-- t occurs in the series: it is the start, a member of a rule or a further date, and neither an excluded date nor a member of an excluded rule
pub record OccursInVseries (series : VSeries) (kind : Kind) (t : ℤ) : Type 0 where
  pub same_kind : kind ≡ series.kind
  pub given : (t ≡ series.start) ⊎ (IsVcalMemberOfSome series.kind series.start t series.rules ⊎ Contains series.plus t)
  pub kept : Contains series.minus t → ⊥
  pub not_excluded : IsVcalMemberOfSome series.kind series.start t series.excluded → ⊥
