-- Rules of vCalendar 1.0 that have the occurrences of a set, and which of them is the first.
use Rattle.std.specs.Prelude.{◌≡◌, ◌↔◌, ℕ, zero, suc, ◌≤◌, ◌==◌, nat_lt, Bool, false, ◌&&◌, ◌||◌, ⊤, List, [], ◌∷◌, map, ℤ}
use Rattle.std.specs.List.{list_any, filter}
use Rattle.rr_family.specs.DaySets.{OccursOnDays, IsNumbered, IsOneSecond, IsLastDay, window_days}
use Rattle.rr_family.specs.Lasting.{is_occupied, FitsCycle, HasCycle}
use Rattle.rr_family.specs.Places.{many_items, item_at, place_has_day}
use Rattle.rr_family.specs.Shift.{family_cycle, items_have_day}
use Rattle.rr_family.specs.Taking.{AgreeWithin, some_gives, taken_places}
use Rattle.rr_model.specs.Moment.{Occurrences, day_part, second_part}
use Rattle.rr_model.specs.Moment.Years.{IsInYears}
use Rattle.rr_model.specs.Rising.{Rises}
use Rattle.rr_model.specs.Sets.Least.{IsEndless}
use Rattle.rr_model.specs.Sets.Sketch.{IsValidSketch, StandsFor, StandsIn}
use Rattle.rr_model.specs.Sets.Verdict.{HaveEqualOccurrences}
use Rattle.rr_model.specs.Vcal.Items.{item_lt}
use Rattle.rr_model.specs.Vcal.Members.{IsVcalMember}
use Rattle.rr_model.specs.Vcal.Validity.{IsValidVRule}
use Rattle.rr_model.specs.Whole.Count.{count_from}
use Rattle.rr_model.specs.declared.graph.RangeEnd.{RangeEnd}
use Rattle.rr_model.specs.declared.graph.RangeEnd.TheVariants.{NoEnd, Numbered}
use Rattle.rr_model.specs.declared.item.Item.{Item}
use Rattle.rr_model.specs.declared.kind.Kind.{Kind}
use Rattle.rr_model.specs.declared.rule.End.{End}
use Rattle.rr_model.specs.declared.rule.End.TheVariants.{Never, Count}
use Rattle.rr_model.specs.declared.sketch.Sketch.{Sketch}
use Rattle.rr_model.specs.declared.vcal.FamilyKind.{FamilyKind}
use Rattle.rr_model.specs.declared.vcal.FamilyKind.TheVariants as family
use Rattle.rr_model.specs.declared.vcal.VRule.{VRule}

-- ---- the rules that are looked for

-- the greatest interval of a kind
abbrev pub most_family_interval : FamilyKind → ℕ
most_family_interval family.D = 999
most_family_interval family.W = 999
most_family_interval family = 99

-- the order in which kinds are tried
abbrev pub kind_place : FamilyKind → ℕ
kind_place family.D = 0
kind_place family.W = 1
kind_place family.MD = 2
kind_place family.MP = 3
kind_place family.YM = 4
kind_place family.YD = 5

-- an end that a profile may have: none, or a COUNT
abbrev pub IsProfileEnd : End → Type 0
IsProfileEnd Never = ⊤
IsProfileEnd (Count n) = ⊤
IsProfileEnd end = ⊥

-- the rule's members, as dates or as moments
abbrev pub VcalOccurrences : VRule → Kind → ℤ → Occurrences
VcalOccurrences rule kind start k t = (k ≡ kind) × IsVcalMember rule kind start t

-- The rule is one of those that are looked for, and from this start it has exactly the occurrences of the set.
pub record IsRuleOf (P : Occurrences) (rule : VRule) (kind : Kind) (start : ℤ) : Type 0 where
  pub valid : IsValidVRule rule
  pub few : rule.interval ≤ most_family_interval rule.family
  pub end : IsProfileEnd rule.end
  pub begins : IsVcalMember rule kind start start
  pub years : IsInYears kind start
  pub equal : HaveEqualOccurrences (VcalOccurrences rule kind start) P

-- a lesser interval comes first, and of one interval the kinds in their order
abbrev pub comes_before : ℕ → FamilyKind → ℕ → FamilyKind → Bool
comes_before n f m g = nat_lt n m || ((n == m) && nat_lt (kind_place f) (kind_place g))

-- no rule of an earlier interval and kind has the occurrences
abbrev pub NoneBefore : Occurrences → ℕ → FamilyKind → Type 0
NoneBefore P interval f =
    (rule : VRule) (kind : Kind) (start : ℤ) → IsRuleOf P rule kind start → comes_before rule.interval rule.family interval f ≡ false

-- ---- the list that is written

-- the first n places from place k on
abbrev pub places_from : ℕ → ℕ → List ℕ
places_from k zero = []
places_from k (suc n) = k ∷ places_from (suc k) n

-- all places of items of a kind of rule
abbrev pub all_places : FamilyKind → List ℕ
all_places f = places_from 0 (many_items f)

-- the taken ones in the order of items
abbrev pub in_order : List ℕ → List ℕ → List ℕ
in_order all taken = filter (λ place. list_any (λ other. place == other) taken) all

-- the places of the list that is taken for the kind and interval on a window
abbrev pub list_places : Sketch → FamilyKind → ℕ → ℤ → ℕ → List ℕ
list_places s f interval first days = in_order (all_places f) (taken_places (place_has_day f interval first) (is_occupied s) first days (all_places f))

-- the items of the list that is taken for a kind and an interval on a window
abbrev pub list_items : Sketch → FamilyKind → ℕ → ℤ → ℕ → List Item
list_items s f interval first days = map (item_at f) (list_places s f interval first days)

-- how many days the window has: up to the last day of a finite set, and of an endless one up to below the least start and one cycle
pub data IsWindow (s : Sketch) (first : ℤ) (c : ℕ) : ℕ → Type 0 where
  finite : (last : ℤ) → IsLastDay s last → IsWindow s first c (window_days first last)
  endless : IsEndless s → FitsCycle s first c → IsWindow s first c c

-- without an end for an endless set, and for a finite one with the number of its occurrences
abbrev pub EndsWith : Sketch → ℤ → End → Type 0
EndsWith s first Never = IsEndless s
EndsWith s first (Count n) = IsNumbered s first n
EndsWith s first end = ⊥

-- The rule is of the first interval and kind at which some list of items has the occurrences, and its list is the one that is
-- taken on the window.
pub record IsFirstRule (P : Occurrences) (rule : VRule) (kind : Kind) (start : ℤ) : Type 0 where
  pub is_rule : IsRuleOf P rule kind start
  pub none_before : NoneBefore P rule.interval rule.family
  pub sketch : Sketch
  pub valid : IsValidSketch sketch
  pub stands : StandsFor sketch P
  pub days : ℕ
  pub window : IsWindow sketch (day_part kind start) (family_cycle rule.family rule.interval) days
  pub items : rule.items ≡ list_items sketch rule.family rule.interval (day_part kind start) days
  pub ends : EndsWith sketch (day_part kind start) rule.end

-- ---- laws

-- the range that ends as a rule does
abbrev pub range_of : End → RangeEnd
range_of (Count n) = Numbered n
range_of end = NoEnd

-- the rule of these parts
abbrev pub vrule : FamilyKind → ℕ → List Item → End → VRule
vrule family interval items end = record { family = family; interval = interval; items = items; end = end }

-- A set has one first rule, kind and start at most.
abbrev pub FirstRuleIsOne : Type 0
FirstRuleIsOne =
    (s : Sketch) (rule rule' : VRule) (kind kind' : Kind) (start start' : ℤ) → IsFirstRule (StandsIn s) rule kind start
    → IsFirstRule (StandsIn s) rule' kind' start' → (rule ≡ rule') × (kind ≡ kind') × (start ≡ start')

-- The items of the list that is taken rise.
abbrev pub ListItemsRise : Type 0
ListItemsRise = (s : Sketch) (f : FamilyKind) (interval : ℕ) (first : ℤ) (days : ℕ) → Rises item_lt (list_items s f interval first days)

-- A rule that is looked for has the occurrences of its days.
abbrev pub MembersOnDays : Type 0
MembersOnDays = (rule : VRule) (kind : Kind) (start t : ℤ) (l : Kind) → IsProfileEnd rule.end
    → VcalOccurrences rule kind start l t ↔ OccursOnDays (items_have_day rule.family rule.interval (day_part kind start) rule.items)
    (range_of rule.end) kind start l t

-- If some rule of a kind and interval has the set, the set has one second and begins with the rule's start, and the
-- taken list has the occupied days of the window.
abbrev pub NoListIsLost : Type 0
NoListIsLost = (s : Sketch) (rule : VRule) (kind : Kind) (start : ℤ) (days : ℕ) → IsValidSketch s → IsRuleOf (StandsIn s) rule kind start
    → let first = day_part kind start in
    IsWindow s first (family_cycle rule.family rule.interval) days
    → IsOneSecond s kind (second_part kind start) first
    × AgreeWithin (some_gives (place_has_day rule.family rule.interval first) (list_places s rule.family rule.interval first days)) (is_occupied s) first days

-- If some rule of a kind and interval has an endless set, the least period divides the cycle and the least start is the start's day.
abbrev pub EndlessRuleHasCycle : Type 0
EndlessRuleHasCycle = (s : Sketch) (rule : VRule) (kind : Kind) (start : ℤ) → IsValidSketch s → IsRuleOf (StandsIn s) rule kind start → IsEndless s
    → HasCycle s (day_part kind start) (family_cycle rule.family rule.interval)

-- A taken list that has the occupied days of an endless set's window is a rule of the set, without an end.
abbrev pub EndlessListIsRule : Type 0
EndlessListIsRule = (s : Sketch) (f : FamilyKind) (interval : ℕ) (kind : Kind) (start : ℤ) → IsValidSketch s → 1 ≤ interval
    → interval ≤ most_family_interval f → IsInYears kind start
    → let first = day_part kind start in
    let days = family_cycle f interval in
    IsOneSecond s kind (second_part kind start) first → FitsCycle s first days
    → AgreeWithin (some_gives (place_has_day f interval first) (list_places s f interval first days)) (is_occupied s) first days
    → IsRuleOf (StandsIn s) (vrule f interval (list_items s f interval first days) Never) kind start

-- One that has those of a finite set is a rule of it, with as many members as days are occupied, if a COUNT can be that.
abbrev pub FiniteListIsRule : Type 0
FiniteListIsRule = (s : Sketch) (f : FamilyKind) (interval : ℕ) (kind : Kind) (start last : ℤ) → IsValidSketch s → 1 ≤ interval
    → interval ≤ most_family_interval f → IsInYears kind start
    → let first = day_part kind start in
    let days = window_days first last in
    IsOneSecond s kind (second_part kind start) first → IsLastDay s last → count_from (is_occupied s) first days ≤ 18_446_744_073_709_551_615
    → AgreeWithin (some_gives (place_has_day f interval first) (list_places s f interval first days)) (is_occupied s) first days
    → IsRuleOf (StandsIn s) (vrule f interval (list_items s f interval first days) (Count (count_from (is_occupied s) first days))) kind start
