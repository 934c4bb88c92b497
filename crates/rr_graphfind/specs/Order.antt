-- The first of several patterns, in the order in which they are tried.
use Rattle.std.specs.Prelude.{◌≡◌, ℕ, zero, suc, ◌+◌, ◌≤◌, Bool, true, false, ⊤, List, ◌∷◌, take, Option, None, Some, pos}
use Rattle.rr_family.specs.GraphProfile.{pattern_key, key_lt}
use Rattle.rr_graphfind.specs.declared.next.Group.{Group}
use Rattle.rr_graphfind.specs.declared.next.Group.TheVariants as group
use Rattle.rr_model.specs.Graph.Uses.{uses_days, uses_day_of_month, uses_month}
use Rattle.rr_model.specs.Graph.Validity.{IsValidPattern}
use Rattle.rr_model.specs.declared.graph.Form.{Form}
use Rattle.rr_model.specs.declared.graph.Pattern.{Pattern}

-- the pattern passes, and none that passes comes before it; or none passes
abbrev pub IsFirstThat : (Pattern → Type 0) → Option Pattern → Type 0
IsFirstThat Passes None = (pattern : Pattern) → Passes pattern → ⊥
IsFirstThat Passes (Some found) = Passes found × ((pattern : Pattern) → Passes pattern → key_lt (pattern_key pattern) (pattern_key found) ≡ false)

-- the other is valid, and comes after all patterns with the first i members of this one: of interval, type, firstDayOfWeek,
-- dayOfMonth, month, index, daysOfWeek
abbrev pub IsLater : ℕ → Pattern → Pattern → Type 0
IsLater i pattern other = IsValidPattern other × (key_lt (take i (pattern_key pattern)) (take i (pattern_key other)) ≡ true)

-- the first i numbers of two lists are the same
abbrev pub SameFirst : ℕ → List ℕ → List ℕ → Type 0
SameFirst zero xs ys = ⊤
SameFirst (suc i) (x ∷ xs) (y ∷ ys) = (x ≡ y) × SameFirst i xs ys
SameFirst (suc i) xs ys = ⊥

-- the first i members of two patterns are the same
abbrev pub SameMembers : ℕ → Pattern → Pattern → Type 0
SameMembers i pattern other = SameFirst i (pattern_key pattern) (pattern_key other)

-- no pattern passes whose first i members are those of the given one
abbrev pub NoneWith : ℕ → Pattern → (Pattern → Type 0) → Type 0
NoneWith i pattern Passes = (other : Pattern) → SameMembers i other pattern → Passes other → ⊥

-- no pattern that passes comes before the given one
abbrev pub NoneBefore : (Pattern → Type 0) → Pattern → Type 0
NoneBefore Passes pattern = (other : Pattern) → Passes other → key_lt (pattern_key other) (pattern_key pattern) ≡ false

-- how many of their first members the patterns of a group share
abbrev pub members_of : Group → ℕ
members_of group.FirstDay = 3
members_of group.Month = 5
members_of group.Alone = 7

-- the pattern passes; or none of a group with it does
abbrev pub IsRefusal : (Pattern → Type 0) → Pattern → Option Group → Type 0
IsRefusal Passes pattern None = Passes pattern
IsRefusal Passes pattern (Some group) = NoneWith (members_of group) pattern Passes

-- the member that has the next place, of those that may stand; or none of them has a later one
abbrev pub IsNext : {A : Type 0} → (A → Type 0) → (A → ℕ) → A → Option A → Type 0
IsNext {A} MayStand place here None = (other : A) → MayStand other → place other ≤ place here
IsNext {A} MayStand place here (Some next) = MayStand next × (place next ≡ place here + 1)

-- 1 if the member is used, and otherwise 0
abbrev pub one_if_used : Bool → ℕ
one_if_used true = 1
one_if_used false = 0

-- the first pattern of a type and an interval
abbrev pub least_pattern : Form → ℕ → Pattern
least_pattern form interval = record {
  form = form;
  interval = interval;
  day_of_month = one_if_used (uses_day_of_month form);
  month = one_if_used (uses_month form);
  days = one_if_used (uses_days form);
  first_day = 6;
  index = pos 1;
}
