-- How a set of occurrences is made of rules and dates (RFC 5545, section 3.8.5).
use Rattle.std.specs.Prelude.{◌≡◌, ℕ, Bool, false, not, ◌&&◌, ◌||◌, ◌==◌, nat_lt, nat_le, Option, Some, None, List, All, ⊤, ℤ, pos, ◌+ℤ◌, ◌≤ℤ◌, int_le}
use Rattle.std.specs.Option.{option_or}
use Rattle.rr_model.specs.Moment.{day_part, second_part, moment_at}
use Rattle.rr_model.specs.Moment.Years.{IsInYears}
use Rattle.rr_model.specs.Rule.Candidate.{lists}
use Rattle.rr_model.specs.Rule.Chosen.{is_chosen}
use Rattle.rr_model.specs.Rule.Validity.{IsValidRule}
use Rattle.rr_model.specs.Sets.Counting.{count_to}
use Rattle.rr_model.specs.declared.kind.Kind.{Kind}
use Rattle.rr_model.specs.declared.kind.Kind.TheVariants.{Days, Moments}
use Rattle.rr_model.specs.declared.rule.Rule.{Rule}

-- The chosen moments of a rule from its start on, dates, and unions, ends and differences of these.
mutual
  pub data Tree : Type 0 where
    chosen_of : Rule → Kind → ℤ → Tree
    dates_of : Kind → List ℤ → Tree
    union : Tree → Tree → Tree
    many : Forest → Tree
    upto : Tree → Kind → ℤ → Tree
    first_n : Tree → ℕ → Tree
    without : Tree → Kind → List ℤ → Tree
    except : Tree → Tree → Tree

  -- a list of trees
  pub data Forest : Type 0 where
    nothing : Forest
    part : Tree → Forest → Forest

-- ---- what stands in a tree

-- a day of this kind has this second: a date has its midnight alone
abbrev pub has_second : Kind → ℕ → Bool
has_second Days second = second == 0
has_second Moments second = nat_lt second 86_400

-- one of the dates is at this second of the day
abbrev pub is_among : Kind → List ℤ → ℤ → ℕ → Bool
is_among kind dates day second = has_second kind second && lists dates (moment_at kind day second)

-- what stands at a second of a day
abbrev mutual
  pub stands_at : Tree → ℤ → ℕ → Bool
  stands_at (chosen_of rule kind start) day second =
      has_second kind second && (is_chosen rule kind start (moment_at kind day second) && int_le start (moment_at kind day second))
  stands_at (dates_of kind dates) day second = is_among kind dates day second
  stands_at (union a b) day second = stands_at a day second || stands_at b day second
  stands_at (many parts) day second = some_stands_at parts day second
  stands_at (upto a kind at) day second = stands_at a day second && int_le (moment_at kind day second) at
  stands_at (first_n a n) day second = stands_at a day second && nat_le (count_to (λ d s. stands_at a d s) day second) n
  stands_at (without a kind dates) day second = stands_at a day second && not (is_among kind dates day second)
  stands_at (except a b) day second = stands_at a day second && not (stands_at b day second)

  -- in one of the trees at least
  pub some_stands_at : Forest → ℤ → ℕ → Bool
  some_stands_at nothing day second = false
  some_stands_at (part a parts) day second = stands_at a day second || some_stands_at parts day second

-- a date or a moment stands in a tree of its kind
abbrev pub stands_in : Tree → Kind → ℤ → Bool
stands_in tree kind t = stands_at tree (day_part kind t) (second_part kind t)

-- from a day on, each day has the seconds of the day n days later
abbrev pub RepeatsAfter : Tree → ℤ → ℕ → Type 0
RepeatsAfter tree from days = (d : ℤ) (s : ℕ) → from ≤ℤ d → stands_at tree (d +ℤ pos days) s ≡ stands_at tree d s

-- ---- the kind of a tree

-- each rule is valid, all moments lie in the years 1 to 9999, and all are of this kind
abbrev mutual
  pub IsOfKind : Kind → Tree → Type 0
  IsOfKind k (chosen_of rule kind start) = (kind ≡ k) × IsValidRule k rule × IsInYears k start
  IsOfKind k (dates_of kind dates) = (kind ≡ k) × All (IsInYears k) dates
  IsOfKind k (union a b) = IsOfKind k a × IsOfKind k b
  IsOfKind k (many parts) = AreOfKind k parts
  IsOfKind k (upto a kind at) = (kind ≡ k) × IsInYears k at × IsOfKind k a
  IsOfKind k (first_n a n) = IsOfKind k a
  IsOfKind k (without a kind dates) = (kind ≡ k) × All (IsInYears k) dates × IsOfKind k a
  IsOfKind k (except a b) = IsOfKind k a × IsOfKind k b

  -- so it is of each tree
  pub AreOfKind : Kind → Forest → Type 0
  AreOfKind k nothing = ⊤
  AreOfKind k (part a parts) = IsOfKind k a × AreOfKind k parts

-- the kind of the first rule, date or end of a tree, None if it has none of these
abbrev mutual
  pub kind_in : Tree → Option Kind
  kind_in (chosen_of rule kind start) = Some kind
  kind_in (dates_of kind dates) = Some kind
  kind_in (union a b) = option_or (kind_in a) (kind_in b)
  kind_in (many parts) = kind_in_some parts
  kind_in (upto a kind at) = Some kind
  kind_in (first_n a n) = kind_in a
  kind_in (without a kind dates) = Some kind
  kind_in (except a b) = option_or (kind_in a) (kind_in b)

  -- of the first tree that has one
  pub kind_in_some : Forest → Option Kind
  kind_in_some nothing = None
  kind_in_some (part a parts) = option_or (kind_in a) (kind_in_some parts)

-- the kind, and dates if there is none
abbrev pub or_days : Option Kind → Kind
or_days None = Days
or_days (Some kind) = kind

-- each rule is valid, all moments lie in the years 1 to 9999, and all are of one kind, whichever it is
abbrev pub IsOfOneKind : Tree → Type 0
IsOfOneKind tree = IsOfKind (or_days (kind_in tree)) tree
