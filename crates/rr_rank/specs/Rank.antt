-- Occurrences by their number: which is the n-th, and how many are not after a moment.
use Rattle.std.specs.Prelude.{◌≡◌, ℕ, ◌+◌, ◌-◌, ◌^◌, ◌<◌, ◌≤◌, List, length, Option, ℤ, ◌≤ℤ◌, ◌<ℤ◌, int_lt}
use Rattle.rr_model.specs.Bounds.{latest_taken}
use Rattle.rr_model.specs.Moment.{Before, Occurrences, day_part}
use Rattle.rr_model.specs.Rising.Sets.{IsSetOf}
use Rattle.rr_model.specs.Sets.Sketch.{IsFirstDay, StandsIn}
use Rattle.rr_model.specs.declared.kind.Kind.{Kind}
use Rattle.rr_model.specs.declared.sketch.Sketch.{Sketch}
use Rattle.rr_rank.specs.Counts.{begin_day, counted_days}
use Rattle.rr_rank.specs.declared.nth.Nth.{Nth}
use Rattle.rr_rank.specs.declared.nth.Nth.TheVariants.{At, Fewer, Past}

-- the first does not come after the second
abbrev pub IsNotAfter : Kind → ℤ → Kind → ℤ → Type 0
IsNotAfter l u k t = Before k t l u → ⊥

-- the set has exactly n occurrences: these, all of one kind
pub record HasExactly (P : Occurrences) (n : ℕ) : Type 0 where
  pub kind : Kind
  pub numbers : List ℤ
  pub are_all : IsSetOf int_lt numbers (P kind)
  pub of_kind : (l : Kind) (u : ℤ) → P l u → l ≡ kind
  pub count : length numbers ≡ n

-- the occurrences that are not after a moment
abbrev pub up_to : Occurrences → Kind → ℤ → Occurrences
up_to P k t l u = P l u × IsNotAfter l u k t

-- exactly n occurrences are not after the moment
abbrev pub IsRank : Occurrences → Kind → ℤ → ℕ → Type 0
IsRank P k t n = HasExactly (up_to P k t) n

-- the n-th occurrence is the one with exactly n occurrences not after it
pub record IsNth (P : Occurrences) (n : ℕ) (k : Kind) (t : ℤ) : Type 0 where
  pub occurs : P k t
  pub rank : IsRank P k t n

-- the set has fewer than n occurrences
abbrev pub HasFewer : Occurrences → ℕ → Type 0
HasFewer P n = (m : ℕ) × (m < n) × HasExactly P m

-- the n-th occurrence lies past the greatest day
pub record IsPast (P : Occurrences) (n : ℕ) : Type 0 where
  pub kind : Kind
  pub at : ℤ
  pub nth : IsNth P n kind at
  pub past : latest_taken <ℤ day_part kind at

-- the n-th occurrence, that there are fewer, or that its day is past the greatest
abbrev pub IsNthOf : Occurrences → ℕ → Nth → Type 0
IsNthOf P n (At k t) = IsNth P n k t × (day_part k t ≤ℤ latest_taken)
IsNthOf P n Fewer = HasFewer P n
IsNthOf P n Past = IsPast P n

-- ---- how many steps

-- n is written with k binary digits
abbrev pub HasBinaryDigits : ℕ → ℕ → Type 0
HasBinaryDigits n k = (2 ^ (k - 1) ≤ n) × (n < 2 ^ k)

-- at most three steps more than the number of days plus one has binary digits
abbrev pub AreFewSteps : ℕ → ℕ → Type 0
AreFewSteps days steps = (k : ℕ) → HasBinaryDigits (days + 1) k → steps ≤ k + 3

-- at most one step for each day from the settled day, or from the first occupied day if that is earlier, to a period past the
-- settled day
abbrev pub IsOneStepADay : Sketch → ℕ → Type 0
IsOneStepADay s steps = (first : Option ℤ) → IsFirstDay s first → steps ≤ counted_days s (begin_day s first)

-- ---- laws

-- A set has at most one answer to the question of its n-th occurrence.
abbrev pub NthIsOne : Type 0
NthIsOne = (s : Sketch) (n : ℕ) (r q : Nth) → IsNthOf (StandsIn s) n r → IsNthOf (StandsIn s) n q → r ≡ q

-- A moment has at most one rank in a set.
abbrev pub RankIsOne : Type 0
RankIsOne = (s : Sketch) (k : Kind) (t : ℤ) (m n : ℕ) → IsRank (StandsIn s) k t m → IsRank (StandsIn s) k t n → m ≡ n

-- The rank of the n-th occurrence is n.
abbrev pub RankOfNthIsItsNumber : Type 0
RankOfNthIsItsNumber = (s : Sketch) (n m : ℕ) (k : Kind) (t : ℤ) → IsNth (StandsIn s) n k t → IsRank (StandsIn s) k t m → m ≡ n

-- The occurrence of the number that is the rank of an occurrence is that occurrence.
abbrev pub NthOfRankIsItself : Type 0
NthOfRankIsItself =
    (s : Sketch) (n : ℕ) (k : Kind) (t : ℤ) (l : Kind) (u : ℤ) → StandsIn s k t → IsRank (StandsIn s) k t n → IsNth (StandsIn s) n l u → (l ≡ k) × (u ≡ t)
