-- Numbers under which two tables have the same set.
use Rattle.std.specs.Prelude.{◌≡◌, ◌⊎◌, ℕ, ◌<◌, ◌≤◌, List, Option, Some, get_or, slice_get, ℤ, ◌≤ℤ◌}
use Rattle.rr_model.specs.Bounds.{latest_taken}
use Rattle.rr_model.specs.Sets.Sketch.{times_on}
use Rattle.rr_model.specs.declared.sketch.Sketch.{Sketch}
use Rattle.rr_decide.specs.Look.{IsFirstFrom, IsShownOn}
use Rattle.rr_decide.specs.Question.{ShowsNone, ShowsNoneFor, shown_by}
use Rattle.rr_decide.specs.Rows.{EachPair}
use Rattle.rr_model.specs.declared.question.Question.TheVariants.{Equal}
use Rattle.rr_decide.specs.declared.long.AlikeNumbers.{AlikeNumbers}
use Rattle.rr_decide.specs.declared.long.Comparison.{Comparison}
use Rattle.rr_decide.specs.declared.long.Run.{Run}
use Rattle.rr_decide.specs.declared.long.Comparison.TheVariants.{Unlike, Alike}
use Rattle.rr_decide.specs.declared.long.Run.TheVariants.{Differs, Agrees}

-- under each number of the stretch both tables have the same set
abbrev pub AreAlike : List (List ℕ) → List (List ℕ) → AlikeNumbers → Type 0
AreAlike sets_a sets_b alike = (k : ℕ) → alike.from ≤ k → k < alike.end → slice_get sets_a k ≡ slice_get sets_b k

-- two days have one and the same number, which lies in the stretch
abbrev pub HaveOneOf : Option ℕ → Option ℕ → AlikeNumbers → Type 0
HaveOneOf a b alike = (k : ℕ) × (alike.from ≤ k) × (k < alike.end) × (a ≡ Some k) × (b ≡ Some k)

-- at each place from one on and below another a row has a number of the stretch
abbrev pub AreOf : AlikeNumbers → List ℕ → ℕ → ℕ → Type 0
AreOf alike xs from to = (k : ℕ) → from ≤ k → k < to → (alike.from ≤ get_or xs k 0) × (get_or xs k 0 < alike.end)

-- at each place from one on and below another both rows have one number of the stretch
abbrev pub HaveOneAt : List ℕ → List ℕ → AlikeNumbers → ℕ → ℕ → Type 0
HaveOneAt xs ys alike from to = EachPair (λ x y. HaveOneOf (Some x) (Some y) alike) xs ys from to

-- no number comes that both days do not have
abbrev pub IsNextAlike : Option ℕ → Option ℕ → AlikeNumbers → AlikeNumbers → Type 0
IsNextAlike a b old new =
    (k : ℕ) → new.from ≤ k → k < new.end → ((old.from ≤ k) × (k < old.end)) ⊎ ((a ≡ Some k) × (b ≡ Some k))

-- the first second in which the days differ; otherwise they are alike, and so are the sets of these numbers
abbrev pub IsCompared : List (List ℕ) → List (List ℕ) → Sketch → Sketch → ℤ → Comparison → Type 0
IsCompared sets_a sets_b s u day (Unlike r) = IsShownOn (shown_by Equal) s u day r
IsCompared sets_a sets_b s u day (Alike numbers) = ShowsNone (shown_by Equal) (times_on s day) (times_on u day) × AreAlike sets_a sets_b numbers

-- the first day from this one on that differs, by its first second; otherwise the n days are alike, and so are the sets of these numbers
abbrev pub AreCompared : List (List ℕ) → List (List ℕ) → Sketch → Sketch → ℤ → ℕ → Comparison → Type 0
AreCompared sets_a sets_b s u day n (Unlike r) =
    IsFirstFrom Equal s u day r × (r.day ≤ℤ latest_taken)
AreCompared sets_a sets_b s u day n (Alike numbers) = ShowsNoneFor Equal s u day n × AreAlike sets_a sets_b numbers

-- the first day from this one on that differs, by its first second; otherwise some days, at most `most`, are alike, and so are the sets
-- of these numbers
abbrev pub IsRun : List (List ℕ) → List (List ℕ) → Sketch → Sketch → ℤ → ℕ → Run → Type 0
IsRun sets_a sets_b s u day most (Differs r) =
    IsFirstFrom Equal s u day r × (r.day ≤ℤ latest_taken)
IsRun sets_a sets_b s u day most (Agrees n numbers) =
    (1 ≤ n) × (n ≤ most) × ShowsNoneFor Equal s u day n × AreAlike sets_a sets_b numbers

-- how many days were compared, at most
abbrev pub days_of : ℕ → Run → ℕ
days_of most (Differs r) = most
days_of most (Agrees n numbers) = n
