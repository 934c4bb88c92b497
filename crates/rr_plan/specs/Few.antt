-- The occurrences of a finite set, one by one.
use Rattle.std.specs.Prelude.{◌≡◌, ◌↔◌, ◌⊎◌, ℕ, ◌<◌, ◌≤◌, List, [], length, Contains, ℤ, pos, ◌+ℤ◌, ◌≤ℤ◌, ◌<ℤ◌}
use Rattle.rr_model.specs.Moment.{day_part, second_part}
use Rattle.rr_model.specs.Sets.Sketch.{StandsIn, times_on}
use Rattle.rr_model.specs.declared.kind.Kind.{Kind}
use Rattle.rr_model.specs.declared.kind.Kind.TheVariants.{Days}
use Rattle.rr_model.specs.declared.sketch.Sketch.{Sketch}

-- ---- what is promised

-- t is one of these occurrences of one kind
pub record IsOneOf (kind : Kind) (moments : List ℤ) (k : Kind) (t : ℤ) : Type 0 where
  pub same_kind : k ≡ kind
  pub there : Contains moments t

-- the set has more than n occurrences, or is without end: no list of at most n has them all
abbrev pub AreMoreThan : ℕ → Sketch → Type 0
AreMoreThan n s = (moments : List ℤ) → length moments ≤ n → ((t : ℤ) → StandsIn s s.kind t → Contains moments t) → ⊥

-- ---- day by day

-- each second is one of a day, and 0 for dates
abbrev pub AreSecondsOf : Kind → List ℕ → Type 0
AreSecondsOf kind times = (x : ℕ) → Contains times x → (x < 86_400) × (kind ≡ Days → x ≡ 0)

-- the list has what another has, and the seconds of a day
abbrev pub HoldsWith : Kind → ℤ → List ℤ → List ℕ → List ℤ → Type 0
HoldsWith kind day old times new = (t : ℤ) → Contains new t ↔ (Contains old t ⊎ ((day_part kind t ≡ day) × Contains times (second_part kind t)))

-- the list has the occurrences of the days before one day
abbrev pub HoldsBefore : Sketch → ℤ → List ℤ → Type 0
HoldsBefore s day moments =
    (t : ℤ) → Contains moments t ↔ ((day_part s.kind t <ℤ day) × Contains (times_on s (day_part s.kind t)) (second_part s.kind t))

-- none of n days from one on is occupied
abbrev pub AreEmpty : Sketch → ℤ → ℕ → Type 0
AreEmpty s day n = (d : ℤ) → day ≤ℤ d → d <ℤ (day +ℤ pos n) → times_on s d ≡ []

-- a day from this one on is occupied
abbrev pub HasLater : Sketch → ℤ → Type 0
HasLater s day = (d : ℤ) × (day ≤ℤ d) × (times_on s d ≡ [] → ⊥)
