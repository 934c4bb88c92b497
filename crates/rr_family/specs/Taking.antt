-- Which items of a kind are taken so that together they have the occupied days of a window.
use Rattle.std.specs.Prelude.{◌≡◌, ℕ, zero, suc, ◌==◌, nat_lt, Bool, true, not, ◌&&◌, if◌then◌else◌, List, [], ◌∷◌, All, ℤ, pos, ◌+ℤ◌, ◌≤ℤ◌, ◌<ℤ◌}
use Rattle.std.specs.List.{list_any, filter}
use Rattle.rr_model.specs.Whole.Count.{count_from}

-- the set of a list of places: some of them gives the day
abbrev pub some_gives : (ℕ → ℤ → Bool) → List ℕ → ℤ → Bool
some_gives gives places d = list_any (λ place. gives place d) places

-- on each day of the window the two are the same
abbrev pub AgreeWithin : (ℤ → Bool) → (ℤ → Bool) → ℤ → ℕ → Type 0
AgreeWithin p q first days = (d : ℤ) → first ≤ℤ d → d <ℤ (first +ℤ pos days) → p d ≡ q d

-- each day that the place gives in the window is occupied
abbrev pub is_sound : (ℕ → ℤ → Bool) → (ℤ → Bool) → ℤ → ℕ → ℕ → Bool
is_sound gives occupied first days place = count_from (λ d. gives place d && not (occupied d)) first days == 0

-- the sound ones of the first places, in order
abbrev pub sound_places : (ℕ → ℤ → Bool) → (ℤ → Bool) → ℤ → ℕ → List ℕ → List ℕ
sound_places gives occupied first days places = filter (is_sound gives occupied first days) places

-- how many occupied days of the window the place gives that none of the taken ones gives
abbrev pub further_days : (ℕ → ℤ → Bool) → (ℤ → Bool) → ℤ → ℕ → List ℕ → ℕ → ℕ
further_days gives occupied first days taken place = count_from (λ d. gives place d && (occupied d && not (some_gives gives taken d))) first days

-- the first, of x and the other places, with the greatest number
abbrev pub first_greatest : (ℕ → ℕ) → ℕ → List ℕ → ℕ
first_greatest number x [] = x
first_greatest number x (y ∷ ys) = if nat_lt (number x) (number y) then first_greatest number y ys else first_greatest number x ys

-- Again and again the one with most further days is taken, until none gives one. Each gives one at least, so as many
-- steps as the window has days are enough.
unfoldable pub taken_within : ℕ → (ℕ → ℤ → Bool) → (ℤ → Bool) → ℤ → ℕ → List ℕ → List ℕ → List ℕ
taken_within steps gives occupied first days [] taken = taken
taken_within zero gives occupied first days (x ∷ xs) taken = taken
taken_within (suc steps) gives occupied first days (x ∷ xs) taken =
    if further_days gives occupied first days taken (first_greatest (further_days gives occupied first days taken) x xs) == 0
    then taken
    else taken_within steps gives occupied first days (x ∷ xs) (first_greatest (further_days gives occupied first days taken) x xs ∷ taken)

-- the places that are taken on a window, of all the sound ones
abbrev pub taken_places : (ℕ → ℤ → Bool) → (ℤ → Bool) → ℤ → ℕ → List ℕ → List ℕ
taken_places gives occupied first days places = taken_within days gives occupied first days (sound_places gives occupied first days places) []

-- each of these places is one of those
abbrev pub AreAmong : List ℕ → List ℕ → Type 0
AreAmong places all = All (λ place. list_any (λ other. place == other) all ≡ true) places

-- If some list of the places has exactly the occupied days of the window, the taken ones have them too.
abbrev pub TakingLosesNone : Type 0
TakingLosesNone = (gives : ℕ → ℤ → Bool) (occupied : ℤ → Bool) (first : ℤ) (days : ℕ) (places all : List ℕ) → AreAmong places all
    → AgreeWithin (some_gives gives places) occupied first days
    → AgreeWithin (some_gives gives (taken_places gives occupied first days all)) occupied first days

-- What is taken has no day of the window that is not occupied, whether or not some list has the days.
abbrev pub TakingIsSound : Type 0
TakingIsSound = (gives : ℕ → ℤ → Bool) (occupied : ℤ → Bool) (first : ℤ) (days : ℕ) (all : List ℕ) (d : ℤ) → first ≤ℤ d → d <ℤ (first +ℤ pos days)
    → some_gives gives (taken_places gives occupied first days all) d ≡ true → occupied d ≡ true
