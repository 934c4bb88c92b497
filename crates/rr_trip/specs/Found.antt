-- Which keys of two calendars are found again under another key.
use Rattle.std.specs.Prelude.{◌≡◌, ⊤, ℕ, ◌<◌, Bool, true, false, All, List, [], ◌∷◌, length, replicate, slice_set, Option, None, Some}
use Rattle.rr_groups.specs.Pairs.{ArePairs}
use Rattle.rr_groups.specs.declared.group.Group.{Group}
use Rattle.rr_groups.specs.declared.pairs.IndexPair.{IndexPair}
use Rattle.rr_model.specs.declared.verdict.Side.TheVariants.{A, B}
use Rattle.rr_trip.specs.Features.{AreFeatures}
use Rattle.rr_trip.specs.Likeness.{is_only, keys_by}
use Rattle.rr_trip.specs.Zoned.{ZonedCalendar}
use Rattle.rr_trip.specs.declared.features.Features.{Features}
use Rattle.rr_trip.specs.declared.found.Found.{Found}
use Rattle.rr_trip.specs.declared.found.FoundAgain.{FoundAgain}
use Rattle.rr_trip.specs.declared.likeness.Likeness.{Likeness}
use Rattle.rr_trip.specs.declared.likeness.Likeness.TheVariants.{Moments, Times, Start, OtherTitle}

-- ---- the keys that one calendar alone has

-- what a group is found again by: its features exactly if it has these events in its calendar, and none in the other
abbrev pub IsFeatured : ZonedCalendar → List ℕ → List ℕ → Option Features → Type 0
IsFeatured calendar [] others features = features ≡ None
IsFeatured calendar (i ∷ is) (j ∷ js) features = features ≡ None
IsFeatured calendar (i ∷ is) [] None = ⊥
IsFeatured calendar (i ∷ is) [] (Some features) = AreFeatures calendar.means (calendar.titles i) (calendar.stated (i ∷ is)) features

-- what each group is found again by, if A alone has it
abbrev pub AreFeaturedInA : ZonedCalendar → List Group → List (Option Features) → Type 0
AreFeaturedInA a [] [] = ⊤
AreFeaturedInA a (g ∷ gs) (f ∷ fs) = IsFeatured a g.a.items g.b.items f × AreFeaturedInA a gs fs
AreFeaturedInA a gs fs = ⊥

-- what each group is found again by, if B alone has it
abbrev pub AreFeaturedInB : ZonedCalendar → List Group → List (Option Features) → Type 0
AreFeaturedInB b [] [] = ⊤
AreFeaturedInB b (g ∷ gs) (f ∷ fs) = IsFeatured b g.b.items g.a.items f × AreFeaturedInB b gs fs
AreFeaturedInB b gs fs = ⊥

-- ---- pairs

-- with this group, of the other calendar, found again by this
abbrev pub found_at : Likeness → ℕ → Option Found
found_at likeness n = Some (record { index = n; likeness = likeness })

-- what is found again of A, with these pairs
abbrev pub with_pairs_a : Likeness → List IndexPair → List (Option Found) → List (Option Found)
with_pairs_a likeness [] found = found
with_pairs_a likeness (p ∷ ps) found = with_pairs_a likeness ps (slice_set found p.a (found_at likeness p.b))

-- what is found again of B, with these pairs
abbrev pub with_pairs_b : Likeness → List IndexPair → List (Option Found) → List (Option Found)
with_pairs_b likeness [] found = found
with_pairs_b likeness (p ∷ ps) found = with_pairs_b likeness ps (slice_set found p.b (found_at likeness p.a))

-- One likeness pairs what is left: these are its pairs, and this is then found again.
pub record IsFoundBy (a b : List (Option Features)) (likeness : Likeness) (found next : FoundAgain) : Type 0 where
  pub pairs : List IndexPair
  pub are_pairs : ArePairs (is_only likeness) (keys_by likeness A 0 a found.a.items) (keys_by likeness B 0 b found.b.items) pairs
  pub next_a : next.a.items ≡ with_pairs_a likeness pairs found.a.items
  pub next_b : next.b.items ≡ with_pairs_b likeness pairs found.b.items

-- each of these likenesses in turn pairs what those before it left
pub data AreFoundBy (a b : List (Option Features)) : List Likeness → FoundAgain → FoundAgain → Type 0 where
  none : (found : FoundAgain) → AreFoundBy a b [] found found
  next : (likeness : Likeness) (likenesses : List Likeness) (found step last : FoundAgain) → IsFoundBy a b likeness found step
      → AreFoundBy a b likenesses step last → AreFoundBy a b (likeness ∷ likenesses) found last

-- by what events are found again, first by what says most
abbrev pub likenesses : List Likeness
likenesses = Moments ∷ Times ∷ Start ∷ OtherTitle ∷ []

-- nothing of this many groups is found again
abbrev pub none_of : ℕ → List (Option Found)
none_of n = replicate n None

-- nothing is found again
pub record IsNoneFound (count : ℕ) (found : FoundAgain) : Type 0 where
  pub a : found.a.items ≡ none_of count
  pub b : found.b.items ≡ none_of count

-- what is found again of the groups of two calendars
pub record AreFoundAgain (a b : ZonedCalendar) (groups : List Group) (found : FoundAgain) : Type 0 where
  pub of_a : List (Option Features)
  pub of_b : List (Option Features)
  pub none : FoundAgain
  pub featured_a : AreFeaturedInA a groups of_a
  pub featured_b : AreFeaturedInB b groups of_b
  pub begin : IsNoneFound (length groups) none
  pub found_by : AreFoundBy of_a of_b likenesses none found

-- What is found again of the groups of two calendars: nothing, if events are to be found by their UID alone.
abbrev pub AreFoundIf : Bool → ZonedCalendar → ZonedCalendar → List Group → FoundAgain → Type 0
AreFoundIf true a b groups found = IsNoneFound (length groups) found
AreFoundIf false a b groups found = AreFoundAgain a b groups found

-- ---- indexes

-- a group that is found again is one of this many
abbrev pub IsWithin : ℕ → Option Found → Type 0
IsWithin count None = ⊤
IsWithin count (Some found) = found.index < count

-- there is one for each of this many groups, and each is found again as one of them
pub record AreSound (count : ℕ) (found : FoundAgain) : Type 0 where
  pub as_many_a : length found.a.items ≡ count
  pub as_many_b : length found.b.items ≡ count
  pub within_a : All (IsWithin count) found.a.items
  pub within_b : All (IsWithin count) found.b.items
