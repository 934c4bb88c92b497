-- Which items are taken, by how many days of each sort a window has.
use Rattle.std.specs.Prelude.{◌≡◌, ℕ, zero, suc, ◌<◌, ◌==◌, nat_lt, if◌then◌else◌, ⊤, Option, None, Some, List, [], ◌∷◌}
use Rattle.std.specs.List.{list_any}
use Rattle.rr_family.specs.Places.{many_items, item_at}
use Rattle.rr_family.specs.Sorts.{many_sorts, has_sort}
use Rattle.rr_family.specs.Tally.{sum_below}
use Rattle.rr_model.specs.Rising.{with_value}
use Rattle.rr_model.specs.Vcal.Items.{item_lt}
use Rattle.rr_model.specs.declared.item.Item.{Item}
use Rattle.rr_model.specs.declared.vcal.FamilyKind.{FamilyKind}

-- the days of the sorts that an item has
abbrev pub days_of_item : FamilyKind → (ℕ → ℕ) → ℕ → ℕ
days_of_item f days index = sum_below (many_sorts f) (λ sort. if has_sort f sort index then days sort else 0)

-- what an item adds: nothing if one of its sorts has a day that is not occupied
abbrev pub gain_of_item : FamilyKind → (ℕ → ℕ) → (ℕ → ℕ) → ℕ → ℕ
gain_of_item f left free index = if days_of_item f free index == 0 then days_of_item f left index else 0

-- the number at an index, if there is one
abbrev pub number_at : (ℕ → ℕ) → Option ℕ → ℕ
number_at number None = 0
number_at number (Some index) = number index

-- the first of the first n items that has the greatest number; None if all numbers are 0
unfoldable pub best_below : (ℕ → ℕ) → ℕ → Option ℕ
best_below number zero = None
best_below number (suc n) = if nat_lt (number_at number (best_below number n)) (number n) then Some n else best_below number n

-- the first item with no free day and the most occupied days left; None if no such item has one left
abbrev pub best_index : FamilyKind → (ℕ → ℕ) → (ℕ → ℕ) → Option ℕ
best_index f left free = best_below (gain_of_item f left free) (many_items f)

-- how many days of a sort no taken item has
abbrev pub days_left : FamilyKind → (ℕ → ℕ) → List ℕ → ℕ → ℕ
days_left f occupied taken sort = if list_any (λ index. has_sort f sort index) taken then 0 else occupied sort

-- the items are taken one after the other, the last one first in the list, and each is the one that adds most
abbrev pub IsTakenInTurn : FamilyKind → (ℕ → ℕ) → (ℕ → ℕ) → List ℕ → Type 0
IsTakenInTurn f occupied free [] = ⊤
IsTakenInTurn f occupied free (index ∷ taken) = IsTakenInTurn f occupied free taken × (best_index f (days_left f occupied taken) free ≡ Some index)

-- the items at the indexes, in their order
abbrev pub items_of : FamilyKind → List ℕ → List Item
items_of f [] = []
items_of f (index ∷ taken) = with_value item_lt (items_of f taken) (item_at f index)

-- the items are those taken so far in turn, and `left` is how many days of each sort none of them has
pub record AreTakenSoFar (f : FamilyKind) (occupied free left : ℕ → ℕ) (items : List Item) : Type 0 where
  pub taken : List ℕ
  pub in_turn : IsTakenInTurn f occupied free taken
  pub left_are : (sort : ℕ) → sort < many_sorts f → left sort ≡ days_left f occupied taken sort
  pub items_are : items ≡ items_of f taken

-- an item is taken: none are left of its sorts
abbrev pub IsTakenFrom : FamilyKind → ℕ → (ℕ → ℕ) → (ℕ → ℕ) → Type 0
IsTakenFrom f index old new = (sort : ℕ) → sort < many_sorts f → new sort ≡ if has_sort f sort index then 0 else old sort

-- no sort has an occupied day left
abbrev pub IsClear : FamilyKind → (ℕ → ℕ) → Type 0
IsClear f left = (sort : ℕ) → sort < many_sorts f → left sort ≡ 0

-- the items that are taken until none adds a day, or none if a day is left
abbrev pub IsAnswerOf : FamilyKind → (ℕ → ℕ) → List ℕ → Option (List Item) → Type 0
IsAnswerOf f occupied taken None = IsClear f (days_left f occupied taken) → ⊥
IsAnswerOf f occupied taken (Some items) = IsClear f (days_left f occupied taken) × (items ≡ items_of f taken)

-- indexes are taken in turn until none adds a day, and these are their items
pub record AreTaken (f : FamilyKind) (occupied free : ℕ → ℕ) (items : Option (List Item)) : Type 0 where
  pub taken : List ℕ
  pub in_turn : IsTakenInTurn f occupied free taken
  pub none_left : best_index f (days_left f occupied taken) free ≡ None
  pub answer : IsAnswerOf f occupied taken items
