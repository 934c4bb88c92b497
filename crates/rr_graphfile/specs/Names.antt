-- The names of events by their ids, as the code keeps them.
use Rattle.std.specs.Prelude.{◌≡◌, ℕ, List, [], ◌∷◌, Option, option_map}
use Rattle.std.specs.Borrow.{Bor}
use Rattle.std.specs.BTreeMap.{BTreeMap, get_by}
use Rattle.std.specs.Cmp.Lexicographic.{slice_cmp}
use Rattle.std.specs.Option.{option_or}
use Rattle.std.specs.Ordering.{nat_cmp}
use Rattle.serde_json.specs.Data.{Data}
use Rattle.rr_graphfile.specs.Items.{name_by_id}

-- ids with names
abbrev pub NameMap : Type 0
NameMap = BTreeMap (Bor (List ℕ)) (Bor (List ℕ))

-- the name that is kept under an id
abbrev pub name_under : NameMap → List ℕ → Option (List ℕ)
name_under names id = option_map (λ (name : Bor (List ℕ)). name.now) (get_by (λ (key : Bor (List ℕ)). slice_cmp nat_cmp id key.now) names)

-- the names of the first events of each id are kept
abbrev pub IsNameMap : NameMap → List Data → Type 0
IsNameMap names items = (id : List ℕ) → name_under names id ≡ name_by_id id items

-- one event more is taken in
abbrev pub Notes : NameMap → Data → NameMap → Type 0
Notes old event new = (id : List ℕ) → name_under new id ≡ option_or (name_under old id) (name_by_id id (event ∷ []))
