-- Values as lists.
use Rattle.std.proofs.Common.{◌≡◌, List, [], ◌∷◌, map, refl, ap}
use Rattle.std.specs.Option.{is_some}
use Rattle.serde_json.specs.Data.{Data, null, boolean, number, string, array, object}
use Rattle.serde_json.specs.Find.{as_object}
use Rattle.serde_json.specs.View.{items_of, items_view, view}
use Rattle.serde_json.specs.declared.value.Value.{Value}
use Rattle.rr_graphfile.specs.Items.{is_object, list_of}

pub object_told : (d : Data) → is_some (as_object d) ≡ is_object d
object_told null = refl
object_told (boolean b) = refl
object_told (number n) = refl
object_told (string s) = refl
object_told (array ds) = refl
object_told (object ms) = refl

pub list_of_items : (ds : List Data) → list_of (items_of ds) ≡ ds
list_of_items [] = refl
list_of_items (d ∷ ds) = ap (λ (es : List Data). d ∷ es) (list_of_items ds)

-- the elements of an array of values
pub elements_told : (values : List Value) → list_of (items_view values) ≡ map view values
elements_told values = list_of_items (map view values)
