-- What is noted of a text of Microsoft Graph by its value.
use Rattle.std.proofs.Common.{◌≡◌, ℕ, ◌==◌, Bool, true, false, not, List, [], ◌∷◌, length, Option, None, Some, refl, sym, ap, ◌∙◌, arith}
use Rattle.std.proofs.lemmas.Bool.Decides.{nat_tests}
use Rattle.std.specs.Prelude.{option_and_then}
use Rattle.std.specs.Str.{IsUtf8, is_utf8}
use Rattle.std.proofs.lemmas.Str.{is_utf8-from_IsUtf8, IsUtf8-from_is_utf8}
use Rattle.serde_json.specs.Data.{Data}
use Rattle.serde_json.specs.Read.{read}
use Rattle.serde_json.specs.View.{items_view}
use Rattle.serde_json.specs.declared.value.Value.{Value}
use Rattle.rr_notes.specs.GraphNotes.{has_items, json_value, note_on_graph, note_on_value}

-- an array of values has elements if there are any
pub items_told : (values : List Value) → has_items (Some (items_view values)) ≡ not (length values == 0)
items_told [] = refl
items_told (value ∷ values) =
    let some : (length (value ∷ values) == 0) ≡ false = grind (arith, nat_tests) in
    rw some refl

-- ---- the note on a text

pub read_note : (text : List ℕ) (value : Data) (said : Option (List ℕ)) → IsUtf8 text → read text ≡ Some value → said ≡ note_on_value value
    → said ≡ note_on_graph text
read_note text value said utf8 is h =
    let e : json_value text ≡ Some value = rw (is_utf8-from_IsUtf8 text utf8, is) refl in
    h ∙ sym (ap (option_and_then note_on_value) e)

pub no_note : (text : List ℕ) → (IsUtf8 text → read text ≡ None) → None ≡ note_on_graph text
no_note text none = by (is_utf8 text) refl
  where
    by : (b : Bool) → is_utf8 text ≡ b → None ≡ note_on_graph text
    by true e = rw (e, none (IsUtf8-from_is_utf8 text e)) refl
    by false e = rw e refl
