-- The value of a text.
use Rattle.std.proofs.Common.{◌≡◌, ℕ, ℤ, List, length, nat_lt, Bool, true, false, cond, None, Some, Option, Ok, Err, refl, sym, ap, ◌∙◌}
use Rattle.std.specs.Prelude.{All}
use Rattle.std.specs.Str.{IsUtf8, is_utf8}
use Rattle.std.proofs.lemmas.Str.{is_utf8-from_IsUtf8, IsUtf8-from_is_utf8}
use Rattle.serde_json.specs.Data.{Data}
use Rattle.serde_json.specs.Read.{read}
use Rattle.serde_json.specs.View.{view}
use Rattle.serde_json.specs.declared.value.Value.{Value}
use Rattle.rr_model.specs.Text.Lines.{without_mark}
use Rattle.rr_seam.specs.Files.{AnswersCalendar}
use Rattle.rr_seam.specs.declared.file.FileFault.{FileFault}
use Rattle.rr_seam.specs.declared.file.FileFault.TheVariants.{Refused, NoMemory}
use Rattle.rr_seam.specs.declared.file.FileRefusal.{FileRefusal}
use Rattle.rr_seam.specs.declared.file.FileRefusal.TheVariants.{BadJson, TooLong}
use Rattle.rr_seam.specs.declared.file.TheConstants.{MAX_FILE}
use Rattle.rr_graphfile.specs.Files.{AnswersList, AnswersValue, calendar, calendar_in, calendar_or}
use Rattle.rr_graphfile.specs.Items.{file_items, items_in, items_or_refusal, json_value, keys_in, value_items}
use Rattle.rr_graphfile.specs.Known.{IsTurnedAlike, known_meaning}
use Rattle.rr_graphfile.specs.Stated.{calendar_of, stated_in}
use Rattle.rr_graphfile.specs.Turning.{Meaning}
use Rattle.rr_graphfile.specs.declared.file.GraphFile.{GraphFile}
use Rattle.rr_graphfile.proofs.StatedLemmas.{stated_alike}

pub json_read : (text : List ℕ) (value : Data) → IsUtf8 text → read text ≡ Some value → json_value text ≡ Ok value
json_read text value utf8 is = rw (is_utf8-from_IsUtf8 text utf8, is) refl

pub no_json : (text : List ℕ) → (IsUtf8 text → read text ≡ None) → json_value text ≡ Err BadJson
no_json text none = by (is_utf8 text) refl
  where
    by : (b : Bool) → is_utf8 text ≡ b → json_value text ≡ Err BadJson
    by true e = rw (e, none (IsUtf8-from_is_utf8 text e)) refl
    by false e = rw e refl

-- ---- the list that a file is

pub too_long : (bytes : List ℕ) → nat_lt MAX_FILE (length bytes) ≡ true → file_items bytes ≡ Err TooLong
too_long bytes e = ap (λ (b : Bool). cond b (Err TooLong) (items_or_refusal (json_value (without_mark bytes)))) e

short_enough : (bytes text : List ℕ) → text ≡ without_mark bytes → nat_lt MAX_FILE (length bytes) ≡ false → file_items bytes ≡ items_or_refusal (json_value text)
short_enough bytes text is e =
    ap (λ (b : Bool). cond b (Err TooLong) (items_or_refusal (json_value (without_mark bytes)))) e
    ∙ ap (λ (t : List ℕ). items_or_refusal (json_value t)) (sym is)

pub text_refused : (bytes text : List ℕ) (fault : FileFault) → text ≡ without_mark bytes → nat_lt MAX_FILE (length bytes) ≡ false
    → AnswersValue text (Err fault) → AnswersList (file_items bytes) (Err fault)
text_refused bytes text (Refused r) is e h = short_enough bytes text is e ∙ ap items_or_refusal h
text_refused bytes text NoMemory is e h = tt

module _ (bytes text : List ℕ) (value : Value) (is : text ≡ without_mark bytes) (short : nat_lt MAX_FILE (length bytes) ≡ false)
    (reads : json_value text ≡ Ok (view value)) where
  pub list_read : value_items (view value) ≡ Ok (items_in (view value)) → file_items bytes ≡ Ok (items_in (view value))
  list_read h = short_enough bytes text is short ∙ ap items_or_refusal reads ∙ h

  pub list_refused : (r : FileRefusal) → value_items (view value) ≡ Err r → file_items bytes ≡ Err r
  list_refused r h = short_enough bytes text is short ∙ ap items_or_refusal reads ∙ h

-- ---- the calendar of a file

pub calendar_read : (means : Meaning) (offset : Option ℤ) (bytes : List ℕ) (file : GraphFile) → file.offset ≡ offset
    → file_items bytes ≡ Ok (items_in (view file.value)) → file.keys.items ≡ keys_in (items_in (view file.value))
    → All (IsTurnedAlike (known_meaning file.zones) means) (items_in (view file.value))
    → AnswersCalendar calendar_in (calendar means offset bytes) (Ok file)
calendar_read means offset bytes file is reads keys alike = record {
  of_file = calendar_of means offset (items_in (view file.value));
  reads = ap (calendar_or means offset) reads;
  keys = keys;
  stated = λ indexes.
      ap (λ (o : Option ℤ). stated_in (known_meaning file.zones) o (items_in (view file.value)) indexes) is
      ∙ stated_alike (known_meaning file.zones) means (items_in (view file.value)) alike offset indexes;
  titles = λ index. refl;
}

pub calendar_refused : (means : Meaning) (offset : Option ℤ) (bytes : List ℕ) (fault : FileFault) → AnswersList (file_items bytes) (Err fault)
    → AnswersCalendar calendar_in (calendar means offset bytes) (Err fault)
calendar_refused means offset bytes (Refused r) h = ap (calendar_or means offset) h
calendar_refused means offset bytes NoMemory h = tt
