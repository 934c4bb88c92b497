-- Texts behind a byte order mark, and values by their kind.
use Rattle.std.proofs.Common.{◌≡◌, ℕ, Bool, true, false, if◌then◌else◌, List, [], ◌∷◌, ◌++◌, take, drop, None, Some, refl, sym, ap, ◌∙◌}
use Rattle.std.specs.Prelude.{is_some, unwrap_or, Ok, Err}
use Rattle.std.specs.Str.{IsUtf8, bytes_eq}
use Rattle.std.proofs.lemmas.List.{take-append-drop}
use Rattle.std.proofs.lemmas.Slice.Eq.{bytes_eq-Decides}
use Rattle.std.proofs.lemmas.Str.{IsUtf8-past_char}
use Rattle.serde_json.specs.Data.{Data, null, boolean, number, string, array, object}
use Rattle.serde_json.specs.Find.{as_object, as_bool, as_str}
use Rattle.rr_model.specs.Graph.Members.{object_or}
use Rattle.rr_model.specs.Graph.Reading.{is_true, is_text_or_missing, is_flag_or_missing}
use Rattle.rr_model.specs.Text.Lines.{without_mark}
use Rattle.rr_model.specs.declared.refusal.Refusal.{Refusal}

pub object_or_object : (refusal : Refusal) (value : Data) → is_some (as_object value) ≡ true → object_or refusal value ≡ Ok value
object_or_object refusal (object ms) e = refl
object_or_object refusal null e = absurd (cc)
object_or_object refusal (boolean b) e = absurd (cc)
object_or_object refusal (number n) e = absurd (cc)
object_or_object refusal (string s) e = absurd (cc)
object_or_object refusal (array ds) e = absurd (cc)

pub object_or_other : (refusal : Refusal) (value : Data) → is_some (as_object value) ≡ false → object_or refusal value ≡ Err refusal
object_or_other refusal (object ms) e = absurd (cc)
object_or_other refusal null e = refl
object_or_other refusal (boolean b) e = refl
object_or_other refusal (number n) e = refl
object_or_other refusal (string s) e = refl
object_or_other refusal (array ds) e = refl

pub is_true_some : (value : Data) → is_true (Some value) ≡ unwrap_or (as_bool value) false
is_true_some null = refl
is_true_some (boolean b) = refl
is_true_some (number n) = refl
is_true_some (string s) = refl
is_true_some (array ds) = refl
is_true_some (object ms) = refl

pub is_text_some : (value : Data) → is_text_or_missing (Some value) ≡ is_some (as_str value)
is_text_some null = refl
is_text_some (boolean b) = refl
is_text_some (number n) = refl
is_text_some (string s) = refl
is_text_some (array ds) = refl
is_text_some (object ms) = refl

pub is_flag_some : (value : Data) → is_flag_or_missing (Some value) ≡ is_some (as_bool value)
is_flag_some null = refl
is_flag_some (boolean b) = refl
is_flag_some (number n) = refl
is_flag_some (string s) = refl
is_flag_some (array ds) = refl
is_flag_some (object ms) = refl

-- ---- the mark

abbrev mark : List ℕ
mark = 239 ∷ 187 ∷ 191 ∷ []

pub unmarked : (bytes : List ℕ) → IsUtf8 bytes → IsUtf8 (without_mark bytes)
unfolding lib.Utf8.encode
unmarked bytes text = by (bytes_eq (take 3 bytes) mark) refl
  where
    by : (b : Bool) → bytes_eq (take 3 bytes) mark ≡ b → IsUtf8 (unwrap_or (if b then Some (drop 3 bytes) else None) bytes)
    by true e = IsUtf8-past_char bytes (drop 3 bytes) 65_279 text (sym (take-append-drop 3 bytes)
        ∙ ap (λ l. l ++ drop 3 bytes) ((bytes_eq-Decides (take 3 bytes) mark).0 e))
    by false e = text
