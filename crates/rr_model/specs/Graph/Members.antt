-- Members of a Graph event, a pattern and a range (Microsoft Graph, event, recurrencePattern, recurrenceRange).
use Rattle.std.specs.Prelude.{ℕ, nat_le, ◌&&◌, if◌then◌else◌, ℤ, pos, neg_ℤ, List, [], ◌∷◌, codes, Option, None, Some, option_and_then, ok_or, Result, Ok, Err}
use Rattle.std.specs.Str.{str_eq_ignore_ascii_case}
use Rattle.serde_json.specs.Data.{Data, null, boolean, number, string, array, object}
use Rattle.serde_json.specs.Find.{get, as_number, as_u64, as_str}
use Rattle.serde_json.specs.Read.{read}
use Rattle.rr_model.specs.Text.RuleValues.{◌>>=◌}
use Rattle.rr_model.specs.declared.graph.Form.{Form}
use Rattle.rr_model.specs.declared.graph.Form.TheVariants.{Daily, Weekly, AbsoluteMonthly, RelativeMonthly, AbsoluteYearly, RelativeYearly}
use Rattle.rr_model.specs.declared.refusal.Member.{Member}
use Rattle.rr_model.specs.declared.refusal.Refusal.{Refusal}
use Rattle.rr_model.specs.declared.refusal.Refusal.TheVariants.{BadJson, BadMember}

-- ---- values

-- a value that is null counts as missing
abbrev pub present : Data → Option Data
present null = None
present (boolean b) = Some (boolean b)
present (number n) = Some (number n)
present (string s) = Some (string s)
present (array ds) = Some (array ds)
present (object ms) = Some (object ms)

-- the member of that name, if there is one that is not null
abbrev pub member_of : List ℕ → Data → Option Data
member_of name value = option_and_then present (get name value)

-- a value that is an object, or the refusal
abbrev pub object_or : Refusal → Data → Result Data Refusal
object_or refusal (object ms) = Ok (object ms)
object_or refusal null = Err refusal
object_or refusal (boolean b) = Err refusal
object_or refusal (number n) = Err refusal
object_or refusal (string s) = Err refusal
object_or refusal (array ds) = Err refusal

-- the object that a member is, or BadMember
abbrev pub object_in : Member → List ℕ → Data → Result Data Refusal
object_in member name value = ok_or (member_of name value) (BadMember member) >>= object_or (BadMember member)

-- the text that a member is, if it is one
abbrev pub text_in : List ℕ → Data → Option (List ℕ)
text_in name value = option_and_then as_str (member_of name value)

-- the whole number that a member is: digits alone, at most 18,446,744,073,709,551,615
abbrev pub number_in : List ℕ → Data → Option ℕ
number_in name value = option_and_then as_u64 (option_and_then as_number (member_of name value))

-- a number from `least` to `most`, or BadMember
abbrev pub number_in_bounds : Member → ℕ → ℕ → Option ℕ → Result ℕ Refusal
number_in_bounds member least most None = Err (BadMember member)
number_in_bounds member least most (Some n) = if nat_le least n && nat_le n most then Ok n else Err (BadMember member)

-- ---- words, in either case

-- what a name means by a table, in any letter case
abbrev pub value_named : {X : Type 0} → List (List ℕ × X) → List ℕ → Option X
value_named [] text = None
value_named (row ∷ rows) text = if str_eq_ignore_ascii_case text row.0 then Some row.1 else value_named rows text

-- the type of a pattern by its name
unfoldable pub form_named : List ℕ → Option Form
form_named text = value_named
    ((codes "daily", Daily) ∷ (codes "weekly", Weekly) ∷ (codes "absoluteMonthly", AbsoluteMonthly) ∷ (codes "relativeMonthly", RelativeMonthly)
    ∷ (codes "absoluteYearly", AbsoluteYearly) ∷ (codes "relativeYearly", RelativeYearly) ∷ []) text

-- a weekday, from 0 for Monday
unfoldable pub day_named : List ℕ → Option ℕ
day_named text = value_named
    ((codes "monday", 0) ∷ (codes "tuesday", 1) ∷ (codes "wednesday", 2) ∷ (codes "thursday", 3) ∷ (codes "friday", 4) ∷ (codes "saturday", 5) ∷
    (codes "sunday", 6) ∷ []) text

-- which of the days of a month
unfoldable pub index_named : List ℕ → Option ℤ
index_named text = value_named
    ((codes "first", pos 1) ∷ (codes "second", pos 2) ∷ (codes "third", pos 3) ∷ (codes "fourth", pos 4) ∷ (codes "last", neg_ℤ (pos 1)) ∷ []) text

-- ---- the value of the bytes

-- the value of the text, which is an object
unfoldable pub json_object : List ℕ → Result Data Refusal
json_object text = ok_or (read text) BadJson >>= object_or BadJson
