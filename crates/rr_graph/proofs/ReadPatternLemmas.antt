-- A pattern that is read is valid.
use Rattle.std.proofs.Common.{◌≡◌, ℕ, zero, suc, ◌<◌, ◌≤◌, ◌^◌, ◌&&◌, nat_le, bit_or, Bool, true, false, if◌then◌else◌, List, [], ◌∷◌, Option}
use Rattle.std.proofs.Common.{None, Some, Result, Ok, Err, refl, sym, subst, inl, inr, ℤ, pos, neg_ℤ, option_and_then, arith}
use Rattle.std.specs.Prelude.{codes, IfOk}
use Rattle.std.specs.List.{AllByRecursion}
use Rattle.std.specs.Str.{str_eq_ignore_ascii_case}
use Rattle.std.proofs.lemmas.Bool.Decides.{nat_tests}
use Rattle.std.proofs.lemmas.Int.{ints}
use Rattle.std.proofs.lemmas.Nat.{or_lt, le_or_r}
use Rattle.serde_json.specs.Data.{Data, Items, no_items, item}
use Rattle.serde_json.specs.Find.{as_str, as_array}
use Rattle.rr_model.specs.Graph.Members.{member_of, number_in, number_in_bounds, value_named, day_named, index_named}
use Rattle.rr_model.specs.Graph.Reading.{if_used, form_in, interval_within, interval_in, days_after, days_of_names, days_in, named_or, first_day_in}
use Rattle.rr_model.specs.Graph.Reading.{index_in, pattern_of}
use Rattle.rr_model.specs.Graph.Uses.{bit_of, uses_days, uses_first_day, uses_index, uses_day_of_month, uses_month, most_interval}
use Rattle.rr_model.specs.Graph.Validity.{LiesIfUsed, IsIndex, IsValidPattern}
use Rattle.rr_model.specs.declared.graph.Form.{Form}
use Rattle.rr_model.specs.declared.graph.Pattern.{Pattern}
use Rattle.rr_model.specs.declared.refusal.Member.{Member}
use Rattle.rr_model.specs.declared.refusal.Member.TheVariants as of
use Rattle.rr_model.specs.declared.refusal.Refusal.{Refusal}
use Rattle.rr_model.specs.declared.refusal.Refusal.TheVariants.{BadMember, IntervalTooLarge}
use Rattle.rr_text.proofs.StepLemmas.{and_then_ok, ok_or_ok, ok_same, and_then_some}

-- ---- names

-- what holds of each value of a table holds of the one that a name means
named-all : {X : Type 0} (P : X → Type 0) (rows : List (List ℕ × X)) (text : List ℕ) (x : X) → AllByRecursion (λ row. P row.1) rows
    → value_named rows text ≡ Some x → P x
named-all P [] text x all h = absurd (cc)
named-all P (row ∷ rows) text x all h =
    elim (str_eq_ignore_ascii_case text row.0) as (λ b. (if b then Some row.1 else value_named rows text) ≡ Some x → P x) [
      | true ↦ λ e. (let same : row.1 ≡ x = cc in subst P same all.0)
      | false ↦ λ e. named-all P rows text x all.1 e
    ] h

abbrev day_rows : List (List ℕ × ℕ)
day_rows =
    (codes "monday", 0) ∷ (codes "tuesday", 1) ∷ (codes "wednesday", 2) ∷ (codes "thursday", 3) ∷ (codes "friday", 4) ∷ (codes "saturday", 5)
    ∷ (codes "sunday", 6) ∷ []

abbrev index_rows : List (List ℕ × ℤ)
index_rows =
    (codes "first", pos 1) ∷ (codes "second", pos 2) ∷ (codes "third", pos 3) ∷ (codes "fourth", pos 4) ∷ (codes "last", neg_ℤ (pos 1)) ∷ []

day-below : (text : List ℕ) (day : ℕ) → day_named text ≡ Some day → day < 7
unfolding day_named
day-below text day h =
    named-all (λ d. d < 7) day_rows text day (omega arith, (omega arith, (omega arith, (omega arith, (omega arith, (omega arith, (omega arith, tt))))))) h

index-is : (text : List ℕ) (index : ℤ) → index_named text ≡ Some index → IsIndex true index
unfolding index_named
index-is text index h =
    named-all (IsIndex true) index_rows text index (
      inl (omega (arith, ints), omega (arith, ints)),
      (
        inl (omega (arith, ints), omega (arith, ints)),
        (
          inl (omega (arith, ints), omega (arith, ints)),
          (inl (omega (arith, ints), omega (arith, ints)), (inr refl, tt)),
        ),
      ),
    ) h

-- ---- numbers

pub within-lies : (member : Member) (least most : ℕ) (o : Option ℕ) (n : ℕ) → number_in_bounds member least most o ≡ Ok n → (least ≤ n) × (n ≤ most)
within-lies member least most None n h = absurd (cc)
within-lies member least most (Some m) n h = by (nat_le least m) (nat_le m most) refl refl h
  where
    by : (a b : Bool) → nat_le least m ≡ a → nat_le m most ≡ b → (if a && b then Ok m else Err (BadMember member)) ≡ Ok n → (least ≤ n) × (n ≤ most)
    by true true e f h =
        let same : m ≡ n = cc in
        (grind (arith, nat_tests, e, same), grind (arith, nat_tests, f, same))
    by true false e f h = absurd (cc)
    by false b e f h = absurd (cc)

interval-lies : (form : Form) (o : Option ℕ) (n : ℕ) → interval_within form o ≡ Ok n → (1 ≤ n) × (n ≤ most_interval form)
interval-lies form None n h = absurd (cc)
interval-lies form (Some m) n h = by (nat_le m 0) (nat_le m (most_interval form)) refl refl h
  where
    by : (a b : Bool) → nat_le m 0 ≡ a → nat_le m (most_interval form) ≡ b
        → (if a then Err (BadMember of.Interval) else (if b then Ok m else Err IntervalTooLarge)) ≡ Ok n → (1 ≤ n) × (n ≤ most_interval form)
    by true b e f h = absurd (cc)
    by false true e f h =
        let same : m ≡ n = cc in
        (grind (arith, nat_tests, e, same), grind (arith, nat_tests, f, same))
    by false false e f h = absurd (cc)

-- ---- days

bit_lies : (day : ℕ) → day < 7 → (1 ≤ bit_of day) × (bit_of day < 2 ^ 7)
bit_lies zero h = (omega arith, omega arith)
bit_lies (suc zero) h = (omega arith, omega arith)
bit_lies (suc (suc zero)) h = (omega arith, omega arith)
bit_lies (suc (suc (suc zero))) h = (omega arith, omega arith)
bit_lies (suc (suc (suc (suc zero)))) h = (omega arith, omega arith)
bit_lies (suc (suc (suc (suc (suc zero))))) h = (omega arith, omega arith)
bit_lies (suc (suc (suc (suc (suc (suc zero)))))) h = (omega arith, omega arith)
bit_lies (suc (suc (suc (suc (suc (suc (suc k))))))) h = absurd (omega arith)

-- the first name of a list gives a day
first_name : (days : ℕ) (name : Data) (names : Items) (n : ℕ) → days < 2 ^ 7 → days_after days (item name names) ≡ Some n
    → (sum : ℕ) × (1 ≤ sum) × (sum < 2 ^ 7) × (days_after sum names ≡ Some n)
first_name days name names n low h =
    let day = and_then_some (option_and_then day_named (as_str name)) _ n h in
    let text = and_then_some (as_str name) day_named day.0 day.1 in
    let bit = bit_lies day.0 (day-below text.0 day.0 text.2) in
    (bit_or days (bit_of day.0), omega (arith, bit.0, le_or_r days (bit_of day.0)), or_lt 7 days (bit_of day.0) low bit.1, day.2)

days-lie : (sum : ℕ) (names : Items) (n : ℕ) → 1 ≤ sum → sum < 2 ^ 7 → days_after sum names ≡ Some n → (1 ≤ n) × (n ≤ 127)
days-lie sum no_items n some low h =
    let same : sum ≡ n = cc in
    (omega (arith, some, same), omega (arith, low, same))
days-lie sum (item name names) n some low h =
    let next = first_name sum name names n low h in
    days-lie next.0 names n next.1 next.2 next.3

names-lie : (names : Items) (n : ℕ) → days_of_names names ≡ Some n → (1 ≤ n) × (n ≤ 127)
names-lie no_items n h = absurd (cc)
names-lie (item name names) n h =
    let next = first_name 0 name names n (omega arith) h in
    days-lie next.0 names n next.1 next.2 next.3

days_in-lie : (pattern : Data) (n : ℕ) → days_in pattern ≡ Ok n → (1 ≤ n) × (n ≤ 127)
unfolding days_in
days_in-lie pattern n h =
    let names = and_then_some (option_and_then as_array (member_of (codes "daysOfWeek") pattern)) days_of_names n (ok_or_ok _ (BadMember of.DaysOfWeek) n h) in
    names-lie names.0 n names.2

-- ---- members with a value if they are missing

named_or-all : {X : Type 0} (P : X → Type 0) (member : Member) (names : List ℕ → Option X) (missing : X) (o : Option Data) (x : X) → P missing
    → ((text : List ℕ) → names text ≡ Some x → P x) → named_or member names missing o ≡ Ok x → P x
named_or-all P member names missing None x p all h =
    let same : missing ≡ x = cc in
    subst P same p
named_or-all P member names missing (Some value) x p all h =
    let text = and_then_some (as_str value) names x (ok_or_ok _ (BadMember member) x h) in
    all text.0 text.2

first_day_in-lies : (pattern : Data) (n : ℕ) → first_day_in pattern ≡ Ok n → (0 ≤ n) × (n ≤ 6)
unfolding first_day_in
first_day_in-lies pattern n h =
    named_or-all (λ d. (0 ≤ d) × (d ≤ 6)) of.FirstDayOfWeek day_named 6 (member_of (codes "firstDayOfWeek") pattern) n (omega arith, omega arith)
    (λ text e. (omega arith, omega (arith, day-below text n e))) h

index_in-is : (pattern : Data) (index : ℤ) → index_in pattern ≡ Ok index → IsIndex true index
unfolding index_in
index_in-is pattern index h =
    named_or-all (IsIndex true) of.Index index_named (pos 1) (member_of (codes "index") pattern) index (inl (omega (arith, ints), omega (arith, ints)))
    (λ text e. index-is text index e) h

-- ---- members that a type may not use

used-lies : (b : Bool) (low high otherwise : ℕ) (read : Result ℕ Refusal) (n : ℕ) → ((m : ℕ) → read ≡ Ok m → (low ≤ m) × (m ≤ high))
    → if_used b otherwise read ≡ Ok n → LiesIfUsed b low high otherwise n
used-lies true low high otherwise read n all h = all n h
used-lies false low high otherwise read n all h = cc

used-index : (b : Bool) (read : Result ℤ Refusal) (index : ℤ) → ((i : ℤ) → read ≡ Ok i → IsIndex true i) → if_used b (pos 1) read ≡ Ok index → IsIndex b index
used-index true read index all h = all index h
used-index false read index all h = cc

-- ---- the pattern

pub pattern_of-valid : (value : Data) (pattern : Pattern) → pattern_of value ≡ Ok pattern → IsValidPattern pattern
unfolding pattern_of interval_in
pattern_of-valid value pattern h =
    let form = and_then_ok (form_in value) _ pattern h in
    let interval = and_then_ok (interval_in form.0 value) _ pattern form.2 in
    let days = and_then_ok (if_used (uses_days form.0) 0 (days_in value)) _ pattern interval.2 in
    let first_day = and_then_ok (if_used (uses_first_day form.0) 6 (first_day_in value)) _ pattern days.2 in
    let index = and_then_ok (if_used (uses_index form.0) (pos 1) (index_in value)) _ pattern first_day.2 in
    let day = and_then_ok (if_used (uses_day_of_month form.0) 0 (number_in_bounds of.DayOfMonth 1 31 (number_in (codes "dayOfMonth") value))) _ pattern index.2 in
    let month = and_then_ok (if_used (uses_month form.0) 0 (number_in_bounds of.Month 1 12 (number_in (codes "month") value))) _ pattern day.2 in
    let made : Pattern = record {
      form = form.0;
      interval = interval.0;
      day_of_month = day.0;
      month = month.0;
      days = days.0;
      first_day = first_day.0;
      index = index.0;
    } in
    let same : made ≡ pattern = ok_same made pattern month.2 in
    let lies = interval-lies form.0 (number_in (codes "interval") value) interval.0 interval.1 in
    let valid : IsValidPattern made = record {
      interval_low = lies.0;
      interval_high = lies.1;
      days = used-lies (uses_days form.0) 1 127 0 (days_in value) days.0 (days_in-lie value) days.1;
      first_day = used-lies (uses_first_day form.0) 0 6 6 (first_day_in value) first_day.0 (first_day_in-lies value) first_day.1;
      index = used-index (uses_index form.0) (index_in value) index.0 (index_in-is value) index.1;
      day_of_month = used-lies (uses_day_of_month form.0) 1 31 0 _ day.0 (within-lies of.DayOfMonth 1 31 (number_in (codes "dayOfMonth") value)) day.1;
      month = used-lies (uses_month form.0) 1 12 0 _ month.0 (within-lies of.Month 1 12 (number_in (codes "month") value)) month.1;
    } in
    subst IsValidPattern same valid

-- so is what a call answers that reads it
pub pattern_answer_is_valid : (value : Data) (r : Result Pattern Refusal) → r ≡ pattern_of value → IfOk r IsValidPattern
pattern_answer_is_valid value (Ok pattern) h = pattern_of-valid value pattern (sym h)
pattern_answer_is_valid value (Err refusal) h = tt
