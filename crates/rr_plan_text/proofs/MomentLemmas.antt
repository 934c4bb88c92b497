-- The text of a date or a moment that can be printed is ASCII, and lists of such texts hold no float.
use Rattle.std.proofs.Common.{◌≡◌, ℕ, suc, ◌+◌, ◌<◌, ◌^◌, ℤ, pos, List, [], ◌∷◌, ◌++◌, map, length, take, get_or, false, refl, sym, ap, ◌∙◌, arith}
use Rattle.std.specs.Str.{IsAscii}
use Rattle.std.proofs.lemmas.List.{map-append}
use Rattle.std.proofs.lemmas.Str.{IsAscii-append}
use Rattle.std.proofs.lemmas.Str.Ascii.{IsAscii-nil, IsAscii-cons}
use Rattle.std.proofs.Math.Seq.{take-suc}
use Rattle.serde_json.specs.Data.{Data, array, string}
use Rattle.serde_json.specs.View.{items_of}
use Rattle.serde_json.specs.Written.{has_float, items_have_float}
use Rattle.rr_model.specs.Calendar.{day_of_month, month_of, year_of}
use Rattle.rr_model.specs.Moment.{day_part, second_part}
use Rattle.rr_model.specs.Text.Moments.{decimal_of, extended_date_text, extended_text}
use Rattle.rr_model.specs.declared.kind.Kind.{Kind}
use Rattle.rr_model.specs.declared.kind.Kind.TheVariants.{Days, Moments}
use Rattle.rr_model.proofs.WholeLemmas.{floor_mod_below}
use Rattle.rr_text.specs.Printed.{IsPrintableAt}
use Rattle.rr_text.proofs.PrintedLemmas.{small_month, small_year}
use Rattle.rr_text.proofs.WrittenExtendedLemmas.{IsAscii-extended_time_text, IsAscii-padded}
use Rattle.rr_plan_text.specs.PlanText.{moment_json, moments_items}

-- ---- ASCII

IsAscii-one : (b : ℕ) → b < 128 → IsAscii (b ∷ [])
IsAscii-one b h = IsAscii-cons b [] h IsAscii-nil

IsAscii-date : (day : ℤ) → IsPrintableAt Days day → IsAscii (extended_date_text day)
unfolding extended_date_text
IsAscii-date day h =
    let small = small_month day in
    let hyphen = IsAscii-one 45 (omega arith) in
    let front = IsAscii-append _ _ (IsAscii-padded 4 _ (small_year day h.0 h.1)) hyphen in
    let middle = IsAscii-append _ _ (IsAscii-append _ _ front (IsAscii-padded 2 (month_of day) (omega (arith, small.0)))) hyphen in
    IsAscii-append _ _ middle (IsAscii-padded 2 (day_of_month day) (omega (arith, small.1)))

pub IsAscii-printed : (kind : Kind) (t : ℤ) → IsPrintableAt kind t → IsAscii (extended_text kind t)
unfolding extended_text
IsAscii-printed Days t h = IsAscii-date t h
IsAscii-printed Moments t h =
    IsAscii-append _ _ (IsAscii-append _ _ (IsAscii-date (day_part Moments t) h) (IsAscii-one 84 (omega arith)))
    (IsAscii-extended_time_text (second_part Moments t) (floor_mod_below t 86_400 (omega arith)))

-- ---- lists

pub has_float-moments : (kind : Kind) (ts : List ℤ) → items_have_float (moments_items kind ts) ≡ false
has_float-moments kind [] = refl
has_float-moments kind (t ∷ ts) = has_float-moments kind ts

-- one more
pub one_more_moment : (kind : Kind) (ts : List ℤ) (k : ℕ) (d t : ℤ) (before after : List Data) (value : Data) → k < length ts → t ≡ get_or ts k d
    → before ≡ map (moment_json kind) (take k ts) → value ≡ moment_json kind t → after ≡ before ++ value ∷ []
    → after ≡ map (moment_json kind) (take (k + 1) ts)
one_more_moment kind ts k d t before after value l is so_far made more =
    let at : ℤ = get_or ts k d in
    let e : k + 1 ≡ suc k = omega arith in
    let next : take (k + 1) ts ≡ take k ts ++ at ∷ [] = ap (λ n. take n ts) e ∙ take-suc ts k d l in
    let whole : map (moment_json kind) (take (k + 1) ts) ≡ map (moment_json kind) (take k ts) ++ moment_json kind at ∷ [] =
    ap (map (moment_json kind)) next ∙ map-append (moment_json kind) (take k ts) (at ∷ []) in
    more ∙ ap (λ (v : Data). before ++ v ∷ []) (made ∙ ap (moment_json kind) is) ∙ ap (λ (l : List Data). l ++ moment_json kind at ∷ []) so_far ∙ sym whole
