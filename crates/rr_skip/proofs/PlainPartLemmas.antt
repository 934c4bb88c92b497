-- The parts of a rule without RSCALE and SKIP state what they state beside them.
use Rattle.std.proofs.Common.{◌≡◌, ℕ, Bool, true, false, not, ◌||◌, if◌then◌else◌, List, [], ◌∷◌, Some, Result, Ok, Err, ℤ, pos, refl, sym, ap, subst, ◌∙◌}
use Rattle.std.specs.Prelude.{codes, filter, int_lt, ok_or}
use Rattle.std.specs.List.{list_all}
use Rattle.std.specs.Str.{bytes_eq}
use Rattle.rr_model.specs.Rising.{with_value}
use Rattle.rr_model.specs.Text.RuleValues.{◌>>=◌, pieces, rising_values}
use Rattle.rr_rule_parts.specs.Values.{number_within, numbers_of, signed_bounds, has_number_form}
use Rattle.rr_model.specs.Text.Rules.{split_once}
use Rattle.rr_rule_parts.specs.Rules.{part_named, is_extension, name_of, is_present, with_part_value, with_part, with_parts, parts_of, rule_parts}
use Rattle.rr_model.specs.Text.Steps.{in_turn}
use Rattle.rr_model.specs.declared.refusal.Refusal.{Refusal}
use Rattle.rr_model.specs.declared.refusal.Refusal.TheVariants.{BadRule, PartTwice, Extended}
use Rattle.rr_rule_parts.specs.declared.rule_parts.PartName.{PartName}
use Rattle.rr_rule_parts.specs.declared.rule_parts.PartName.TheVariants as part
use Rattle.rr_rule_parts.specs.declared.rule_parts.RuleParts.{RuleParts}
use Rattle.rr_text.proofs.StepLemmas.{and_then_ok, ok_or_ok, passed, not_refused}
use Rattle.rr_skip.specs.Parts.{is_taken, taken_part, scale_part_named, has_scale_part, with_scale, is_scale_name, skip_named, front_day, front_days, with_taken_value, with_scale_value}
use Rattle.rr_skip.specs.Parts.{with_scale_part, no_scale_parts, scale_parts_of, scale_parts}
use Rattle.rr_skip.specs.TextLaws.{is_plain_name, is_plain_part, IsWithoutScale}
use Rattle.rr_skip.specs.declared.parts.ScalePart.{ScalePart}
use Rattle.rr_skip.specs.declared.parts.ScalePart.TheVariants.{Scale, Skipping, Of}
use Rattle.rr_skip.specs.declared.parts.ScaledParts.{ScaledParts}

-- ---- values

-- a list is read alike if each value is
placed_same : {X : Type 0} (below : X → X → Bool) (f g : List ℕ → Result X Refusal) → ((t : List ℕ) (x : X) → f t ≡ Ok x → g t ≡ Ok x)
    → (list : List X) (texts : List (List ℕ)) (all : List X) → rising_values below f list texts ≡ Ok all → rising_values below g list texts ≡ Ok all
placed_same below f g same list [] all h = h
placed_same below f g same list (text ∷ texts) all h =
    let one = and_then_ok (f text) (λ x. rising_values below f (with_value below list x) texts) all h in
    ap (λ r. r >>= λ x. rising_values below g (with_value below list x) texts) (same text one.0 one.1)
    ∙ placed_same below f g same (with_value below list one.0) texts all one.2

front_day-number : (line : ℕ) (text : List ℕ) (k : ℤ) → front_day line text ≡ Ok k → number_within line (signed_bounds 31) text ≡ Ok k
front_day-number line text k h =
    let n = and_then_ok (number_within line (signed_bounds 31) text) (λ z. if int_lt z (pos 0) then Err Extended else Ok z) k h in
    n.1 ∙ (not_refused (int_lt n.0 (pos 0)) Extended (Ok n.0) k n.2).1

front_days-numbers : (line : ℕ) (text : List ℕ) (ks : List ℤ) → front_days line text ≡ Ok ks → numbers_of line (signed_bounds 31) text ≡ Ok ks
unfolding front_days numbers_of
front_days-numbers line text ks h =
    let form = passed (list_all (has_number_form (signed_bounds 31)) (pieces 44 text)) _ (BadRule line) ks h in
    ap (λ (b : Bool). if b then rising_values int_lt (number_within line (signed_bounds 31)) [] (pieces 44 text) else Err (BadRule line)) form.0
    ∙ placed_same int_lt (front_day line) (number_within line (signed_bounds 31)) (front_day-number line) [] (pieces 44 text) ks form.1

taken_value-same : (line : ℕ) (parts more : RuleParts) (name : PartName) (text : List ℕ) → with_taken_value line parts name text ≡ Ok more
    → with_part_value line parts name text ≡ Ok more
taken_value-same line parts more part.ByMonthDay text h =
    let days = and_then_ok (front_days line text) (λ ks. Ok (record parts { by_month_day = ks })) more h in
    ap (λ (r : Result (List ℤ) Refusal). r >>= λ ks. Ok (record parts { by_month_day = ks })) (front_days-numbers line text days.0 days.1) ∙ days.2
taken_value-same line parts more part.Freq text h = h
taken_value-same line parts more part.Until text h = h
taken_value-same line parts more part.Count text h = h
taken_value-same line parts more part.Interval text h = h
taken_value-same line parts more part.WeekStart text h = h
taken_value-same line parts more part.BySecond text h = h
taken_value-same line parts more part.ByMinute text h = h
taken_value-same line parts more part.ByHour text h = h
taken_value-same line parts more part.ByDay text h = h
taken_value-same line parts more part.ByYearDay text h = h
taken_value-same line parts more part.ByWeekNo text h = h
taken_value-same line parts more part.ByMonth text h = h
taken_value-same line parts more part.BySetPos text h = h

value_same : (line : ℕ) (parts more : ScaledParts) (name : PartName) (text : List ℕ) → with_scale_value line parts (Of name) text ≡ Ok more
    → with_part_value line parts.parts name text ≡ Ok more.parts
value_same line parts more name text h =
    let value = and_then_ok (with_taken_value line parts.parts name text) (λ x. Ok (record parts { parts = x })) more h in
    let same : record parts { parts = value.0 } ≡ more = cc in
    taken_value-same line parts.parts value.0 name text value.1 ∙ ap (λ (p : ScaledParts). Ok p.parts) same

-- ---- names

abbrev IsScale : ScalePart → Type 0
IsScale Scale = Unit {0}
IsScale Skipping = Unit {0}
IsScale (Of name) = ⊥

-- a name that is read: RSCALE or SKIP, or that of a part of RFC 5545
abbrev IsNamedBy : Bool → Result PartName Refusal → ScalePart → Type 0
IsNamedBy true named y = IsScale y
IsNamedBy false named y = (name : PartName) × (named ≡ Ok name) × (y ≡ Of name)

taken_part-same : (name : PartName) (y : ScalePart) → taken_part name ≡ Ok y → y ≡ Of name
taken_part-same name y h =
    let p = passed (is_taken name) (Ok (Of name)) Extended y h in
    cc

by_name : (a b : Bool) (named : Result PartName Refusal) (y : ScalePart) → (if a then Ok Scale else (if b then Ok Skipping else (named >>= taken_part))) ≡ Ok y
    → IsNamedBy (a || b) named y
by_name true b named y h = (let e : Scale ≡ y = cc in subst IsScale e tt)
by_name false true named y h = (let e : Skipping ≡ y = cc in subst IsScale e tt)
by_name false false named y h =
    let name = and_then_ok named taken_part y h in
    (name.0, name.1, taken_part-same name.0 y name.2)

named-by : (line : ℕ) (name : List ℕ) (y : ScalePart) → scale_part_named line name ≡ Ok y
    → IsNamedBy (is_extension name) (ok_or (part_named name) (BadRule line)) y
unfolding scale_part_named
named-by line name y h = by_name (bytes_eq name (codes "RSCALE")) (bytes_eq name (codes "SKIP")) (ok_or (part_named name) (BadRule line)) y h

-- ---- one part

scale-leaves : (line : ℕ) (parts more : ScaledParts) (text : List ℕ) → with_scale line parts text ≡ Ok more → parts.parts ≡ more.parts
unfolding with_scale
scale-leaves line parts more text h =
    let form = passed (is_scale_name text) _ (BadRule line) more h in
    let gregorian = passed (bytes_eq text (codes "GREGORIAN")) (Ok (record parts { has_scale = true })) Extended more form.1 in
    let same : record parts { has_scale = true } ≡ more = cc in
    ap (λ (p : ScaledParts). p.parts) same

-- RSCALE and SKIP leave the other parts as they are
scale_value-leaves : (line : ℕ) (parts more : ScaledParts) (name : ScalePart) (text : List ℕ) → IsScale name → with_scale_value line parts name text ≡ Ok more
    → parts.parts ≡ more.parts
scale_value-leaves line parts more Scale text s h = scale-leaves line parts more text h
scale_value-leaves line parts more Skipping text s h =
    let skip = and_then_ok (ok_or (skip_named text) (BadRule line)) (λ x. Ok (record parts { skip = Some x })) more h in
    let same : record parts { skip = Some skip.0 } ≡ more = cc in
    ap (λ (p : ScaledParts). p.parts) same
scale_value-leaves line parts more (Of name) text s h = absurd s

-- a part as it is read
record IsPart (line : ℕ) (parts more : ScaledParts) (text : List ℕ) : Type 0 where
  name : List ℕ
  value : List ℕ
  which : ScalePart
  sides : split_once 61 text ≡ Some (name, value)
  named : scale_part_named line name ≡ Ok which
  first : has_scale_part parts which ≡ false
  read : with_scale_value line parts which value ≡ Ok more

part_is : (line : ℕ) (parts more : ScaledParts) (text : List ℕ) → with_scale_part line parts text ≡ Ok more → IsPart line parts more text
unfolding with_scale_part
part_is line parts more text h =
    let sides = and_then_ok (ok_or (split_once 61 text) (BadRule line)) _ more h in
    let name = and_then_ok (scale_part_named line sides.0.0) _ more sides.2 in
    let value = not_refused (has_scale_part parts name.0) (PartTwice line) _ more name.2 in
    record {
      name = sides.0.0;
      value = sides.0.1;
      which = name.0;
      sides = ok_or_ok (split_once 61 text) (BadRule line) sides.0 sides.1;
      named = name.1;
      first = value.0;
      read = value.1;
    }

extension_is : (line : ℕ) (parts more : ScaledParts) (text : List ℕ) (p : IsPart line parts more text) → is_plain_part text ≡ not (is_extension p.name)
extension_is line parts more text p = ap is_plain_name p.sides

not_not : (b c : Bool) → c ≡ not b → b ≡ not c
not_not true c e = ap not (sym e)
not_not false c e = ap not (sym e)

part_leaves : (line : ℕ) (parts more : ScaledParts) (text : List ℕ) → is_plain_part text ≡ false → with_scale_part line parts text ≡ Ok more
    → parts.parts ≡ more.parts
part_leaves line parts more text plain h =
    let p = part_is line parts more text h in
    let ext : is_extension p.name ≡ true = not_not (is_extension p.name) false (sym plain ∙ extension_is line parts more text p) in
    let scale : IsScale p.which = subst (λ b. IsNamedBy b (ok_or (part_named p.name) (BadRule line)) p.which) ext (named-by line p.name p.which p.named) in
    scale_value-leaves line parts more p.which p.value scale p.read

plain_part : (line : ℕ) (parts more : ScaledParts) (text : List ℕ) (p : IsPart line parts more text) (name : PartName) → is_extension p.name ≡ false
    → ok_or (part_named p.name) (BadRule line) ≡ Ok name → p.which ≡ Of name → with_part line parts.parts text ≡ Ok more.parts
unfolding with_part name_of
plain_part line parts more text p name ext named which =
    let first : is_present parts.parts name ≡ false = ap (has_scale_part parts) (sym which) ∙ p.first in
    let read : with_scale_value line parts (Of name) p.value ≡ Ok more = ap (λ y. with_scale_value line parts y p.value) (sym which) ∙ p.read in
    rw (p.sides, ext, named, first) (value_same line parts more name p.value read)

part_same : (line : ℕ) (parts more : ScaledParts) (text : List ℕ) → is_plain_part text ≡ true → with_scale_part line parts text ≡ Ok more
    → with_part line parts.parts text ≡ Ok more.parts
part_same line parts more text plain h =
    let p = part_is line parts more text h in
    let ext : is_extension p.name ≡ false = not_not (is_extension p.name) true (sym plain ∙ extension_is line parts more text p) in
    let name = subst (λ b. IsNamedBy b (ok_or (part_named p.name) (BadRule line)) p.which) ext (named-by line p.name p.which p.named) in
    plain_part line parts more text p name.0 ext name.1 name.2

-- ---- all parts

one_part : (line : ℕ) (text : List ℕ) (parts all : ScaledParts) (rest : List (List ℕ)) (later : ScaledParts → Result ScaledParts Refusal) (b : Bool)
    → is_plain_part text ≡ b → ((next : ScaledParts) → later next ≡ Ok all → with_parts line next.parts rest ≡ Ok all.parts)
    → (with_scale_part line parts text >>= later) ≡ Ok all → with_parts line parts.parts (if b then text ∷ rest else rest) ≡ Ok all.parts
one_part line text parts all rest later true e rests h =
    let step = and_then_ok (with_scale_part line parts text) later all h in
    ap (λ (r : Result RuleParts Refusal). r >>= λ more. with_parts line more rest) (part_same line parts step.0 text e step.1) ∙ rests step.0 step.2
one_part line text parts all rest later false e rests h =
    let step = and_then_ok (with_scale_part line parts text) later all h in
    ap (λ p. with_parts line p rest) (part_leaves line parts step.0 text e step.1) ∙ rests step.0 step.2

parts_same : (line : ℕ) (texts : List (List ℕ)) (parts all : ScaledParts) → in_turn (with_scale_part line) parts texts ≡ Ok all
    → with_parts line parts.parts (filter is_plain_part texts) ≡ Ok all.parts
parts_same line [] parts all h = (let same : parts ≡ all = cc in ap (λ (p : ScaledParts). Ok p.parts) same)
parts_same line (text ∷ texts) parts all h =
    one_part line text parts all (filter is_plain_part texts) (λ more. in_turn (with_scale_part line) more texts) (is_plain_part text) refl
    (λ next rest. parts_same line texts next all rest) h

pub rule_parts-same : (line : ℕ) (value plain : List ℕ) (parts : ScaledParts) → IsWithoutScale value plain → scale_parts line value ≡ Ok parts
    → rule_parts line plain ≡ Ok parts.parts
unfolding scale_parts scale_parts_of rule_parts parts_of
rule_parts-same line value plain parts without h = rw without (parts_same line _ no_scale_parts parts h)
