-- A part of a rule by its name and its value.
use Rattle.std.proofs.Common.{◌≡◌, ℕ, Bool, true, false, cond, not, List, [], ◌∷◌, ℤ, Some, Result, Ok, Err, refl, sym, ap, ◌∙◌}
use Rattle.std.specs.Prelude.{◌==◌, ok_or}
use Rattle.std.specs.List.{list_all, onto_first}
use Rattle.std.proofs.lemmas.Bool.{false≢true}
use Rattle.rr_model.specs.Text.Moments.{basic}
use Rattle.rr_model.specs.Text.Rules.{split_once}
use Rattle.rr_rule_parts.specs.Rules.{name_of, is_present, with_part_value, with_part}
use Rattle.rr_model.specs.Rising.{with_value}
use Rattle.rr_model.specs.Text.RuleValues.{◌>>=◌, pieces, freq_named, weekday_named, number_up_to, rising_values, list_of}
use Rattle.rr_rule_parts.specs.Values.{unsigned_bounds, signed_bounds, second_bounds, numbers_of, day_items_of}
use Rattle.rr_model.specs.Rule.Validity.{is_absent}
use Rattle.rr_model.specs.declared.refusal.Refusal.{Refusal}
use Rattle.rr_model.specs.declared.refusal.Refusal.TheVariants.{BadMoment, BadRule, PartTwice}
use Rattle.rr_model.specs.declared.rule.DayItem.{DayItem}
use Rattle.rr_model.specs.declared.rule.Freq.{Freq}
use Rattle.rr_rule_parts.specs.declared.rule_parts.PartName.{PartName}
use Rattle.rr_rule_parts.specs.declared.rule_parts.PartName.TheVariants as part
use Rattle.rr_rule_parts.specs.declared.rule_parts.RuleParts.{RuleParts}
use Rattle.rr_model.specs.declared.stamp.Stamp.{Stamp}
use Rattle.rr_model.proofs.WithValueLemmas.{with_value-some}
use Rattle.rr_text.proofs.StepLemmas.{ok_or_ok, and_then_ok, not_refused}

-- what a part holds
abbrev pub Value : PartName → Type 0
Value part.Freq = Freq
Value part.Until = Stamp
Value part.Count = ℕ
Value part.Interval = ℕ
Value part.WeekStart = ℕ
Value part.BySecond = List ℤ
Value part.ByMinute = List ℤ
Value part.ByHour = List ℤ
Value part.ByDay = List DayItem
Value part.ByMonthDay = List ℤ
Value part.ByYearDay = List ℤ
Value part.ByWeekNo = List ℤ
Value part.ByMonth = List ℤ
Value part.BySetPos = List ℤ

-- its value in a text
abbrev pub value_of : ℕ → (n : PartName) → List ℕ → Result (Value n) Refusal
value_of line part.Freq text = ok_or (freq_named text) (BadRule line)
value_of line part.Until text = ok_or (basic text) (BadMoment line)
value_of line part.Count text = number_up_to line 18_446_744_073_709_551_615 text
value_of line part.Interval text = number_up_to line 4_294_967_295 text
value_of line part.WeekStart text = ok_or (weekday_named text) (BadRule line)
value_of line part.BySecond text = numbers_of line second_bounds text
value_of line part.ByMinute text = numbers_of line (unsigned_bounds 0 59) text
value_of line part.ByHour text = numbers_of line (unsigned_bounds 0 23) text
value_of line part.ByDay text = day_items_of line text
value_of line part.ByMonthDay text = numbers_of line (signed_bounds 31) text
value_of line part.ByYearDay text = numbers_of line (signed_bounds 366) text
value_of line part.ByWeekNo text = numbers_of line (signed_bounds 53) text
value_of line part.ByMonth text = numbers_of line (unsigned_bounds 1 12) text
value_of line part.BySetPos text = numbers_of line (signed_bounds 366) text

-- the parts with this value
abbrev pub put : RuleParts → (n : PartName) → Value n → RuleParts
put parts part.Freq x = record parts { freq = Some x }
put parts part.Until x = record parts { until = Some x }
put parts part.Count x = record parts { count = Some x }
put parts part.Interval x = record parts { interval = Some x }
put parts part.WeekStart x = record parts { week_start = Some x }
put parts part.BySecond x = record parts { by_second = x }
put parts part.ByMinute x = record parts { by_minute = x }
put parts part.ByHour x = record parts { by_hour = x }
put parts part.ByDay x = record parts { by_day = x }
put parts part.ByMonthDay x = record parts { by_month_day = x }
put parts part.ByYearDay x = record parts { by_year_day = x }
put parts part.ByWeekNo x = record parts { by_week_no = x }
put parts part.ByMonth x = record parts { by_month = x }
put parts part.BySetPos x = record parts { by_set_pos = x }

-- A value is read, and then put.
abbrev pub then_put : RuleParts → (n : PartName) → Result (Value n) Refusal → Result RuleParts Refusal
then_put parts n read = read >>= λ x. Ok (put parts n x)

with_part_value-put : (line : ℕ) (parts : RuleParts) (n : PartName) (text : List ℕ)
    → with_part_value line parts n text ≡ then_put parts n (value_of line n text)
with_part_value-put line parts part.Freq text = refl
with_part_value-put line parts part.Until text = refl
with_part_value-put line parts part.Count text = refl
with_part_value-put line parts part.Interval text = refl
with_part_value-put line parts part.WeekStart text = refl
with_part_value-put line parts part.BySecond text = refl
with_part_value-put line parts part.ByMinute text = refl
with_part_value-put line parts part.ByHour text = refl
with_part_value-put line parts part.ByDay text = refl
with_part_value-put line parts part.ByMonthDay text = refl
with_part_value-put line parts part.ByYearDay text = refl
with_part_value-put line parts part.ByWeekNo text = refl
with_part_value-put line parts part.ByMonth text = refl
with_part_value-put line parts part.BySetPos text = refl

-- ---- other parts

pub put-exchange : (parts : RuleParts) (n m : PartName) (x : Value n) (y : Value m) → (n ≡ m → ⊥) → put (put parts n x) m y ≡ put (put parts m y) n x
put-exchange parts part.Freq part.Freq x y other = absurd (other refl)
put-exchange parts part.Freq m x y other = refl
put-exchange parts part.Until part.Until x y other = absurd (other refl)
put-exchange parts part.Until m x y other = refl
put-exchange parts part.Count part.Count x y other = absurd (other refl)
put-exchange parts part.Count m x y other = refl
put-exchange parts part.Interval part.Interval x y other = absurd (other refl)
put-exchange parts part.Interval m x y other = refl
put-exchange parts part.WeekStart part.WeekStart x y other = absurd (other refl)
put-exchange parts part.WeekStart m x y other = refl
put-exchange parts part.BySecond part.BySecond x y other = absurd (other refl)
put-exchange parts part.BySecond m x y other = refl
put-exchange parts part.ByMinute part.ByMinute x y other = absurd (other refl)
put-exchange parts part.ByMinute m x y other = refl
put-exchange parts part.ByHour part.ByHour x y other = absurd (other refl)
put-exchange parts part.ByHour m x y other = refl
put-exchange parts part.ByDay part.ByDay x y other = absurd (other refl)
put-exchange parts part.ByDay m x y other = refl
put-exchange parts part.ByMonthDay part.ByMonthDay x y other = absurd (other refl)
put-exchange parts part.ByMonthDay m x y other = refl
put-exchange parts part.ByYearDay part.ByYearDay x y other = absurd (other refl)
put-exchange parts part.ByYearDay m x y other = refl
put-exchange parts part.ByWeekNo part.ByWeekNo x y other = absurd (other refl)
put-exchange parts part.ByWeekNo m x y other = refl
put-exchange parts part.ByMonth part.ByMonth x y other = absurd (other refl)
put-exchange parts part.ByMonth m x y other = refl
put-exchange parts part.BySetPos part.BySetPos x y other = absurd (other refl)
put-exchange parts part.BySetPos m x y other = refl

pub is_present-put_other : (parts : RuleParts) (n m : PartName) (x : Value n) → (n ≡ m → ⊥) → is_present (put parts n x) m ≡ is_present parts m
is_present-put_other parts part.Freq part.Freq x other = absurd (other refl)
is_present-put_other parts part.Freq m x other = refl
is_present-put_other parts part.Until part.Until x other = absurd (other refl)
is_present-put_other parts part.Until m x other = refl
is_present-put_other parts part.Count part.Count x other = absurd (other refl)
is_present-put_other parts part.Count m x other = refl
is_present-put_other parts part.Interval part.Interval x other = absurd (other refl)
is_present-put_other parts part.Interval m x other = refl
is_present-put_other parts part.WeekStart part.WeekStart x other = absurd (other refl)
is_present-put_other parts part.WeekStart m x other = refl
is_present-put_other parts part.BySecond part.BySecond x other = absurd (other refl)
is_present-put_other parts part.BySecond m x other = refl
is_present-put_other parts part.ByMinute part.ByMinute x other = absurd (other refl)
is_present-put_other parts part.ByMinute m x other = refl
is_present-put_other parts part.ByHour part.ByHour x other = absurd (other refl)
is_present-put_other parts part.ByHour m x other = refl
is_present-put_other parts part.ByDay part.ByDay x other = absurd (other refl)
is_present-put_other parts part.ByDay m x other = refl
is_present-put_other parts part.ByMonthDay part.ByMonthDay x other = absurd (other refl)
is_present-put_other parts part.ByMonthDay m x other = refl
is_present-put_other parts part.ByYearDay part.ByYearDay x other = absurd (other refl)
is_present-put_other parts part.ByYearDay m x other = refl
is_present-put_other parts part.ByWeekNo part.ByWeekNo x other = absurd (other refl)
is_present-put_other parts part.ByWeekNo m x other = refl
is_present-put_other parts part.ByMonth part.ByMonth x other = absurd (other refl)
is_present-put_other parts part.ByMonth m x other = refl
is_present-put_other parts part.BySetPos part.BySetPos x other = absurd (other refl)
is_present-put_other parts part.BySetPos m x other = refl

-- ---- a part that is read stands

placed-some : {X : Type 0} (below : X → X → Bool) (judged : List ℕ → Result X Refusal) (list : List X) (texts : List (List ℕ)) (all : List X)
    → is_absent list ≡ false → rising_values below judged list texts ≡ Ok all → is_absent all ≡ false
placed-some below judged list [] all some e = let same : list ≡ all = cc in ap is_absent (sym same) ∙ some
placed-some below judged list (text ∷ texts) all some e =
    by (judged text) (λ x f. placed-some below judged (with_value below list x) texts all (with_value-some below list x) f) e
  where
    by : (r : Result _ Refusal) → ((x : _) → rising_values below judged (with_value below list x) texts ≡ Ok all → is_absent all ≡ false)
        → (r >>= λ x. rising_values below judged (with_value below list x) texts) ≡ Ok all → is_absent all ≡ false
    by (Ok x) later f = later x f
    by (Err d) later f = absurd cc

pieces-some : (b : ℕ) (text : List ℕ) → (first : List ℕ) × (more : List (List ℕ)) × (pieces b text ≡ first ∷ more)
pieces-some b [] = ([], [], refl)
pieces-some b (c ∷ cs) = by (c == b) (pieces b cs)
  where
    by : (d : Bool) (rest : List (List ℕ)) → (first : List ℕ) × (more : List (List ℕ)) × (cond d ([] ∷ rest) (onto_first c rest) ≡ first ∷ more)
    by true rest = ([], rest, refl)
    by false [] = (c ∷ [], [], refl)
    by false (piece ∷ rest) = (c ∷ piece, rest, refl)

list_of-some : {X : Type 0} (line : ℕ) (has_form : List ℕ → Bool) (below : X → X → Bool) (judged : List ℕ
    → Result X Refusal) (text : List ℕ) (all : List X) → list_of line has_form below judged text ≡ Ok all → is_absent all ≡ false
list_of-some line has_form below judged text all e = by (list_all has_form (pieces 44 text)) (pieces 44 text) (pieces-some 44 text) e
  where
    first_of : (r : Result _ Refusal) (texts : List (List ℕ)) → (r >>= λ x. rising_values below judged (x ∷ []) texts) ≡ Ok all → is_absent all ≡ false
    first_of (Ok x) texts f = placed-some below judged (x ∷ []) texts all refl f
    first_of (Err d) texts f = absurd cc

    by : (b : Bool) (texts : List (List ℕ)) → ((first : List ℕ) × (more : List (List ℕ)) × (texts ≡ first ∷ more))
        → cond b (rising_values below judged [] texts) (Err (BadRule line)) ≡ Ok all → is_absent all ≡ false
    by true texts some f = first_of (judged some.0) some.1 (ap (rising_values below judged []) (sym some.2) ∙ f)
    by false texts some f = absurd cc

pub is_present-put : (line : ℕ) (parts : RuleParts) (n : PartName) (text : List ℕ) (x : Value n) → value_of line n text ≡ Ok x
    → is_present (put parts n x) n ≡ true
unfolding numbers_of day_items_of
is_present-put line parts part.Freq text x e = refl
is_present-put line parts part.Until text x e = refl
is_present-put line parts part.Count text x e = refl
is_present-put line parts part.Interval text x e = refl
is_present-put line parts part.WeekStart text x e = refl
is_present-put line parts part.BySecond text x e = ap not (list_of-some line _ _ _ text x e)
is_present-put line parts part.ByMinute text x e = ap not (list_of-some line _ _ _ text x e)
is_present-put line parts part.ByHour text x e = ap not (list_of-some line _ _ _ text x e)
is_present-put line parts part.ByDay text x e = ap not (list_of-some line _ _ _ text x e)
is_present-put line parts part.ByMonthDay text x e = ap not (list_of-some line _ _ _ text x e)
is_present-put line parts part.ByYearDay text x e = ap not (list_of-some line _ _ _ text x e)
is_present-put line parts part.ByWeekNo text x e = ap not (list_of-some line _ _ _ text x e)
is_present-put line parts part.ByMonth text x e = ap not (list_of-some line _ _ _ text x e)
is_present-put line parts part.BySetPos text x e = ap not (list_of-some line _ _ _ text x e)

-- ---- reading a part

-- the text is a part of this name, with this value
pub record States (line : ℕ) (text : List ℕ) (n : PartName) (x : Value n) : Type 0 where
  pub sides : List ℕ × List ℕ
  pub halves : split_once 61 text ≡ Some sides
  pub name : name_of line sides.0 ≡ Ok n
  pub value : value_of line n sides.1 ≡ Ok x

-- what a part that is read was
pub record IsRead (line : ℕ) (parts : RuleParts) (text : List ℕ) (more : RuleParts) : Type 0 where
  pub part_name : PartName
  pub part_value : Value part_name
  pub states : States line text part_name part_value
  pub is_new : is_present parts part_name ≡ false
  pub is_put : put parts part_name part_value ≡ more

done : {A : Type 0} (x y : A) → ◌≡◌ {A = Result A Refusal} (Ok x) (Ok y) → x ≡ y
done x y e = cc

then_put-ok : (line : ℕ) (parts : RuleParts) (n : PartName) (text : List ℕ) (more : RuleParts) → with_part_value line parts n text ≡ Ok more
    → (x : Value n) × (value_of line n text ≡ Ok x) × (put parts n x ≡ more)
then_put-ok line parts n text more e =
    let read : then_put parts n (value_of line n text) ≡ Ok more = sym (with_part_value-put line parts n text) ∙ e in
    let a = and_then_ok (value_of line n text) (λ x. Ok (put parts n x)) more read in
    (a.0, a.1, done (put parts n a.0) more a.2)

pub IsRead-from : (line : ℕ) (parts : RuleParts) (text : List ℕ) (more : RuleParts) → with_part line parts text ≡ Ok more → IsRead line parts text more
unfolding with_part
IsRead-from line parts text more e =
    let a = and_then_ok (ok_or (split_once 61 text) (BadRule line))
    (λ sides. name_of line sides.0 >>= λ name. cond (is_present parts name) (Err (PartTwice line)) (with_part_value line parts name sides.1)) more e in
    let b = and_then_ok (name_of line a.0.0) (λ name. cond (is_present parts name) (Err (PartTwice line)) (with_part_value line parts name a.0.1)) more a.2 in
    let c = not_refused (is_present parts b.0) (PartTwice line) (with_part_value line parts b.0 a.0.1) more b.2 in
    let d = then_put-ok line parts b.0 a.0.1 more c.1 in
    record {
      part_name = b.0;
      part_value = d.0;
      states = record { sides = a.0; halves = ok_or_ok (split_once 61 text) (BadRule line) a.0 a.1; name = b.1; value = d.1 };
      is_new = c.0;
      is_put = d.2;
    }

pub with_part-again : (line : ℕ) (parts : RuleParts) (text : List ℕ) (n : PartName) (x : Value n) → States line text n x → is_present parts n ≡ false
    → with_part line parts text ≡ Ok (put parts n x)
unfolding with_part
with_part-again line parts text n x states is_new =
    rw (states.halves, states.name, is_new, with_part_value-put line parts n states.sides.1, states.value) refl

pub exchanged : (line : ℕ) (parts middle more : RuleParts) (a b : List ℕ) → with_part line parts a ≡ Ok middle → with_part line middle b ≡ Ok more
    → (other : RuleParts) × (with_part line parts b ≡ Ok other) × (with_part line other a ≡ Ok more)
exchanged line parts middle more a b e f =
    let p = IsRead-from line parts a middle e in
    let q = IsRead-from line middle b more f in
    let n = p.part_name in
    let m = q.part_name in
    let there : is_present middle n ≡ true =
    ap (λ (r : RuleParts). is_present r n) (sym p.is_put) ∙ is_present-put line parts n p.states.sides.1 p.part_value p.states.value in
    let differ : n ≡ m → ⊥ = λ same. false≢true (sym q.is_new ∙ ap (is_present middle) (sym same) ∙ there) in
    let differ_back : m ≡ n → ⊥ = λ same. differ (sym same) in
    let new_b : is_present parts m ≡ false =
    sym (is_present-put_other parts n m p.part_value differ) ∙ ap (λ (r : RuleParts). is_present r m) p.is_put ∙ q.is_new in
    let new_a : is_present (put parts m q.part_value) n ≡ false = is_present-put_other parts m n q.part_value differ_back ∙ p.is_new in
    let both : put (put parts m q.part_value) n p.part_value ≡ more =
    put-exchange parts m n q.part_value p.part_value differ_back ∙ ap (λ (r : RuleParts). put r m q.part_value) p.is_put ∙ q.is_put in (
      put parts m q.part_value,
      with_part-again line parts b m q.part_value q.states new_b,
      with_part-again line (put parts m q.part_value) a n p.part_value p.states new_a ∙ ap Ok both,
    )
