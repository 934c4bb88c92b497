-- The first day of a Graph pattern and range, and what counting from it changes.
use Rattle.std.proofs.Common.{◌≡◌, ℕ, zero, suc, ◌≤◌, Bool, true, false, ◌&&◌, ℤ, pos, nat_abs, ◌+ℤ◌, ◌-ℤ◌}
use Rattle.std.proofs.Common.{◌*ℤ◌, ◌≤ℤ◌, ◌<ℤ◌, inl, inr, refl, sym, ap, ◌∙◌, arith, Some, None, Option}
use Rattle.std.specs.Prelude.{◌⊎◌}
use Rattle.std.proofs.lemmas.Int.{ints}
use Rattle.std.proofs.lemmas.Bool.{cases_eq, eqb-true, cases_lt, false≢true, and_parts}
use Rattle.rr_model.specs.Calendar.{first_day_of_year}
use Rattle.rr_model.specs.Whole.Count.{count_from}
use Rattle.rr_model.specs.Whole.{floor_div, floor_mod, divides}
use Rattle.rr_model.specs.Moment.Years.{IsInYears}
use Rattle.rr_model.specs.declared.kind.Kind.TheVariants.{Days}
use Rattle.rr_model.proofs.CountLemmas.{one, count_from-zero, count_from-suc}
use Rattle.rr_model.proofs.WholeLemmas.{floor_whole}
use Rattle.rr_pattern.proofs.MonthLemmas.{narrow_front}
use Rattle.rr_model.specs.Graph.Occurrences.{form_unit, form_holds, is_pattern_day, pattern_days_to, IsWithinRange, IsRepeatDay, first_or, first_from}
use Rattle.rr_model.specs.Graph.Occurrences.{days_up_to, last_day_of, first_repeat_day}
use Rattle.rr_pattern.proofs.PatternParts.{SameFromFirst, RangeCounts, NoneIsNone, FoundIsFirst}
use Rattle.rr_model.specs.declared.graph.Pattern.{Pattern}
use Rattle.rr_model.specs.declared.graph.Range.{Range}
use Rattle.rr_model.specs.declared.graph.RangeEnd.{RangeEnd}
use Rattle.rr_model.specs.declared.graph.RangeEnd.TheVariants.{NoEnd, EndDate, Numbered}
use Rattle.rr_model.proofs.DividesLemmas.{divides-add}
use Rattle.rr_model.proofs.YearLemmas.{year_10000}

-- ---- distances

divides_from : (n : ℕ) (a b x : ℤ) → 1 ≤ n → divides n (b -ℤ a) ≡ true → divides n (x -ℤ b) ≡ divides n (x -ℤ a)
divides_from n a b x some e =
    let k = floor_div (b -ℤ a) n in
    let none = eqb-true (floor_mod (b -ℤ a) n) 0 e in
    let far : x -ℤ a ≡ (x -ℤ b) +ℤ (k *ℤ pos n) = omega (arith, ints, floor_whole (b -ℤ a) n some, none) in
    sym (ap (divides n) far ∙ divides-add n (x -ℤ b) k some)

pub same_from_first : SameFromFirst
unfolding is_pattern_day
same_from_first pattern start first d some e =
    ap (λ b. b && form_holds pattern.form pattern d)
    (divides_from pattern.interval (form_unit pattern.form pattern.first_day start) (form_unit pattern.form pattern.first_day first)
    (form_unit pattern.form pattern.first_day d) some (and_parts _ _ e).0)

-- ---- the first of a stretch

-- x passes, and none before it in the stretch does
pub record IsFirstOf (test : ℤ → Bool) (q : ℤ) (n : ℕ) (x : ℤ) : Type 0 where
  pub passes : test x ≡ true
  pub low : q ≤ℤ x
  pub high : x <ℤ (q +ℤ pos n)
  pub none_before : (d : ℤ) → q ≤ℤ d → d <ℤ x → test d ≡ false

module _ (test : ℤ → Bool) where
  at_once : (q x : ℤ) (n : ℕ) → test q ≡ true → q ≡ x → IsFirstOf test q (suc n) x
  at_once q x n e s =
      record {
        passes = ap test (sym s) ∙ e;
        low = omega (arith, ints, s);
        high = omega (arith, ints, s);
        none_before =
            λ d l h. absurd (omega (arith, ints, s, l, h));
      }

  later : (q x : ℤ) (n : ℕ) → test q ≡ false → IsFirstOf test (q +ℤ pos 1) n x → IsFirstOf test q (suc n) x
  later q x n e f = record {
    passes = f.passes;
    low = omega (arith, ints, f.low);
    high = omega (arith, ints, f.high);
    none_before = λ d l h. elim (same_or_after d l) [ inl s ↦ ap test s ∙ e | inr m ↦ f.none_before d m h ];
  }
    where
      same_or_after : (d : ℤ) → q ≤ℤ d → (d ≡ q) ⊎ ((q +ℤ pos 1) ≤ℤ d)
      same_or_after d l = elim (cases_eq (nat_abs (d -ℤ q)) 0) [ inl z ↦ inl (omega (arith, ints, z, l)) | inr o ↦ inr (omega (arith, ints, o, l)) ]

  pub first_some : (q x : ℤ) (n : ℕ) → first_from test q n ≡ Some x → IsFirstOf test q n x
  unfolding first_from
  first_some q x zero e = absurd (cc)
  first_some q x (suc n) e =
      elim (test q) as (λ b. test q ≡ b → first_or b q (λ next. first_from test next n) ≡ Some x → IsFirstOf test q (suc n) x) [
        | true ↦ λ t s. at_once q x n t (cc)
        | false ↦ λ t s. later q x n t (first_some (q +ℤ pos 1) x n s)
      ] refl e

  pub first_none : (q : ℤ) (n : ℕ) → first_from test q n ≡ None → (d : ℤ) → q ≤ℤ d → d <ℤ (q +ℤ pos n) → test d ≡ false
  unfolding first_from
  first_none q zero e d l h = absurd (omega (arith, ints, l, h))
  first_none q (suc n) e d l h =
      elim (test q) as (λ b. test q ≡ b → first_or b q (λ next. first_from test next n) ≡ None → test d ≡ false) [
        | true ↦ λ t s. absurd (cc)
        | false ↦ λ t s.
            elim (cases_eq (nat_abs (d -ℤ q)) 0) [
              | inl z ↦ (let same : d ≡ q = omega (arith, ints, z, l) in ap test same ∙ t)
              | inr o ↦ first_none (q +ℤ pos 1) n s d (omega (arith, ints, o, l)) (omega (arith, ints, h))
            ]
      ] refl e

-- ---- the days of a range in the years 1 to 9999

abbrev days_of_range : Range → ℕ
days_of_range range = days_up_to range.start_day (last_day_of range.end)

reach : (from last d : ℤ) → from ≤ℤ d → d ≤ℤ last → d <ℤ (from +ℤ pos (days_up_to from last))
reach from last d l h = grind (arith, ints)

reach_back : (from last d : ℤ) → from ≤ℤ d → d <ℤ (from +ℤ pos (days_up_to from last)) → d ≤ℤ last
reach_back from last d l h = grind (arith, ints)

last_in_years : (end : RangeEnd) (d : ℤ) → d ≤ℤ last_day_of end → d <ℤ first_day_of_year (pos 10_000)
last_in_years NoEnd d h = omega (arith, ints, h, year_10000)
last_in_years (EndDate last) d h = let low : d ≤ℤ pos 2_932_896 = grind (arith, ints) in omega (arith, ints, low, year_10000)
last_in_years (Numbered n) d h = omega (arith, ints, h, year_10000)

within_last : (pattern : Pattern) (start : ℤ) (end : RangeEnd) (d : ℤ) → d <ℤ first_day_of_year (pos 10_000) → IsWithinRange pattern start end d
    → d ≤ℤ last_day_of end
within_last pattern start NoEnd d h w = omega (arith, ints, h, year_10000)
within_last pattern start (EndDate last) d h w = let low : d ≤ℤ pos 2_932_896 = omega (arith, ints, h, year_10000) in grind (arith, ints)
within_last pattern start (Numbered n) d h w = omega (arith, ints, h, year_10000)

-- how many days of a pattern lie up to its first
one_first : (test : ℤ → Bool) (start first : ℤ) → start ≤ℤ first → test first ≡ true → ((d : ℤ) → start ≤ℤ d → d <ℤ first → test d ≡ false)
    → count_from test start (nat_abs ((first -ℤ start) +ℤ pos 1)) ≡ 1
one_first test start first l t none =
    let z : first +ℤ pos 0 ≡ first = omega (arith, ints) in
    let n : nat_abs ((first -ℤ first) +ℤ pos 1) ≡ 1 = omega (arith, ints) in
    narrow_front test test start first first l (omega (arith, ints)) none (λ e a b. refl) ∙ ap (count_from test first) n
    ∙ omega (arith, count_from-suc test first 0, count_from-zero test first, ap (λ x. one (test x)) z, ap one t)

within_first : (pattern : Pattern) (start : ℤ) (end : RangeEnd) (first : ℤ) → RangeCounts end → first ≤ℤ last_day_of end
    → pattern_days_to pattern start first ≡ 1 → IsWithinRange pattern start end first
within_first pattern start NoEnd first c h one_day = tt
within_first pattern start (EndDate last) first c h one_day = grind (arith, ints)
within_first pattern start (Numbered n) first c h one_day = omega (arith, c, one_day)

pub found_is_first : FoundIsFirst
unfolding first_repeat_day
found_is_first pattern range first valid e =
    let test = is_pattern_day pattern range.start_day in
    let f = first_some test range.start_day first (days_of_range range) e in
    let last = reach_back range.start_day (last_day_of range.end) first f.low f.high in
    let ones = one_first test range.start_day first f.low f.passes f.none_before in record {
      has_it = record { in_pattern = f.passes; not_before = f.low; within_range = within_first pattern range.start_day range.end first valid.1 last ones };
      in_years = (omega (arith, ints, valid.0.0, f.low), last_in_years range.end first last);
      none_before = λ d r. elim (first_or_after first d) [ inl l ↦ l | inr h ↦ absurd (false≢true (sym (f.none_before d r.not_before h) ∙ r.in_pattern)) ];
    }
  where
    first_or_after : (a b : ℤ) → (a ≤ℤ b) ⊎ (b <ℤ a)
    first_or_after a b =
        elim (cases_eq (nat_abs (a -ℤ b)) 0) [
          | inl z ↦ inl (omega (arith, ints, z))
          | inr o ↦
              elim (cases_lt 0 (nat_abs ((a -ℤ b) +ℤ pos (nat_abs (a -ℤ b))))) [
                | inl p ↦ inr (omega (arith, ints, o, p))
                | inr q ↦ inl (omega (arith, ints, o, q))
              ]
        ]

pub none_is_none : NoneIsNone
unfolding first_repeat_day
none_is_none pattern range valid =
    let test = is_pattern_day pattern range.start_day in (
      (λ e. λ d years r. false≢true
          (sym (first_none test range.start_day (days_of_range range) e d r.not_before
          (reach range.start_day (last_day_of range.end) d r.not_before (within_last pattern range.start_day range.end d years.1 r.within_range)))
          ∙ r.in_pattern)),
      (λ none. by_answer (first_from test range.start_day (days_of_range range)) refl none),
    )
  where
    by_answer : (answer : Option ℤ) → first_repeat_day pattern range ≡ answer → ((d : ℤ) → IsInYears Days d → IsRepeatDay pattern range d → ⊥)
        → first_repeat_day pattern range ≡ None
    by_answer None e none = e
    by_answer (Some x) e none = let f = found_is_first pattern range x valid e in absurd (none x f.in_years f.has_it)

-- ---- steps of a search from day to day

module _ (test : ℤ → Bool) (q last : ℤ) where
  one_more_day : q ≤ℤ last → days_up_to q last ≡ suc (days_up_to (q +ℤ pos 1) last)
  one_more_day l = grind (arith, ints)

  no_day : last <ℤ q → days_up_to q last ≡ 0
  no_day h = grind (arith, ints)

  pub search_end : last <ℤ q → first_from test q (days_up_to q last) ≡ None
  unfolding first_from
  search_end h = rw (no_day h) refl

  pub search_found : q ≤ℤ last → test q ≡ true → first_from test q (days_up_to q last) ≡ Some q
  unfolding first_from
  search_found l e = ap (first_from test q) (one_more_day l) ∙ ap (λ b. first_or b q (λ next. first_from test next (days_up_to (q +ℤ pos 1) last))) e

  pub search_more : q ≤ℤ last → test q ≡ false → first_from test q (days_up_to q last) ≡ first_from test (q +ℤ pos 1) (days_up_to (q +ℤ pos 1) last)
  unfolding first_from
  search_more l e = ap (first_from test q) (one_more_day l) ∙ ap (λ b. first_or b q (λ next. first_from test next (days_up_to (q +ℤ pos 1) last))) e

-- ---- for callers

pub first_in_years : (pattern : Pattern) (range : Range) (x : ℤ) → IsInYears Days range.start_day → first_repeat_day pattern range ≡ Some x → IsInYears Days x
unfolding first_repeat_day
first_in_years pattern range x start e =
    let f = first_some (is_pattern_day pattern range.start_day) range.start_day x (days_of_range range) e in
    (omega (arith, ints, start.0, f.low), last_in_years range.end x (reach_back range.start_day (last_day_of range.end) x f.low f.high))
