-- The event of single dates or moments is valid, and written.
use Rattle.std.proofs.Common.{◌≡◌, ℕ, ◌-◌, ◌≤◌, false, List, [], ◌∷◌, All, drop, get_or, length, take, take_all, ℤ, pos, sym, ap, subst, ◌∙◌, append-nil, arith}
use Rattle.std.specs.Prelude.{◌==◌, int_lt}
use Rattle.std.proofs.lemmas.Bool.Decides.{nat_tests}
use Rattle.std.proofs.lemmas.List.Elements.{All-nil, All-head, All-tail}
use Rattle.rr_model.specs.Moment.Years.{IsInYears}
use Rattle.rr_model.specs.Rising.{Rises}
use Rattle.rr_model.specs.Rule.Validity.{EndsInYears}
use Rattle.rr_model.specs.Text.Written.{lines_of}
use Rattle.rr_model.specs.Vcal.Validity.{IsValidVRule, IsValidVSeries}
use Rattle.rr_model.specs.declared.kind.Kind.{Kind}
use Rattle.rr_model.specs.declared.limits.TheConstants.{MAX_DATES}
use Rattle.rr_model.specs.declared.vcal.VSeries.{VSeries}
use Rattle.rr_model.proofs.RisingSetLemmas.{Rises-tail}
use Rattle.rr_plan_text.specs.VcalText.{component_text, dates_event, single_events}

pub dates_event_valid : (kind : Kind) (start : ℤ) (plus : List ℤ) → All (IsInYears kind) (start ∷ plus) → length (start ∷ plus) ≤ MAX_DATES
    → IsValidVSeries (dates_event kind start plus)
dates_event_valid kind start plus years few = record {
  start = All-head (IsInYears kind) start plus years;
  rules = All-nil IsValidVRule;
  excluded = All-nil IsValidVRule;
  few_rules = omega arith;
  ends = All-nil (λ rule. EndsInYears rule.end);
  excluded_ends = All-nil (λ rule. EndsInYears rule.end);
  plus = All-tail (IsInYears kind) start plus years;
  minus = All-nil (IsInYears kind);
  few_dates = omega (arith, few);
}

-- ---- the first of some dates and the others

some_of : (n : ℕ) → (n == 0) ≡ false → 1 ≤ n
some_of n e = grind (arith, nat_tests, e)

-- the others of a list
abbrev others : List ℤ → List ℤ
others xs = take (length xs - 1) (drop 1 xs)

first_and_others : (xs : List ℤ) (d : ℤ) → 1 ≤ length xs → xs ≡ get_or xs 0 d ∷ others xs
first_and_others [] d some = absurd (omega (arith, some))
first_and_others (x ∷ xs) d some = ap (λ (ys : List ℤ). x ∷ ys) (sym (take_all (length (x ∷ xs) - 1) xs (omega arith)))

pub others_rise : (xs : List ℤ) → Rises int_lt xs → Rises int_lt (others xs)
others_rise [] rises = tt
others_rise (x ∷ xs) rises = subst (Rises int_lt) (sym (take_all (length (x ∷ xs) - 1) xs (omega arith))) (Rises-tail int_lt x xs rises)

module _ (kind : Kind) (xs : List ℤ) (start : ℤ) (none : (length xs == 0) ≡ false) (first : start ≡ get_or xs 0 (pos 0)) where
  whole : xs ≡ start ∷ others xs
  whole = first_and_others xs (pos 0) (some_of (length xs) none) ∙ ap (λ (x : ℤ). x ∷ others xs) (sym first)

  pub single_valid : (event : VSeries) → All (IsInYears kind) xs → length xs ≤ MAX_DATES → event ≡ dates_event kind start (others xs)
      → IsValidVSeries event
  single_valid event years few made =
      subst IsValidVSeries (sym made)
      (dates_event_valid kind start (others xs) (subst (All (IsInYears kind)) whole years) (subst (λ (ys : List ℤ). length ys ≤ MAX_DATES) whole few))

  pub single_written : component_text (dates_event kind start (others xs)) ≡ lines_of component_text (single_events kind xs)
  single_written =
      sym (append-nil (component_text (dates_event kind start (others xs))))
      ∙ ap (λ (ys : List ℤ). lines_of component_text (single_events kind ys)) (sym whole)
