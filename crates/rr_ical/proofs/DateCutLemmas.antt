-- The date values of a text are cut off one after the other.
use Rattle.std.proofs.Common.{◌≡◌, ℕ, ◌+◌, ◌-◌, ◌<◌, Bool, true, false, cond, List, [], ◌∷◌, length, take, drop, None, Some, Result, Ok, Err}
use Rattle.std.proofs.Common.{refl, sym, ap, ◌∙◌, subst, arith}
use Rattle.std.specs.Prelude.{nat_lt}
use Rattle.std.specs.List.{position, position_or_len, slice_split}
use Rattle.std.proofs.lemmas.Bool.Decides.{nat_tests}
use Rattle.std.proofs.lemmas.Grind.{common_steps}
use Rattle.std.proofs.lemmas.List.{take_rest}
use Rattle.std.proofs.lemmas.List.Elements.{All-from_get_or}
use Rattle.std.proofs.lemmas.List.Splits.{slice_split_first, slice_split_none}
use Rattle.std.proofs.lemmas.List.Sums.{fails_before_first}
use Rattle.std.proofs.lemmas.Option.{cond_some}
use Rattle.rr_model.specs.Answers.{Answers}
use Rattle.rr_model.specs.Text.RuleValues.{◌>>=◌}
use Rattle.rr_model.specs.declared.refusal.Fault.{Fault}
use Rattle.rr_model.specs.declared.refusal.Fault.TheVariants.{Refused, NoMemory}
use Rattle.rr_model.specs.declared.refusal.Refusal.{Refusal}
use Rattle.rr_ical.specs.Kept.{IsDateCut, is_date_separator, kept_date, kept_dates}
use Rattle.rr_ical.specs.declared.kept.ReadLines.{ReadLines}
use Rattle.rr_ical.proofs.KeptLemmas.{step_done}

no_place : (b : Bool) (x : ℕ) → cond b (Some x) None ≡ None → b ≡ false
no_place true x h = absurd (cc)
no_place false x h = refl

pub cut_at : (takes_semicolons : Bool) (text : List ℕ) (k : ℕ) → Some k ≡ position (is_date_separator takes_semicolons) text
    → IsDateCut takes_semicolons text (take k text) (take (length text - (k + 1)) (drop (k + 1) text))
cut_at takes_semicolons text k at =
    let separates : ℕ → Bool = is_date_separator takes_semicolons in
    let found = cond_some (nat_lt (position_or_len separates text) (length text)) (position_or_len separates text) k (sym at) in
    let within : position_or_len separates text < length text = grind (arith, nat_tests, found.0) in
    let below : k < length text = subst (λ i. i < length text) found.1 within in
    rw (take_rest text (k + 1)) record {
      values =
          subst (λ i. slice_split separates text ≡ take i text ∷ slice_split separates (drop (i + 1) text)) found.1
          (slice_split_first separates text 0 within);
      shorter = grind (arith, common_steps, below);
    }

pub uncut : (takes_semicolons : Bool) (text : List ℕ) → None ≡ position (is_date_separator takes_semicolons) text
    → slice_split (is_date_separator takes_semicolons) text ≡ text ∷ []
uncut takes_semicolons text none =
    let separates : ℕ → Bool = is_date_separator takes_semicolons in
    let over = no_place (nat_lt (position_or_len separates text) (length text)) (position_or_len separates text) (sym none) in
    slice_split_none separates text
    (All-from_get_or (λ b. separates b ≡ false) text 0 (λ i below. fails_before_first separates text i 0 (grind (arith, nat_tests, over, below))))

module _ {R : Type 0} (line : ℕ) (is_plus takes_semicolons : Bool) (read : ReadLines R) where
  abbrev kept : List ℕ → Result (ReadLines R) Refusal
  kept text = kept_dates line is_plus read (slice_split (is_date_separator takes_semicolons) text)

  -- what follows the first value
  abbrev others : List ℕ → ReadLines R → Result (ReadLines R) Refusal
  others rest next = kept_dates line is_plus next (slice_split (is_date_separator takes_semicolons) rest)

  -- one value is kept
  pub goes_on : (next : ReadLines R) (text piece rest : List ℕ) (all : Result (ReadLines R) Refusal) → IsDateCut takes_semicolons text piece rest
      → kept_date line is_plus read piece ≡ Ok next → kept text ≡ all → others rest next ≡ all
  goes_on next text piece rest all cut one so_far =
      ap (λ (m : Result (ReadLines R) Refusal). m >>= others rest) (sym one) ∙ ap (kept_dates line is_plus read) (sym cut.values) ∙ so_far

  -- one value is refused
  pub ends : (text piece rest : List ℕ) (fault : Fault) (all : Result (ReadLines R) Refusal) → IsDateCut takes_semicolons text piece rest
      → Answers (kept_date line is_plus read piece) (Err fault) → kept text ≡ all → Answers all (Err fault)
  ends text piece rest (Refused refusal) all cut refused so_far =
      sym so_far ∙ ap (kept_dates line is_plus read) cut.values ∙ ap (λ (m : Result (ReadLines R) Refusal). m >>= others rest) refused
  ends text piece rest NoMemory all cut refused so_far = tt

  -- the last value
  pub last : (text : List ℕ) (all : Result (ReadLines R) Refusal) → slice_split (is_date_separator takes_semicolons) text ≡ text ∷ [] → kept text ≡ all
      → kept_date line is_plus read text ≡ all
  last text all one so_far = step_done (kept_date line is_plus read text) ∙ ap (kept_dates line is_plus read) (sym one) ∙ so_far
