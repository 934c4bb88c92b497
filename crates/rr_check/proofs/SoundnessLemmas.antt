-- A series without a refusal is sound, and only that.
use Rattle.std.proofs.Common.{◌≡◌, ℕ, suc, Bool, true, false, cond, Option, None, Some, List, [], ◌∷◌, All, ℤ, int_lt, ◌≤ℤ◌, refl, arith}
use Rattle.std.proofs.lemmas.Int.{ints}
use Rattle.std.specs.Option.{option_or}
use Rattle.std.proofs.lemmas.List.Elements.{All-nil, All-cons}
use Rattle.rr_model.specs.Rule.Chosen.{is_chosen}
use Rattle.rr_model.specs.Series.Soundness.{until_refusal, end_refusal, choice_refusal, rule_refusal, rules_refusal, ends_refusal, EndsNotBefore, FitsStart}
use Rattle.rr_model.specs.declared.kind.Kind.{Kind}
use Rattle.rr_model.specs.declared.kind.Kind.TheVariants.{Days, Moments}
use Rattle.rr_model.specs.declared.refusal.Refusal.TheVariants.{UntilBeforeStart, NotSynchronised}
use Rattle.rr_model.specs.declared.rule.End.{End}
use Rattle.rr_model.specs.declared.rule.End.TheVariants.{Never, Until, Count, Both}
use Rattle.rr_model.specs.declared.rule.Rule.{Rule}

-- neither of two
pub or_none : {X : Type 0} (x y : Option X) → option_or x y ≡ None → (x ≡ None) × (y ≡ None)
or_none None y e = (refl, e)
or_none (Some x) y e = absurd (cc)

not_before : (start at : ℤ) (b : Bool) → int_lt at start ≡ b → cond b (Some UntilBeforeStart) None ≡ None → start ≤ℤ at
not_before start at true t e = absurd (cc)
not_before start at false t e = omega (arith, ints, t)

until_fits : (kind other : Kind) (start at : ℤ) → until_refusal kind start other at ≡ None → (other ≡ kind) × (start ≤ℤ at)
until_fits Days Days start at e = (refl, not_before start at (int_lt at start) refl e)
until_fits Moments Moments start at e = (refl, not_before start at (int_lt at start) refl e)
until_fits Days Moments start at e = absurd (cc)
until_fits Moments Days start at e = absurd (cc)

pub end_fits : (kind : Kind) (start : ℤ) (end : End) → end_refusal kind start end ≡ None → EndsNotBefore kind start end
end_fits kind start Never e = tt
end_fits kind start (Until other at) e = until_fits kind other start at e
end_fits kind start (Count count) e = tt
end_fits kind start (Both other at count) e = until_fits kind other start at e

chooses : (number : ℕ) (b : Bool) → cond b None (Some (NotSynchronised number)) ≡ None → b ≡ true
chooses number true e = refl
chooses number false e = absurd (cc)

pub rules_fit : (number : ℕ) (kind : Kind) (start : ℤ) (rules : List Rule) → rules_refusal number kind start rules ≡ None → All (FitsStart kind start) rules
rules_fit number kind start [] e = All-nil (FitsStart kind start)
rules_fit number kind start (rule ∷ rules) e =
    let both = or_none (rule_refusal number kind start rule) (rules_refusal (suc number) kind start rules) e in
    let two = or_none (end_refusal kind start rule.end) (choice_refusal number kind start rule) both.0 in
    let first : FitsStart kind start rule =
    record { synchronised = chooses number (is_chosen rule kind start start) two.1; end = end_fits kind start rule.end two.0 } in
    All-cons (FitsStart kind start) rule rules first (rules_fit (suc number) kind start rules both.1)

pub ends_fit : (kind : Kind) (start : ℤ) (rules : List Rule) → ends_refusal kind start rules ≡ None → All (λ rule. EndsNotBefore kind start rule.end) rules
ends_fit kind start [] e = All-nil (λ rule. EndsNotBefore kind start rule.end)
ends_fit kind start (rule ∷ rules) e =
    let both = or_none (end_refusal kind start rule.end) (ends_refusal kind start rules) e in
    All-cons (λ r. EndsNotBefore kind start r.end) rule rules (end_fits kind start rule.end both.0) (ends_fit kind start rules both.1)
