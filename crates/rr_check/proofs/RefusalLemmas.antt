-- The first refusal of rules, rule by rule.
use Rattle.std.proofs.Common.{◌≡◌, ℕ, suc, ◌+◌, true, false, Option, None, Some, List, ◌∷◌, drop, ℤ, is_some, sym, ap, ◌∙◌, refl, arith}
use Rattle.std.specs.Option.{option_or}
use Rattle.std.proofs.lemmas.Bool.{false≢true}
use Rattle.rr_model.specs.Series.Soundness.{end_refusal, ends_refusal, rule_refusal, rules_refusal}
use Rattle.rr_model.specs.declared.kind.Kind.{Kind}
use Rattle.rr_model.specs.declared.rule.Rule.{Rule}

or_some : {X : Type 0} (x y : Option X) → is_some x ≡ true → option_or x y ≡ x
or_some None y e = absurd (false≢true e)
or_some (Some x) y e = refl

or_other : {X : Type 0} (x y : Option X) → is_some x ≡ false → option_or x y ≡ y
or_other None y e = refl
or_other (Some x) y e = absurd (false≢true (sym e))

module _ (number i : ℕ) (kind : Kind) (start : ℤ) (rules : List Rule) (rule : Rule) (next : drop i rules ≡ rule ∷ drop (i + 1) rules) where
  this : rules_refusal number kind start (drop i rules)
      ≡ option_or (rule_refusal number kind start rule) (rules_refusal (suc number) kind start (drop (i + 1) rules))
  this = ap (rules_refusal number kind start) next

  -- the rule's own refusal
  pub refusal_is : is_some (rule_refusal number kind start rule) ≡ true → rules_refusal number kind start (drop i rules) ≡ rule_refusal number kind start rule
  refusal_is e = this ∙ or_some (rule_refusal number kind start rule) _ e

  -- or that of the rules after it
  pub refusal_later : is_some (rule_refusal number kind start rule) ≡ false
      → rules_refusal (number + 1) kind start (drop (i + 1) rules) ≡ rules_refusal number kind start (drop i rules)
  refusal_later e =
      let more : number + 1 ≡ suc number = omega arith in
      ap (λ n. rules_refusal n kind start (drop (i + 1) rules)) more ∙ sym (this ∙ or_other (rule_refusal number kind start rule) _ e)

module _ (i : ℕ) (kind : Kind) (start : ℤ) (rules : List Rule) (rule : Rule) (next : drop i rules ≡ rule ∷ drop (i + 1) rules) where
  of_this : ends_refusal kind start (drop i rules) ≡ option_or (end_refusal kind start rule.end) (ends_refusal kind start (drop (i + 1) rules))
  of_this = ap (ends_refusal kind start) next

  -- the end of an excluded rule is refused
  pub end_is : is_some (end_refusal kind start rule.end) ≡ true → ends_refusal kind start (drop i rules) ≡ end_refusal kind start rule.end
  end_is e = of_this ∙ or_some (end_refusal kind start rule.end) _ e

  -- or that of one after it
  pub end_later : is_some (end_refusal kind start rule.end) ≡ false → ends_refusal kind start (drop (i + 1) rules) ≡ ends_refusal kind start (drop i rules)
  end_later e = sym (of_this ∙ or_other (end_refusal kind start rule.end) _ e)
