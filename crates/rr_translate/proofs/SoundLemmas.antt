-- A sound series has no refusal.
use Rattle.std.proofs.Common.{◌≡◌, ℕ, suc, false, None, List, [], ◌∷◌, All, ℤ, ◌≤ℤ◌, refl, arith}
use Rattle.std.specs.Prelude.{int_lt}
use Rattle.std.proofs.lemmas.Int.{ints}
use Rattle.std.proofs.lemmas.List.Elements.{All-head, All-tail}
use Rattle.rr_model.specs.Series.Soundness.{end_refusal, ends_refusal, first_refusal, rules_refusal, until_refusal, EndsNotBefore, FitsStart, IsSound}
use Rattle.rr_model.specs.declared.kind.Kind.{Kind}
use Rattle.rr_model.specs.declared.kind.Kind.TheVariants.{Days, Moments}
use Rattle.rr_model.specs.declared.rule.End.{End}
use Rattle.rr_model.specs.declared.rule.End.TheVariants.{Never, Until, Count, Both}
use Rattle.rr_model.specs.declared.rule.Rule.{Rule}
use Rattle.rr_model.specs.declared.rule.Series.{Series}

until_none : (kind other : Kind) (start at : ℤ) → other ≡ kind → start ≤ℤ at → until_refusal kind start other at ≡ None
until_none Days Days start at e l = let b : int_lt at start ≡ false = grind (arith, ints) in rw b refl
until_none Moments Moments start at e l = let b : int_lt at start ≡ false = grind (arith, ints) in rw b refl
until_none Days Moments start at e l = absurd (cc)
until_none Moments Days start at e l = absurd (cc)

end_none : (kind : Kind) (start : ℤ) (end : End) → EndsNotBefore kind start end → end_refusal kind start end ≡ None
end_none kind start Never f = refl
end_none kind start (Until other at) f = until_none kind other start at f.0 f.1
end_none kind start (Count count) f = refl
end_none kind start (Both other at count) f = until_none kind other start at f.0 f.1

pub rules_none : (number : ℕ) (kind : Kind) (start : ℤ) (rules : List Rule) → All (FitsStart kind start) rules → rules_refusal number kind start rules ≡ None
rules_none number kind start [] fit = refl
rules_none number kind start (rule ∷ rules) fit =
    let f = All-head (FitsStart kind start) rule rules fit in
    rw (end_none kind start rule.end f.end, f.synchronised, rules_none (suc number) kind start rules (All-tail (FitsStart kind start) rule rules fit)) refl

ends_none : (kind : Kind) (start : ℤ) (rules : List Rule) → All (λ rule. EndsNotBefore kind start rule.end) rules → ends_refusal kind start rules ≡ None
ends_none kind start [] fit = refl
ends_none kind start (rule ∷ rules) fit =
    let f = All-head (λ r. EndsNotBefore kind start r.end) rule rules fit in
    rw (end_none kind start rule.end f, ends_none kind start rules (All-tail (λ r. EndsNotBefore kind start r.end) rule rules fit)) refl

pub sound_is_not_refused : (series : Series) → IsSound series → first_refusal series ≡ None
sound_is_not_refused series s =
    rw (rules_none 1 series.kind series.start series.rules s.rules, ends_none series.kind series.start series.excluded s.excluded) refl
