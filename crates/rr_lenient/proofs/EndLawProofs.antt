-- What is known of an UNTIL of another kind than the start.
use Rattle.std.proofs.Common.{◌≡◌, ◌≢◌, inl, inr, ℕ, suc, Bool, true, false, not, if◌then◌else◌, Option, None, Some, List, [], ◌∷◌, ℤ, sym, ap, ◌∙◌, arith}
use Rattle.std.specs.Prelude.{int_lt}
use Rattle.std.specs.Option.{option_or}
use Rattle.std.proofs.lemmas.Bool.{cases_Bool, false≢true, or_parts}
use Rattle.std.proofs.lemmas.Int.{ints}
use Rattle.rr_model.specs.Moment.{is_same_kind}
use Rattle.rr_model.specs.Rule.Chosen.{is_chosen}
use Rattle.rr_model.specs.Series.Soundness.{until_refusal, end_refusal, choice_refusal, rule_refusal, rules_refusal, ends_refusal, first_refusal}
use Rattle.rr_model.specs.declared.kind.Kind.{Kind}
use Rattle.rr_model.specs.declared.kind.Kind.TheVariants.{Days, Moments}
use Rattle.rr_model.specs.declared.refusal.Refusal.{Refusal}
use Rattle.rr_model.specs.declared.refusal.Refusal.TheVariants.{UntilKind, UntilBeforeStart, NotSynchronised}
use Rattle.rr_model.specs.declared.rule.End.{End}
use Rattle.rr_model.specs.declared.rule.End.TheVariants.{Never, Until, Count, Both}
use Rattle.rr_model.specs.declared.rule.Rule.{Rule}
use Rattle.rr_model.specs.declared.rule.Series.{Series}
use Rattle.rr_model.proofs.WholeLemmas.{floor_whole, floor_mod_below}
use Rattle.rr_lenient.specs.Ends.{is_other_end, any_other_end, has_other_end, with_ends_of_kind}
use Rattle.rr_lenient.specs.EndLaws.{EndIsReachedOnItsDay, NoOtherEndIsLeft, OtherEndsChange, UntilKindIsOtherEnd}
use Rattle.rr_lenient.proofs.EndLemmas.{series_stays, series_settled}

-- ---- refusals other than for the kind of an UNTIL

or_not : (a b : Option Refusal) → a ≢ Some UntilKind → b ≢ Some UntilKind → option_or a b ≢ Some UntilKind
or_not None b h l = l
or_not (Some refusal) b h l = h

before_not : (b : Bool) → (if b then Some UntilBeforeStart else None) ≢ Some UntilKind
before_not true e = absurd (cc)
before_not false e = absurd (cc)

until_not : (kind other : Kind) (start at : ℤ) → not (is_same_kind kind other) ≡ false → until_refusal kind start other at ≢ Some UntilKind
until_not Days Days start at h = before_not (int_lt at start)
until_not Moments Moments start at h = before_not (int_lt at start)
until_not Days Moments start at h = absurd (cc)
until_not Moments Days start at h = absurd (cc)

end_not : (kind : Kind) (start : ℤ) (end : End) → is_other_end kind end ≡ false → end_refusal kind start end ≢ Some UntilKind
end_not kind start Never h e = absurd (cc)
end_not kind start (Count n) h e = absurd (cc)
end_not kind start (Until other at) h e = until_not kind other start at h e
end_not kind start (Both other at n) h e = until_not kind other start at h e

choice_not : (b : Bool) (number : ℕ) → (if b then None else Some (NotSynchronised number)) ≢ Some UntilKind
choice_not true number e = absurd (cc)
choice_not false number e = absurd (cc)

rules_not : (number : ℕ) (kind : Kind) (start : ℤ) (rules : List Rule) → any_other_end kind rules ≡ false
    → rules_refusal number kind start rules ≢ Some UntilKind
rules_not number kind start [] h e = absurd (cc)
rules_not number kind start (rule ∷ rules) h e =
    let p = or_parts (is_other_end kind rule.end) (any_other_end kind rules) h in
    or_not (rule_refusal number kind start rule) (rules_refusal (suc number) kind start rules)
    (or_not (end_refusal kind start rule.end) (choice_refusal number kind start rule) (end_not kind start rule.end p.0)
    (choice_not (is_chosen rule kind start start) number)) (rules_not (suc number) kind start rules p.1) e

ends_not : (kind : Kind) (start : ℤ) (rules : List Rule) → any_other_end kind rules ≡ false → ends_refusal kind start rules ≢ Some UntilKind
ends_not kind start [] h e = absurd (cc)
ends_not kind start (rule ∷ rules) h e =
    let p = or_parts (is_other_end kind rule.end) (any_other_end kind rules) h in
    or_not (end_refusal kind start rule.end) (ends_refusal kind start rules) (end_not kind start rule.end p.0) (ends_not kind start rules p.1) e

series_not : (series : Series) → has_other_end series ≡ false → first_refusal series ≢ Some UntilKind
series_not series h =
    let p = or_parts (any_other_end series.kind series.rules) (any_other_end series.kind series.excluded) h in
    or_not (rules_refusal 1 series.kind series.start series.rules) (ends_refusal series.kind series.start series.excluded)
    (rules_not 1 series.kind series.start series.rules p.0) (ends_not series.kind series.start series.excluded p.1)

-- ---- the laws

pub no_other_end_is_left : NoOtherEndIsLeft
no_other_end_is_left series = series_not (with_ends_of_kind series) (series_settled series)

pub other_ends_change : OtherEndsChange
other_ends_change series = (
  λ other same. absurd (false≢true (sym (series_settled series) ∙ ap has_other_end same ∙ other)),
  λ changed. elim (cases_Bool (has_other_end series)) [ inl other ↦ other | inr none ↦ absurd (changed (series_stays series none)) ],
)

pub until_kind_is_other_end : UntilKindIsOtherEnd
until_kind_is_other_end series refused =
    elim (cases_Bool (has_other_end series)) [ inl other ↦ other | inr none ↦ absurd (series_not series none refused) ]

pub end_is_reached_on_its_day : EndIsReachedOnItsDay
end_is_reached_on_its_day Days Days at t h = absurd (cc)
end_is_reached_on_its_day Moments Moments at t h = absurd (cc)
end_is_reached_on_its_day Days Moments at t h = (λ l. l, λ l. l)
end_is_reached_on_its_day Moments Days at t h =
    let w = floor_whole t 86_400 (omega arith) in
    let b = floor_mod_below t 86_400 (omega arith) in
    (λ l. omega (arith, ints, w, b, l), λ l. omega (arith, ints, w, b, l))
