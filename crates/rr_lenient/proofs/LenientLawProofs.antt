-- What is known of series that are read leniently.
use Rattle.std.proofs.Common.{◌≡◌, ℕ, suc, true, false, not, Option, None, Some, List, [], ◌∷◌, ℤ, refl, sym, ap, ◌∙◌, subst}
use Rattle.std.specs.Option.{option_or}
use Rattle.std.proofs.lemmas.Bool.{or_from}
use Rattle.rr_model.specs.Moment.{is_same_kind}
use Rattle.rr_model.specs.Series.Soundness.{until_refusal, end_refusal, choice_refusal, rule_refusal, rules_refusal, ends_refusal, first_refusal}
use Rattle.rr_model.specs.declared.kind.Kind.{Kind}
use Rattle.rr_model.specs.declared.kind.Kind.TheVariants.{Days, Moments}
use Rattle.rr_model.specs.declared.refusal.Refusal.{Refusal}
use Rattle.rr_model.specs.declared.rule.End.{End}
use Rattle.rr_model.specs.declared.rule.End.TheVariants.{Never, Until, Count, Both}
use Rattle.rr_model.specs.declared.rule.Rule.{Rule}
use Rattle.rr_model.specs.declared.rule.Series.{Series}
use Rattle.rr_start.specs.Laws.{RereadIsOne, RereadIsTaken, RereadOccurs, TakenIsNotOff}
use Rattle.rr_start.specs.Start.{IsStartOff}
use Rattle.rr_lenient.specs.Ends.{is_other_end, any_other_end, has_other_end, with_ends_of_kind}
use Rattle.rr_lenient.specs.LenientLaws.{LenientIsOne, LenientIsTaken, LenientOccurs, TakenIsAsGiven}
use Rattle.rr_lenient.proofs.EndLawProofs.{no_other_end_is_left}
use Rattle.rr_lenient.proofs.EndLemmas.{series_stays, series_valid}

-- ---- a series that is not refused has each UNTIL of the start's kind

none_of_both : (a b : Option Refusal) → option_or a b ≡ None → (a ≡ None) × (b ≡ None)
none_of_both None b h = (refl, h)
none_of_both (Some refusal) b h = absurd (cc)

until_own : (kind other : Kind) (start at : ℤ) → until_refusal kind start other at ≡ None → not (is_same_kind kind other) ≡ false
until_own Days Days start at h = refl
until_own Moments Moments start at h = refl
until_own Days Moments start at h = absurd (cc)
until_own Moments Days start at h = absurd (cc)

end_own : (kind : Kind) (start : ℤ) (end : End) → end_refusal kind start end ≡ None → is_other_end kind end ≡ false
end_own kind start Never h = refl
end_own kind start (Count n) h = refl
end_own kind start (Until other at) h = until_own kind other start at h
end_own kind start (Both other at n) h = until_own kind other start at h

rules_own : (number : ℕ) (kind : Kind) (start : ℤ) (rules : List Rule) → rules_refusal number kind start rules ≡ None → any_other_end kind rules ≡ false
rules_own number kind start [] h = refl
rules_own number kind start (rule ∷ rules) h =
    let p = none_of_both (rule_refusal number kind start rule) (rules_refusal (suc number) kind start rules) h in
    let q = none_of_both (end_refusal kind start rule.end) (choice_refusal number kind start rule) p.0 in
    or_from _ _ (end_own kind start rule.end q.0) (rules_own (suc number) kind start rules p.1)

ends_own : (kind : Kind) (start : ℤ) (rules : List Rule) → ends_refusal kind start rules ≡ None → any_other_end kind rules ≡ false
ends_own kind start [] h = refl
ends_own kind start (rule ∷ rules) h =
    let p = none_of_both (end_refusal kind start rule.end) (ends_refusal kind start rules) h in
    or_from _ _ (end_own kind start rule.end p.0) (ends_own kind start rules p.1)

series_own : (series : Series) → first_refusal series ≡ None → has_other_end series ≡ false
series_own series h =
    let p = none_of_both (rules_refusal 1 series.kind series.start series.rules) (ends_refusal series.kind series.start series.excluded) h in
    or_from _ _ (rules_own 1 series.kind series.start series.rules p.0) (ends_own series.kind series.start series.excluded p.1)

-- ---- the laws

pub lenient_is_one : RereadIsOne → LenientIsOne
lenient_is_one one given read other until late start off h l =
    let e = one (with_ends_of_kind given) read other start off h.1 l.1 in
    (e.0, h.0 ∙ sym l.0, e.1)

pub taken_is_as_given : TakenIsNotOff → TakenIsAsGiven
taken_is_as_given never given read until true taken h =
    absurd (never given h.1.0 taken (subst (λ (s : Series). IsStartOff s h.1.0) (series_stays given (series_own given taken)) h.1.1))
taken_is_as_given never given read until false taken h =
    let none = series_own given taken in
    (h.1.0 ∙ series_stays given none, h.0 ∙ none, refl)

pub lenient_occurs : RereadOccurs → LenientOccurs
lenient_occurs same given read until start v h = same (with_ends_of_kind given) read start (series_valid given v) h.1

pub lenient_is_taken : RereadIsTaken → LenientIsTaken
lenient_is_taken taken given read until true v h =
    let none : first_refusal read ≡ None = taken (with_ends_of_kind given) read (series_valid given v) h.1 in
    (λ e. absurd (cc), λ off. none)
lenient_is_taken taken given read until false v h =
    (λ e. no_other_end_is_left given (ap first_refusal (sym h.1.0) ∙ e), λ off. absurd (cc))
