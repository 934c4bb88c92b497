-- An observance that is read is sound.
use Rattle.std.proofs.Common.{◌≡◌, true, ◌&&◌, ℤ, All, get_or, refl, subst, arith}
use Rattle.std.specs.Prelude.{int_le}
use Rattle.std.specs.List.{list_all}
use Rattle.std.proofs.lemmas.Bool.{and_parts, false≢true}
use Rattle.std.proofs.lemmas.Int.{ints}
use Rattle.std.proofs.lemmas.List.Sums.{AllPass-from_list_all}
use Rattle.rr_model.specs.Moment.{is_same_kind}
use Rattle.rr_model.specs.Moment.Years.{IsInYears}
use Rattle.rr_model.specs.Rule.Validity.{IsValidRule, is_absent}
use Rattle.rr_model.specs.Series.Soundness.{EndsNotBefore}
use Rattle.rr_model.specs.Series.Validity.{IsValidSeries}
use Rattle.rr_model.specs.declared.kind.Kind.{Kind}
use Rattle.rr_model.specs.declared.kind.Kind.TheVariants.{Days, Moments}
use Rattle.rr_model.specs.declared.rule.End.{End}
use Rattle.rr_model.specs.declared.rule.End.TheVariants.{Never, Until, Count, Both}
use Rattle.rr_model.specs.declared.rule.Rule.{Rule}
use Rattle.rr_model.specs.declared.rule.Series.{Series}
use Rattle.rr_zone.specs.Observances.{IsSoundObservance, ends_not_before, is_yearly, is_zone_rule, is_zone_series}
use Rattle.rr_zone.specs.Offsets.{IsBelowDay}

moments : (kind : Kind) → is_same_kind kind Moments ≡ true → kind ≡ Moments
moments Days e = absurd (false≢true e)
moments Moments e = refl

until : (kind : Kind) (start at : ℤ) → (is_same_kind kind Moments && int_le start at) ≡ true → EndsNotBefore Moments start (Until kind at)
until kind start at e =
    let p = and_parts (is_same_kind kind Moments) (int_le start at) e in
    let q = p.1 in
    (moments kind p.0, omega (arith, ints, q))

ends : (start : ℤ) (end : End) → ends_not_before start end ≡ true → EndsNotBefore Moments start end
ends start Never e = tt
ends start (Until kind at) e = until kind start at e
ends start (Count count) e = tt
ends start (Both kind at count) e = until kind start at e

ends_of : (start : ℤ) (rule : Rule) → is_zone_rule start rule ≡ true → EndsNotBefore Moments start rule.end
ends_of start rule e =
    ends start rule.end (and_parts (is_yearly rule.freq && is_absent rule.by_hour && is_absent rule.by_minute && is_absent rule.by_second)
    (ends_not_before start rule.end) e).1

-- a valid series that is one of onsets makes a sound observance
pub series-sound : (series : Series) (from to : ℤ) → is_zone_series series ≡ true → IsValidSeries series → IsBelowDay from → IsBelowDay to
    → IsSoundObservance (record { series = series; from = from; to = to })
series-sound series from to e valid low high = record {
  kind = kind;
  valid = valid;
  rules = λ k d l. record {
    valid = subst (λ x. IsValidRule x (get_or series.rules k d)) kind (valid.rules k d l);
    in_years = subst (λ x. IsInYears x series.start) kind valid.start;
    ends_in_years = valid.ends k d l;
    end = ends_of series.start (get_or series.rules k d) (rules k d l);
  };
  from = low;
  to = high;
}
  where
    parts : ((is_same_kind series.kind Moments && is_absent series.excluded && is_absent series.minus) ≡ true)
        × (list_all (is_zone_rule series.start) series.rules ≡ true)
    parts = and_parts (is_same_kind series.kind Moments && is_absent series.excluded && is_absent series.minus)
        (list_all (is_zone_rule series.start) series.rules) e

    kind : series.kind ≡ Moments
    kind = moments series.kind (and_parts (is_same_kind series.kind Moments) (is_absent series.excluded)
        (and_parts (is_same_kind series.kind Moments && is_absent series.excluded) (is_absent series.minus) parts.0).0).0

    rules : All (λ rule. is_zone_rule series.start rule ≡ true) series.rules
    rules = AllPass-from_list_all (is_zone_rule series.start) series.rules parts.1
