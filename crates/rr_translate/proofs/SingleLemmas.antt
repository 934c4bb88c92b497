-- The texts of the first single rule state the occurrences of its set.
use Rattle.std.proofs.Common.{◌≡◌, true, [], ◌∷◌, All, None, ℤ, refl, sym, subst, inl, inr, arith}
use Rattle.std.proofs.lemmas.List.Elements.{All-nil, All-cons}
use Rattle.rr_family.specs.Profile.{IsFirstRule, IsProfileEnd, VcalOccurrences}
use Rattle.rr_family.proofs.OrderLemmas.{list_items_rise}
use Rattle.rr_model.specs.Moment.{Occurrences, day_part}
use Rattle.rr_model.specs.Moment.Years.{IsInYears}
use Rattle.rr_model.specs.Rising.{Rises}
use Rattle.rr_model.specs.Rule.Validity.{EndsInYears}
use Rattle.rr_model.specs.Series.Occurrences.{Occurs}
use Rattle.rr_model.specs.Series.Soundness.{EndsNotBefore, FitsStart, first_refusal}
use Rattle.rr_model.specs.Series.Validity.{IsValidSeries}
use Rattle.rr_model.specs.Sets.Verdict.{HaveEqualOccurrences}
use Rattle.rr_model.specs.Text.WriteLaws.{IsOneEnd}
use Rattle.rr_model.specs.Text.Written.{calendar_written}
use Rattle.rr_model.specs.Vcal.Counterpart.{rule_of_vrule, series_of_vseries}
use Rattle.rr_model.specs.Vcal.Items.{item_lt}
use Rattle.rr_model.specs.Vcal.Laws.{IsWritable}
use Rattle.rr_model.specs.Vcal.Members.{IsVcalMember, OccursInVseries}
use Rattle.rr_model.specs.Vcal.Validity.{IsValidVRule, IsValidVSeries}
use Rattle.rr_model.specs.Vcal.Written.{vcal_written}
use Rattle.rr_model.specs.declared.kind.Kind.{Kind}
use Rattle.rr_model.specs.declared.lang.Lang.TheVariants.{Vcal}
use Rattle.rr_model.specs.declared.rule.End.{End}
use Rattle.rr_model.specs.declared.rule.End.TheVariants.{Never, Until, Count, Both}
use Rattle.rr_model.specs.declared.rule.Rule.{Rule}
use Rattle.rr_model.specs.declared.vcal.VRule.{VRule}
use Rattle.rr_model.specs.declared.vcal.VSeries.{VSeries}
use Rattle.rr_model.proofs.RisingSetLemmas.{Contains-none}
use Rattle.rr_vcal_laws.proofs.CounterpartProofs.{counterpart_has_members}
use Rattle.rr_rrule.proofs.WrittenSeriesLemmas.{calendar_is_read_back}
use Rattle.rr_vcal.proofs.OccurrenceLemmas.{counterpart_has_occurrences}
use Rattle.rr_vcal.proofs.ReadBackProofs.{vcal_read_back}
use Rattle.rr_translate.specs.Target.{States}
use Rattle.rr_translate.specs.Translated.{IsInferredText, IsVcalText, vseries_of}
use Rattle.rr_translate.proofs.SoundLemmas.{rules_none}

-- ---- the end of such a rule

end_in_years : (end : End) → IsProfileEnd end → EndsInYears end
end_in_years Never e = tt
end_in_years (Count n) e = tt
end_in_years (Until kind at) e = absurd e
end_in_years (Both kind at n) e = absurd e

end_not_before : (kind : Kind) (start : ℤ) (end : End) → IsProfileEnd end → EndsNotBefore kind start end
end_not_before kind start Never e = tt
end_not_before kind start (Count n) e = tt
end_not_before kind start (Until other at) e = absurd e
end_not_before kind start (Both other at n) e = absurd e

end_is_one : (end : End) → IsProfileEnd end → IsOneEnd end
end_is_one Never e = tt
end_is_one (Count n) e = tt
end_is_one (Until kind at) e = tt
end_is_one (Both kind at n) e = absurd e

module _ (P : Occurrences) (rule : VRule) (kind : Kind) (start : ℤ) (first : IsFirstRule P rule kind start) where
  -- the series with the rule alone
  abbrev single : VSeries
  single = vseries_of rule kind start

  -- its counterpart
  abbrev counterpart : Rule
  counterpart = rule_of_vrule rule kind start

  pub single_is_valid : IsValidVSeries single
  single_is_valid = record {
    start = first.is_rule.years;
    rules = All-cons IsValidVRule rule [] first.is_rule.valid (All-nil IsValidVRule);
    excluded = All-nil IsValidVRule;
    few_rules = omega arith;
    ends = All-cons (λ rule. EndsInYears rule.end) rule [] (end_in_years rule.end first.is_rule.end) (All-nil (λ rule. EndsInYears rule.end));
    excluded_ends = All-nil (λ rule. EndsInYears rule.end);
    plus = All-nil (IsInYears kind);
    minus = All-nil (IsInYears kind);
    few_dates = omega arith;
  }

  single_is_writable : IsWritable single
  single_is_writable = record {
    items =
        All-cons (λ rule. Rises item_lt rule.items) rule []
        (subst (Rises item_lt) (sym first.items) (list_items_rise first.sketch rule.family rule.interval (day_part kind start) first.days))
        (All-nil (λ rule. Rises item_lt rule.items));
    excluded = All-nil (λ rule. Rises item_lt rule.items);
    plus = tt;
    minus = tt;
  }

  same_rules : (series_of_vseries single).rules ≡ counterpart ∷ []
  unfolding series_of_vseries
  same_rules = refl

  same_end : counterpart.end ≡ rule.end
  unfolding rule_of_vrule
  same_end = refl

  fits : FitsStart kind start counterpart
  fits = record {
    synchronised = ((counterpart_has_members rule kind start start first.is_rule.valid).0 first.is_rule.begins).chosen;
    end = subst (EndsNotBefore kind start) (sym same_end) (end_not_before kind start rule.end first.is_rule.end);
  }

  sound : first_refusal (series_of_vseries single) ≡ None
  unfolding series_of_vseries
  sound = rw (rules_none 1 kind start (counterpart ∷ []) (All-cons (FitsStart kind start) counterpart [] fits (All-nil (FitsStart kind start)))) refl

  occurs_single : HaveEqualOccurrences (OccursInVseries single) (VcalOccurrences rule kind start)
  occurs_single k t = (
    λ o. (
      o.same_kind,
      elim o.given [
        | inl e ↦ subst (IsVcalMember rule kind start) (sym e) first.is_rule.begins
        | inr x ↦ elim x [ inl y ↦ elim y [ inl m ↦ m | inr none ↦ absurd none ] | inr c ↦ absurd (Contains-none t c) ]
      ],
    ),
    λ m. record { same_kind = m.0; given = inr (inl (inl m.1)); kept = λ c. Contains-none t c; not_excluded = λ x. x },
  )

  equal : HaveEqualOccurrences (Occurs (series_of_vseries single)) P
  equal k t =
      let a = counterpart_has_occurrences single k t single_is_valid in
      let b = occurs_single k t in
      let c = first.is_rule.equal k t in
      (λ o. c.0 (b.0 (a.1 o)), λ p. a.0 (b.1 (c.1 p)))

  vcal_states : States Vcal P (vcal_written single)
  vcal_states = record {
    series = series_of_vseries single;
    is_read = rw (vcal_read_back single single_is_valid single_is_writable) refl;
    sound = sound;
    equal = equal;
  }

  -- the rule in the words of vCalendar 1.0
  pub is_vcal_text : IsVcalText P (vcal_written single)
  is_vcal_text = record { rule = rule; kind = kind; start = start; is_first = first; written = refl; states = vcal_states }

  pub one_end : All (λ rule. IsOneEnd rule.end) (series_of_vseries single).rules
  unfolding series_of_vseries
  one_end =
      All-cons (λ rule. IsOneEnd rule.end) counterpart [] (subst IsOneEnd (sym same_end) (end_is_one rule.end first.is_rule.end))
      (All-nil (λ rule. IsOneEnd rule.end))

  pub no_excluded : All (λ rule. IsOneEnd rule.end) (series_of_vseries single).excluded
  unfolding series_of_vseries
  no_excluded = All-nil (λ rule. IsOneEnd rule.end)

  start_counts : (series_of_vseries single).start_counts ≡ true
  unfolding series_of_vseries
  start_counts = refl

  -- the same rule in the words of RFC 5545
  pub is_inferred_text : IsValidSeries (series_of_vseries single) → IsInferredText P (calendar_written (series_of_vseries single))
  is_inferred_text valid = record {
    rule = rule;
    kind = kind;
    start = start;
    is_first = first;
    written = refl;
    states = record {
      series = series_of_vseries single;
      is_read = calendar_is_read_back (series_of_vseries single) valid start_counts one_end no_excluded;
      sound = sound;
      equal = equal;
    };
  }
