-- Worked cases of an UNTIL of another kind than the start.
use Rattle.std.proofs.Common.{◌≡◌, true, false, pos, neg_ℤ, refl}
use Rattle.rr_model.specs.declared.kind.Kind.TheVariants.{Days, Moments}
use Rattle.rr_model.specs.declared.rule.End.TheVariants.{Never, Until, Both}
use Rattle.rr_lenient.specs.Ends.{end_of_kind, is_other_end, until_of_kind}

-- UNTIL=19971224 beside DTSTART:19970902T090000 is UNTIL=19971224T235959, and UNTIL=19971224T090000 beside DTSTART;VALUE=DATE:19970902 is UNTIL=19971224
of_the_eve : (until_of_kind Moments Days (pos 10_219) ≡ pos 883_007_999) × (until_of_kind Days Moments (pos 882_954_000) ≡ pos 10_219)
of_the_eve = (refl, refl)

-- before 1970 too: the day before it ends with the second before it
of_the_day_before : (until_of_kind Moments Days (neg_ℤ (pos 1)) ≡ neg_ℤ (pos 1)) × (until_of_kind Days Moments (neg_ℤ (pos 1)) ≡ neg_ℤ (pos 1))
of_the_day_before = (refl, refl)

-- a COUNT beside it stays
of_counts : end_of_kind Moments (Both Days (pos 0) 5) ≡ Both Moments (pos 86_399) 5
of_counts = refl

of_others : (is_other_end Days (Until Moments (pos 0)) ≡ true) × (is_other_end Days (Until Days (pos 0)) ≡ false) × (is_other_end Days Never ≡ false)
of_others = (refl, refl, refl)
