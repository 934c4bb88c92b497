-- Worked cases of moments, units, sizes and printed refusals.
use Rattle.std.proofs.Common.{◌≡◌, true, false, [], ◌∷◌, pos, neg_ℤ, refl}
use Rattle.std.specs.Prelude.{codes}
use Rattle.std.specs.Fmt.{digits}
use Rattle.rr_model.specs.Calendar.Laws.{later_day, later_year, later_week}
use Rattle.rr_model.specs.Moment.{is_same_kind, day_part, second_part, moment_at, instant_of}
use Rattle.rr_model.specs.Moment.Units.{is_whole_days, unit_seconds}
use Rattle.rr_model.specs.Sets.Sizes.{total_size}
use Rattle.rr_model.specs.Text.Refusals.{refusal_text}
use Rattle.rr_model.specs.declared.kind.Kind.TheVariants.{Days, Moments}
use Rattle.rr_model.specs.declared.refusal.Refusal.TheVariants.{BadLine, NotSynchronised, CycleTooLong}
use Rattle.rr_model.specs.declared.rule.Freq.TheVariants.{Secondly, Hourly, Daily}

-- the second before 1970-01-01 is the last of its day
of_parts :
    (day_part Moments (neg_ℤ (pos 1)) ≡ neg_ℤ (pos 1)) × (second_part Moments (neg_ℤ (pos 1)) ≡ 86_399)
    × (moment_at Moments (neg_ℤ (pos 1)) 86_399 ≡ neg_ℤ (pos 1))
of_parts = (refl, refl, refl)

-- a date lies at its midnight
of_instants : (instant_of Days (pos 2) ≡ pos 172_800) × (instant_of Moments (pos 172_800) ≡ pos 172_800) × (is_same_kind Days Moments ≡ false)
of_instants = (refl, refl, refl)

of_units : (is_whole_days Daily ≡ true) × (is_whole_days Hourly ≡ false) × (unit_seconds Hourly ≡ 3_600) × (unit_seconds Secondly ≡ 1)
of_units = (refl, refl, refl, refl)

-- one cycle of the calendar later, and one earlier
of_cycles : (later_day (pos 1) (pos 0) ≡ pos 146_097) × (later_year (neg_ℤ (pos 1)) (pos 2024) ≡ pos 1624) × (later_week (pos 1) (pos 1) ≡ pos 20_872)
of_cycles = (refl, refl, refl)

of_sizes : total_size ((0 ∷ []) ∷ (1 ∷ 2 ∷ []) ∷ []) ≡ 3
of_sizes = refl

of_refusals :
    (refusal_text (BadLine 12) ≡ codes "BadLine 12") × (refusal_text (NotSynchronised 2) ≡ codes "NotSynchronised 2")
    × (refusal_text CycleTooLong ≡ codes "CycleTooLong")
unfolding digits
of_refusals = (refl, refl, refl)
