-- Worked cases of candidate days and candidate seconds of a day (RFC 5545, section 3.3.10).
use Rattle.std.proofs.Common.{◌≡◌, true, false, [], ◌∷◌, pos, refl}
use Rattle.rr_model.specs.Rule.DaysAndTimes.{time_holds, day_holds}
use Rattle.rr_model.specs.Rule.Plain.{plain_rule}
use Rattle.rr_model.specs.declared.kind.Kind.TheVariants.{Moments}
use Rattle.rr_model.specs.declared.rule.Freq.TheVariants.{Daily}
use Rattle.rr_model.specs.declared.rule.Rule.{Rule}

-- FREQ=DAILY;INTERVAL=2;BYHOUR=9,17
abbrev office : Rule
office = record (plain_rule Daily 2) { by_hour = pos 9 ∷ pos 17 ∷ [] }

-- from 2024-01-01T09:30:00 on: 09:30:00 and 17:30:00, and not 09:00:00
of_times :
    (time_holds office Moments (pos 1_704_101_400) 34_200 ∷ time_holds office Moments (pos 1_704_101_400) 63_000 ∷ time_holds office Moments
    (pos 1_704_101_400) 32_400 ∷ [])
    ≡ (true ∷ true ∷ false ∷ [])
of_times = refl

-- every second day from 2024-01-01 on
of_days : (day_holds office (pos 19_723) (pos 19_725) ∷ day_holds office (pos 19_723) (pos 19_726) ∷ []) ≡ (true ∷ false ∷ [])
of_days = refl
