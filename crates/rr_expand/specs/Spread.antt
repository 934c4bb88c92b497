-- The seconds that hours, minutes and seconds name together.
use Rattle.std.specs.Prelude.{ℕ, ◌+◌, ◌*◌, ◌/◌, ◌%◌, ◌&&◌, if◌then◌else◌, List, [], ◌∷◌, ◌++◌, pos}
use Rattle.rr_model.specs.Rule.Candidate.{allows}
use Rattle.rr_model.specs.declared.rule.Freq.{Freq}
use Rattle.rr_model.specs.declared.rule.Freq.TheVariants.{Minutely, Hourly}
use Rattle.rr_model.specs.declared.rule.Rule.{Rule}

-- the listed seconds of the minute that begins at the second `base` of the day
unfoldable pub of_minute : ℕ → List ℕ → List ℕ
of_minute base [] = []
of_minute base (s ∷ ss) = (base + s) ∷ of_minute base ss

-- the listed seconds of the listed minutes of the hour that begins at the second `base` of the day
unfoldable pub of_hour : ℕ → List ℕ → List ℕ → List ℕ
of_hour base [] ss = []
of_hour base (m ∷ ms) ss = of_minute (base + 60 * m) ss ++ of_hour base ms ss

-- the listed seconds of the listed minutes of the listed hours of a day
unfoldable pub of_day : List ℕ → List ℕ → List ℕ → List ℕ
of_day [] ms ss = []
of_day (h ∷ hs) ms ss = of_hour (3_600 * h) ms ss ++ of_day hs ms ss

-- the listed seconds of the listed minutes of an hour, if BYHOUR allows the hour; otherwise none
abbrev pub of_hour_number : Rule → ℕ → List ℕ → List ℕ → List ℕ
of_hour_number rule hour ms ss = if allows rule.by_hour (pos hour) then of_hour (3_600 * hour) ms ss else []

-- the listed seconds of a minute of the day, if BYHOUR and BYMINUTE allow the minute; otherwise none
abbrev pub of_minute_number : Rule → ℕ → List ℕ → List ℕ
of_minute_number rule minute ss =
    if allows rule.by_hour (pos (minute / 60)) && allows rule.by_minute (pos (minute % 60)) then of_minute (60 * minute) ss else []

-- a second of the day that BYHOUR, BYMINUTE and BYSECOND allow
abbrev pub of_second_number : Rule → ℕ → List ℕ
of_second_number rule second =
    if allows rule.by_hour (pos (second / 3_600)) && allows rule.by_minute (pos (second / 60 % 60))
    && allows rule.by_second (pos (second % 60)) then second ∷ [] else []

-- the listed seconds of the hour or minute of this number in its day, or the second of this number, if the time parts allow it; otherwise none
abbrev pub of_unit : Freq → Rule → ℕ → List ℕ → List ℕ → List ℕ
of_unit Hourly rule unit ms ss = of_hour_number rule unit ms ss
of_unit Minutely rule unit ms ss = of_minute_number rule unit ss
of_unit freq rule unit ms ss = of_second_number rule unit
