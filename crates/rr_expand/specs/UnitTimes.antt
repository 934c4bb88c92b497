-- The minutes and seconds that the time parts allow in a unit that is shorter than a day.
use Rattle.std.specs.Prelude.{◌≡◌, ℕ, ◌<◌, Bool, true, false, IsTrue, List, [], nat_lt, ℤ}
use Rattle.rr_model.specs.Rising.Sets.{IsSetOf}
use Rattle.rr_model.specs.Rule.Filled.{minute_of, second_of, wants_minute, wants_second}
use Rattle.rr_model.specs.declared.kind.Kind.TheVariants.{Moments}
use Rattle.rr_model.specs.declared.rule.Rule.{Rule}
use Rattle.rr_parts.specs.Numbers.{number_allowed}

-- the numbers below `count` that a part allows; if it is absent and wanted, it has the start's own number alone
abbrev pub AreAllowedNumbers : Bool → List ℤ → ℕ → ℕ → List ℕ → Type 0
AreAllowedNumbers is_wanted part own count numbers = IsSetOf nat_lt numbers (λ n. (n < count) × IsTrue (number_allowed is_wanted part own n))

-- if a unit holds several of them: the numbers below 60 that a part allows, filled with the start's own number; otherwise none
abbrev pub AreNumbersOfUnit : Bool → List ℤ → ℕ → List ℕ → Type 0
AreNumbersOfUnit true part own numbers = AreAllowedNumbers true part own 60 numbers
AreNumbersOfUnit false part own numbers = numbers ≡ []

-- an hour holds many minutes, and an hour and a minute hold many seconds
abbrev pub AreUnitTimes : Rule → ℤ → List ℕ → List ℕ → Type 0
AreUnitTimes rule start minutes seconds =
    AreNumbersOfUnit (wants_minute rule.freq) rule.by_minute (minute_of Moments start) minutes
    × AreNumbersOfUnit (wants_second rule.freq) rule.by_second (second_of Moments start) seconds
