-- After how many days a series repeats once its finite rules and its dates are over (RFC 5545, section 3.8.5).
use Rattle.std.specs.Prelude.{ℕ, List, [], ◌∷◌}
use Rattle.rr_model.specs.Whole.Divisors.{lcm}
use Rattle.rr_model.specs.Rule.Cycle.{rule_cycle}
use Rattle.rr_model.specs.declared.rule.End.{End}
use Rattle.rr_model.specs.declared.rule.End.TheVariants.{Never}
use Rattle.rr_model.specs.declared.rule.Rule.{Rule}
use Rattle.rr_model.specs.declared.rule.Series.{Series}

-- what a rule with this end adds to the cycle of its series: its own cycle if it is endless, and nothing if it ends
abbrev pub endless_cycle : End → Rule → ℕ
endless_cycle Never rule = rule_cycle rule
endless_cycle end rule = 1

-- the least common multiple of the cycles of the endless rules; 1 if there is none
unfoldable pub rules_cycle : List Rule → ℕ
rules_cycle [] = 1
rules_cycle (rule ∷ rules) = lcm (endless_cycle rule.end rule) (rules_cycle rules)

-- the cycle of a series, in days; its excluded rules repeat too
abbrev pub series_cycle : Series → ℕ
series_cycle series = lcm (rules_cycle series.rules) (rules_cycle series.excluded)
