-- Rules whose UNTIL is of another kind than the start (RFC 5545, section 3.3.10, wants it to be of the same), and how calendars read it.
use Rattle.std.specs.Prelude.{Bool, false, not, ◌||◌, List, map, ℤ}
use Rattle.std.specs.List.{list_any}
use Rattle.rr_model.specs.Moment.{day_part, is_same_kind, moment_at}
use Rattle.rr_model.specs.declared.kind.Kind.{Kind}
use Rattle.rr_model.specs.declared.kind.Kind.TheVariants.{Days, Moments}
use Rattle.rr_model.specs.declared.rule.End.{End}
use Rattle.rr_model.specs.declared.rule.End.TheVariants.{Until, Both}
use Rattle.rr_model.specs.declared.rule.Rule.{Rule}
use Rattle.rr_model.specs.declared.rule.Series.{Series}

-- ---- which series have such an UNTIL

-- the end has an UNTIL of another kind than this one
abbrev pub is_other_end : Kind → End → Bool
is_other_end kind (Until other at) = not (is_same_kind kind other)
is_other_end kind (Both other at count) = not (is_same_kind kind other)
is_other_end kind end = false

-- some of the rules has such an end
abbrev pub any_other_end : Kind → List Rule → Bool
any_other_end kind rules = list_any (λ rule. is_other_end kind rule.end) rules

-- the UNTIL of some rule of the series, or of some excluded one, is of another kind than the start
abbrev pub has_other_end : Series → Bool
has_other_end series = any_other_end series.kind series.rules || any_other_end series.kind series.excluded

-- ---- how it is read

-- an UNTIL of a kind as one of the start's: a date beside moments is the last second of its day, a moment beside dates the day that it is on
abbrev pub until_of_kind : Kind → Kind → ℤ → ℤ
until_of_kind Moments Days day = moment_at Moments day 86_399
until_of_kind Days Moments moment = day_part Moments moment
until_of_kind kind other at = at

-- the end with its UNTIL as one of the start's kind
abbrev pub end_of_kind : Kind → End → End
end_of_kind kind (Until other at) = Until kind (until_of_kind kind other at)
end_of_kind kind (Both other at count) = Both kind (until_of_kind kind other at) count
end_of_kind kind end = end

-- the rule with this end
abbrev pub rule_of_kind : Kind → Rule → Rule
rule_of_kind kind rule = record rule { end = end_of_kind kind rule.end }

-- the series with the UNTIL of each rule, and of each excluded one, as one of the start's kind
abbrev pub with_ends_of_kind : Series → Series
with_ends_of_kind series =
    record series { rules = map (rule_of_kind series.kind) series.rules; excluded = map (rule_of_kind series.kind) series.excluded }
