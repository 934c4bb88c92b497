-- The series with the same occurrences of whose rules and excluded rules none has both ends (RFC 5545, section 3.3.10: UNTIL or COUNT, never both).
use Rattle.std.specs.Prelude.{nat_le, if◌then◌else◌, ℤ, map}
use Rattle.rr_model.specs.Rule.Member.{members_to}
use Rattle.rr_model.specs.declared.kind.Kind.{Kind}
use Rattle.rr_model.specs.declared.rule.End.{End}
use Rattle.rr_model.specs.declared.rule.End.TheVariants.{Count, Until, Both}
use Rattle.rr_model.specs.declared.rule.Rule.{Rule}
use Rattle.rr_model.specs.declared.rule.Series.{Series}

-- of an end with COUNT and UNTIL the one that comes first: COUNT if `count` members or more lie up to the UNTIL
abbrev pub one_end : Rule → Kind → ℤ → End → End
one_end rule kind start (Both other at count) = if nat_le count (members_to rule kind start at) then Count count else Until other at
one_end rule kind start end = end

-- a rule with one end alone: of COUNT and UNTIL the one that comes first
abbrev pub with_one_end : Kind → ℤ → Rule → Rule
with_one_end kind start rule = record rule { end = one_end rule kind start rule.end }

-- the series with one end for each rule and each excluded rule
unfoldable pub with_one_ends : Series → Series
with_one_ends series = record series {
  rules = map (with_one_end series.kind series.start) series.rules;
  excluded = map (with_one_end series.kind series.start) series.excluded;
}
