-- From which day on a series repeats (RFC 5545, section 3.8.5).
use Rattle.std.specs.Prelude.{◌≡◌, ⊤, List, All, ℤ, ◌≤ℤ◌, ◌<ℤ◌}
use Rattle.rr_model.specs.Moment.{day_part}
use Rattle.rr_model.specs.Rule.Member.{IsMember}
use Rattle.rr_model.specs.Series.Cycle.{series_cycle}
use Rattle.rr_model.specs.Series.Soundness.{IsSound}
use Rattle.rr_model.specs.Series.Tree.{tree_of}
use Rattle.rr_model.specs.Sets.Tree.{RepeatsAfter}
use Rattle.rr_model.specs.declared.kind.Kind.{Kind}
use Rattle.rr_model.specs.declared.rule.End.{End}
use Rattle.rr_model.specs.declared.rule.End.TheVariants.{Never, Until, Count, Both}
use Rattle.rr_model.specs.declared.rule.Rule.{Rule}
use Rattle.rr_model.specs.declared.rule.Series.{Series}

-- a rule with this end has nothing from the day on: its UNTIL lies before, or each of its members does; an endless rule is not asked
abbrev pub EndsBefore : Kind → ℤ → ℤ → Rule → End → Type 0
EndsBefore kind start settled rule Never = ⊤
EndsBefore kind start settled rule (Until other at) = day_part kind at <ℤ settled
EndsBefore kind start settled rule (Count count) = (t : ℤ) → IsMember rule kind start t → day_part kind t <ℤ settled
EndsBefore kind start settled rule (Both other at count) = (t : ℤ) → IsMember rule kind start t → day_part kind t <ℤ settled

-- each date lies before the day
abbrev pub LieBefore : Kind → ℤ → List ℤ → Type 0
LieBefore kind settled dates = All (λ t. day_part kind t <ℤ settled) dates

-- the start, the dates and the last days of the rules that end, excluded ones among them, lie before the day
pub record IsPast (series : Series) (settled : ℤ) : Type 0 where
  pub start : day_part series.kind series.start <ℤ settled
  pub plus : LieBefore series.kind settled series.plus
  pub minus : LieBefore series.kind settled series.minus
  pub rules : All (λ rule. EndsBefore series.kind series.start settled rule rule.end) series.rules
  pub excluded : All (λ rule. EndsBefore series.kind series.start settled rule rule.end) series.excluded

-- the day after the last of these
pub record IsSettledDay (series : Series) (settled : ℤ) : Type 0 where
  pub past : IsPast series settled
  pub least : (day : ℤ) → IsPast series day → settled ≤ℤ day

-- A series has one settled day at most.
abbrev pub SettledDayIsOne : Type 0
SettledDayIsOne = (series : Series) (a b : ℤ) → IsSettledDay series a → IsSettledDay series b → a ≡ b

-- From its settled day on a sound series repeats with its cycle.
abbrev pub SeriesRepeats : Type 0
SeriesRepeats = (series : Series) (settled : ℤ) → IsSound series → IsPast series settled → RepeatsAfter (tree_of series) settled (series_cycle series)
