-- What is counted of rules with COUNT to find where they end (RFC 5545, section 3.3.10).
use Rattle.std.specs.Prelude.{◌≡◌, ℕ, ◌+◌, ◌<◌, ◌≤◌, List, length, get_or, Option, Some, None, Result, Ok, Err, ℤ}
use Rattle.rr_model.specs.declared.kind.Kind.{Kind}
use Rattle.rr_model.specs.declared.refusal.Fault.{Fault}
use Rattle.rr_model.specs.declared.rule.End.{End}
use Rattle.rr_model.specs.declared.rule.End.TheVariants.{Count}
use Rattle.rr_model.specs.declared.rule.Rule.{Rule}
use Rattle.rr_model.specs.declared.rule.Series.{Series}
use Rattle.rr_iter.specs.Ends.{up_to_cycle, up_to_start}
use Rattle.rr_iter.specs.declared.counts.CycleCount.{CycleCount}
use Rattle.rr_iter.specs.declared.counts.Counts.{Counts}
use Rattle.rr_iter.specs.declared.counts.LastDay.{LastDay}

-- The first cycle after the start's day has this number of moments, one at least, and this number, one at least, leads from its end to the count.
pub record IsCounted (rule : Rule) (kind : Kind) (start : ℤ) (count : ℕ) (counted : CycleCount) : Type 0 where
  pub some_each : 1 ≤ counted.each
  pub each : up_to_cycle rule kind start ≡ up_to_start rule kind start + counted.each
  pub some_after : 1 ≤ counted.after
  pub after : up_to_cycle rule kind start + counted.after ≡ count

-- what is counted to find the member of this number: nothing exactly if it lies within that first cycle
abbrev pub IsCountUpTo : Rule → Kind → ℤ → ℕ → Option CycleCount → Type 0
IsCountUpTo rule kind start count (Some counted) = IsCounted rule kind start count counted
IsCountUpTo rule kind start count None = count ≤ up_to_cycle rule kind start

-- what is counted of a rule with this end: if it is COUNT alone, what is counted to find the member of that number, and otherwise nothing
abbrev pub IsCountOfEnd : Kind → ℤ → Rule → End → Option CycleCount → Type 0
IsCountOfEnd kind start rule (Count count) counted = IsCountUpTo rule kind start count counted
IsCountOfEnd kind start rule end counted = counted ≡ None

-- what is counted of a rule, by its end
abbrev pub IsCountOf : Kind → ℤ → Rule → Option CycleCount → Type 0
IsCountOf kind start rule counted = IsCountOfEnd kind start rule rule.end counted

-- an item for each rule: what is counted of it
pub record AreCounts (kind : Kind) (start : ℤ) (rules : List Rule) (counts : List (Option CycleCount)) : Type 0 where
  pub whole : length counts ≡ length rules
  pub each : (k : ℕ) (rule : Rule) → k < length rules → IsCountOf kind start (get_or rules k rule) (get_or counts k None)

-- what is counted of the rules of a series, and of its excluded rules
pub record AreCountsOf (series : Series) (counts : Counts) : Type 0 where
  pub rules : AreCounts series.kind series.start series.rules counts.rules.items
  pub excluded : AreCounts series.kind series.start series.excluded counts.excluded.items

-- the day alone of what was found of a rule
abbrev pub day_alone : Result LastDay Fault → Result ℤ Fault
day_alone (Ok last) = Ok last.day
day_alone (Err fault) = Err fault
