-- Where rules end (RFC 5545, section 3.3.10, UNTIL and COUNT).
use Rattle.std.specs.Prelude.{◌≡◌, ◌⊎◌, ℕ, ◌+◌, ◌<◌, ◌≤◌, true, ⊤, List, All, Result, Ok, Err, ℤ, pos, ◌+ℤ◌, ◌≤ℤ◌, ◌<ℤ◌}
use Rattle.rr_model.specs.Moment.{day_part}
use Rattle.rr_model.specs.Moment.Years.{IsFromYearOne, IsInYears}
use Rattle.rr_model.specs.Rule.Cycle.{rule_cycle}
use Rattle.rr_model.specs.Rule.Validity.{EndsInYears, IsValidRule}
use Rattle.rr_model.specs.Series.Settled.{EndsBefore}
use Rattle.rr_model.specs.Series.Soundness.{EndsNotBefore}
use Rattle.rr_model.specs.Sets.Counting.{count_before}
use Rattle.rr_model.specs.Sets.Tree.{Tree, chosen_of, stands_at}
use Rattle.rr_model.specs.declared.kind.Kind.{Kind}
use Rattle.rr_model.specs.declared.limits.TheConstants.{MAX_SPAN_DAYS}
use Rattle.rr_model.specs.declared.refusal.Fault.{Fault}
use Rattle.rr_model.specs.declared.refusal.Fault.TheVariants.{Refused, NoMemory}
use Rattle.rr_model.specs.declared.refusal.Refusal.TheVariants.{CountedTooFar}
use Rattle.rr_model.specs.declared.rule.Rule.{Rule}
use Rattle.rr_lazy.specs.Next.{HasNone}
use Rattle.rr_iter.specs.declared.nth.NthDay.{NthDay}
use Rattle.rr_iter.specs.declared.nth.NthDay.TheVariants.{On, Beyond}

-- a rule or an excluded rule of a sound series, beside its start, which it need not choose
pub record IsSoundRule (kind : Kind) (start : ℤ) (rule : Rule) : Type 0 where
  pub valid : IsValidRule kind rule
  pub in_years : IsInYears kind start
  pub ends_in_years : EndsInYears rule.end
  pub end : EndsNotBefore kind start rule.end

-- the last day of the start and of the rule's UNTIL or members; an endless rule adds none
pub record IsLastDay (kind : Kind) (start : ℤ) (rule : Rule) (day : ℤ) : Type 0 where
  pub late : day_part kind start ≤ℤ day
  pub ends : EndsBefore kind start (day +ℤ pos 1) rule rule.end
  pub least : (settled : ℤ) → day_part kind start <ℤ settled → EndsBefore kind start settled rule rule.end → day <ℤ settled

-- each of these rules has nothing from the day on, unless it is endless
abbrev pub HaveEnded : Kind → ℤ → ℤ → List Rule → Type 0
HaveEnded kind start settled rules = All (λ rule. EndsBefore kind start settled rule rule.end) rules

-- the later of a day and the last days of rules; endless ones add none
pub record IsLastOfRules (kind : Kind) (start : ℤ) (rules : List Rule) (day last : ℤ) : Type 0 where
  pub late : day ≤ℤ last
  pub ended : HaveEnded kind start (last +ℤ pos 1) rules
  pub least : (settled : ℤ) → day <ℤ settled → HaveEnded kind start settled rules → last <ℤ settled

-- the last occupied day up to a day, or the one that is given if nothing after it is
pub record IsLastUpTo (tree : Tree) (given to day : ℤ) : Type 0 where
  pub after : HasNone tree (day +ℤ pos 1) (to +ℤ pos 1)
  pub occupied : (day ≡ given) ⊎ ((s : ℕ) × (stands_at tree day s ≡ true))

-- ---- occurrences by their numbers, from 1

-- how many occurrences lie before a day
abbrev pub before_day : Tree → ℤ → ℕ
before_day tree day = count_before (λ d s. stands_at tree d s) day

-- how many moments a rule chooses up to its start's day
abbrev pub up_to_start : Rule → Kind → ℤ → ℕ
up_to_start rule kind start = before_day (chosen_of rule kind start) (day_part kind start +ℤ pos 1)

-- how many it chooses up to the end of the first cycle after that day
abbrev pub up_to_cycle : Rule → Kind → ℤ → ℕ
up_to_cycle rule kind start = before_day (chosen_of rule kind start) ((day_part kind start +ℤ pos (rule_cycle rule)) +ℤ pos 1)

-- the occurrence of this number lies on the day
pub record HasNumberOn (tree : Tree) (number : ℕ) (day : ℤ) : Type 0 where
  pub begun : IsFromYearOne day
  pub above : before_day tree day < number
  pub within : number ≤ before_day tree (day +ℤ pos 1)

-- the day of the occurrence of this number, if it is not after a day, or how many occurrences after that day lead to it
abbrev pub IsNthDayOf : Tree → ℕ → ℤ → NthDay → Type 0
IsNthDayOf tree number to (On day) = (day ≤ℤ to) × HasNumberOn tree number day
IsNthDayOf tree number to (Beyond left) = (1 ≤ left) × (before_day tree (to +ℤ pos 1) + left ≡ number)

-- the day of the occurrence of this number, refused if it lies more days after a day than the most of a span
abbrev pub AnswersDayOf : Tree → ℤ → ℕ → Result ℤ Fault → Type 0
AnswersDayOf tree first number (Ok day) = (day ≤ℤ (first +ℤ pos MAX_SPAN_DAYS)) × HasNumberOn tree number day
AnswersDayOf tree first number (Err (Refused refusal)) = (refusal ≡ CountedTooFar) × (before_day tree (first +ℤ pos (MAX_SPAN_DAYS + 1)) < number)
AnswersDayOf tree first number (Err NoMemory) = ⊤
