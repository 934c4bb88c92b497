-- Which sound series go beyond the limits (RFC 5545, section 3.8.5).
use Rattle.std.specs.Prelude.{◌≡◌, ◌≢◌, ◌⊎◌, ℕ, ◌<◌, IsTrue, List, [], All, AllPairs, length, get_or, nat_lt, ℤ, pos, ◌+ℤ◌, ◌<ℤ◌}
use Rattle.rr_model.specs.Moment.{day_part, moment_at}
use Rattle.rr_model.specs.Rising.Sets.{IsSetOf}
use Rattle.rr_model.specs.Rule.Member.{members_to}
use Rattle.rr_model.specs.Series.Cycle.{series_cycle}
use Rattle.rr_model.specs.Series.Tree.{tree_of}
use Rattle.rr_model.specs.Sets.Sizes.{total_size}
use Rattle.rr_model.specs.Sets.Tree.{Tree, stands_at}
use Rattle.rr_model.specs.declared.kind.Kind.{Kind}
use Rattle.rr_model.specs.declared.kind.Kind.TheVariants.{Days, Moments}
use Rattle.rr_model.specs.declared.limits.TheConstants.{MAX_SECONDS, MAX_SPAN_DAYS}
use Rattle.rr_model.specs.declared.rule.End.{End}
use Rattle.rr_model.specs.declared.rule.End.TheVariants.{Count}
use Rattle.rr_model.specs.declared.rule.Rule.{Rule}
use Rattle.rr_model.specs.declared.rule.Series.{Series}

-- ---- members that are counted too far

-- the last moment of a day
abbrev pub last_of_day : Kind → ℤ → ℤ
last_of_day Days day = day
last_of_day Moments day = moment_at Moments day 86_399

-- the last moment of the span of days that begins on a start's day
abbrev pub span_end : Kind → ℤ → ℤ
span_end kind start = last_of_day kind (day_part kind start +ℤ pos MAX_SPAN_DAYS)

-- a rule with this end counts more members than it has in the span; an UNTIL ends long before
abbrev pub CountsMore : Kind → ℤ → Rule → End → Type 0
CountsMore kind start rule (Count count) = members_to rule kind start (span_end kind start) < count
CountsMore kind start rule end = ⊥

-- the rule counts more members than it has in the span from its start
abbrev pub CountsTooFar : Kind → ℤ → Rule → Type 0
CountsTooFar kind start rule = CountsMore kind start rule rule.end

-- some of the rules counts more members than it has in the span from its start
abbrev pub CountSomeTooFar : Kind → ℤ → List Rule → Type 0
CountSomeTooFar kind start rules = (k : ℕ) × (rule : Rule) × (k < length rules) × (get_or rules k rule ≡ rule) × CountsTooFar kind start rule

-- some rule of a series, or some excluded one, counts more members than it has in the span from the start
abbrev pub IsCountedTooFar : Series → Type 0
IsCountedTooFar series = CountSomeTooFar series.kind series.start series.rules ⊎ CountSomeTooFar series.kind series.start series.excluded

-- ---- too many moments

-- the list is the time set of a day before this one
pub record IsTimeSetBefore (tree : Tree) (end : ℤ) (times : List ℕ) : Type 0 where
  pub day : ℤ
  pub early : day <ℤ end
  pub all : IsSetOf nat_lt times (λ s. IsTrue (stands_at tree day s))

-- Distinct time sets of days before this one have together more than 16,777,216 seconds. The empty set adds none, so it may be among them.
pub record HasTooManyMoments (tree : Tree) (end : ℤ) : Type 0 where
  pub sets : List (List ℕ)
  pub distinct : AllPairs (λ a b. a ≢ b) sets
  pub occupied : All (λ times. times ≢ [] → IsTimeSetBefore tree end times) sets
  pub above : MAX_SECONDS < total_size sets

-- a series has too many moments up to its settled day and one cycle
abbrev pub IsTooManyMoments : Series → ℤ → Type 0
IsTooManyMoments series settled = HasTooManyMoments (tree_of series) (settled +ℤ pos (series_cycle series))
