-- What the search for a plan of events of vCalendar 1.0 promises (basic recurrence rule grammar; recurrence and exception date/times).
use Rattle.std.specs.Prelude.{◌≡◌, ◌⊎◌, ℕ, ◌+◌, ◌≤◌, List, [], ◌∷◌, All, Contains, length, sum_by, Option, None, Some, ℤ, int_lt}
use Rattle.rr_family.specs.Profile.{IsFirstRule, VcalOccurrences}
use Rattle.rr_find.specs.Found.{IsFound}
use Rattle.rr_find.specs.declared.found.Found.{Found}
use Rattle.rr_model.specs.Moment.Years.{IsInYears}
use Rattle.rr_model.specs.Rising.{Rises}
use Rattle.rr_model.specs.Sets.Sketch.{StandsIn}
use Rattle.rr_model.specs.Vcal.Members.{IsVcalMember, OccursInVseries}
use Rattle.rr_model.specs.Vcal.Validity.{IsValidVSeries}
use Rattle.rr_model.specs.declared.kind.Kind.{Kind}
use Rattle.rr_model.specs.declared.sketch.Sketch.{Sketch}
use Rattle.rr_model.specs.declared.vcal.VRule.{VRule}
use Rattle.rr_model.specs.declared.vcal.VSeries.{VSeries}
use Rattle.rr_plan.specs.Few.{AreMoreThan, IsOneOf}
use Rattle.rr_plan.specs.Plan.{IsSplitBy}
use Rattle.rr_split.specs.declared.limits.TheConstants.{MAX_EXCEPTIONS}
use Rattle.rr_split.specs.declared.vcal.VcalPlan.{VcalPlan}

-- ---- events

-- the event with this rule alone, of which these dates or moments are taken out
abbrev pub event_of : VRule → Kind → ℤ → List ℤ → VSeries
event_of rule kind start minus = record { kind = kind; start = start; rules = rule ∷ []; excluded = []; plus = []; minus = minus }

-- The event has one rule, which is the first that its occurrences have, as a translation gives it; what is taken out are some
-- of these, but not all.
pub record IsRuleEvent (event : VSeries) : Type 0 where
  pub rule : VRule
  pub is : event ≡ event_of rule event.kind event.start event.minus
  pub first : IsFirstRule (VcalOccurrences rule event.kind event.start) rule event.kind event.start
  pub valid : IsValidVSeries event
  pub rises : Rises int_lt event.minus
  pub cancelled : All (IsVcalMember rule event.kind event.start) event.minus
  pub keeps : ((t : ℤ) → IsVcalMember rule event.kind event.start t → Contains event.minus t) → ⊥

-- how many dates or moments are taken out of the events together
abbrev pub many_taken_out : List VSeries → ℕ
many_taken_out = sum_by (λ event. length event.minus)

-- ---- plans

-- the plan is the event with this rule alone: nothing is taken out, and no occurrence is single
pub record IsRuleAlone (found : Found) (plan : VcalPlan) : Type 0 where
  pub events : plan.events.items ≡ event_of found.rule found.kind found.start [] ∷ []
  pub single : plan.single ≡ []

-- The events and the single occurrences have exactly the occurrences of the set, each once, for ever; the events are at most `most`,
-- and the exceptions within their limit. If one rule has the set, the plan is the event with that rule alone.
pub record IsVcalPlanOf (most : ℕ) (s : Sketch) (plan : VcalPlan) : Type 0 where
  pub split : IsSplitBy IsRuleEvent OccursInVseries (StandsIn s) plan.events.items (IsOneOf plan.kind plan.single)
  pub few : length plan.events.items ≤ most
  pub few_exceptions : many_taken_out plan.events.items + length plan.single ≤ MAX_EXCEPTIONS
  pub rises : Rises int_lt plan.single
  pub years : All (IsInYears plan.kind) plan.single
  pub kind : plan.kind ≡ s.kind
  pub alone : (found : Found) → IsFound (StandsIn s) (Some found) → IsRuleAlone found plan

-- one of these dates or moments lies outside of the years 1 to 9999
abbrev pub HasOneOutside : Kind → List ℤ → Type 0
HasOneOutside kind times = (t : ℤ) × Contains times t × (IsInYears kind t → ⊥)

-- an occurrence lies outside of the years 1 to 9999
abbrev pub HasOutsideOfYears : Sketch → Type 0
HasOutsideOfYears s = (t : ℤ) × StandsIn s s.kind t × (IsInYears s.kind t → ⊥)

-- What a refusal promises: no rule has the set; and it is without end, or has more occurrences than there may be exceptions, or
-- one outside of the years that can be written.
pub record HasNoVcalPlan (s : Sketch) : Type 0 where
  pub no_rule : IsFound (StandsIn s) None
  pub many : AreMoreThan MAX_EXCEPTIONS s ⊎ HasOutsideOfYears s

-- a plan, or none
abbrev pub AnswersVcalSplit : ℕ → Sketch → Option VcalPlan → Type 0
AnswersVcalSplit most s None = HasNoVcalPlan s
AnswersVcalSplit most s (Some plan) = IsVcalPlanOf most s plan
