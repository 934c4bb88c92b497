-- What the search for a plan promises (Microsoft Graph, patternedRecurrence, cancelledOccurrences).
use Rattle.std.specs.Prelude.{◌≡◌, ℕ, ◌+◌, ◌≤◌, [], ◌∷◌, length, Option, None, Some, int_lt}
use Rattle.rr_graphfind.specs.Found.{IsGraphFound}
use Rattle.rr_model.specs.Rising.{Rises}
use Rattle.rr_model.specs.Sets.Sketch.{StandsIn}
use Rattle.rr_model.specs.declared.graph.GraphEvent.{GraphEvent}
use Rattle.rr_model.specs.declared.sketch.Sketch.{Sketch}
use Rattle.rr_plan.specs.Few.{AreMoreThan, IsOneOf}
use Rattle.rr_plan.specs.Plan.{AreWithin, IsSplit, many_cancelled, whole_event}
use Rattle.rr_split.specs.declared.limits.TheConstants.{MAX_EXCEPTIONS}
use Rattle.rr_split.specs.declared.split.Plan.{Plan}

-- the plan is this event alone: nothing is cancelled, and no occurrence is single
pub record IsEventAlone (event : GraphEvent) (plan : Plan) : Type 0 where
  pub parts : plan.parts.items ≡ whole_event event ∷ []
  pub single : plan.single ≡ []

-- The parts and the single occurrences have exactly the occurrences of the set, each once, for ever; the parts are at most `most`,
-- and the exceptions within their limit. If one pattern and range have the set, the plan is that event alone.
pub record IsPlanOf (most : ℕ) (s : Sketch) (plan : Plan) : Type 0 where
  pub split : IsSplit (StandsIn s) plan.parts.items (IsOneOf plan.kind plan.single)
  pub few : length plan.parts.items ≤ most
  pub few_exceptions : many_cancelled plan.parts.items + length plan.single ≤ MAX_EXCEPTIONS
  pub rises : Rises int_lt plan.single
  pub within : AreWithin plan.kind plan.single
  pub kind : plan.kind ≡ s.kind
  pub alone : (event : GraphEvent) → IsGraphFound (StandsIn s) (Some event) → IsEventAlone event plan

-- What a refusal promises: no pattern and range have the set, and it is without end or has more occurrences than there may be
-- exceptions.
pub record IsUnplanned (most : ℕ) (s : Sketch) : Type 0 where
  pub no_pattern : IsGraphFound (StandsIn s) None
  pub many : AreMoreThan MAX_EXCEPTIONS s

-- a plan, or none
abbrev pub AnswersSplit : ℕ → Sketch → Option Plan → Type 0
AnswersSplit most s None = IsUnplanned most s
AnswersSplit most s (Some plan) = IsPlanOf most s plan
