-- Of which series and single occurrences a set is made, so that each of its occurrences is made once (Microsoft Graph, event,
-- recurrence and cancelledOccurrences).
use Rattle.std.specs.Prelude.{◌⊎◌, ⊤, ℕ, List, [], ◌∷◌, All, Contains, length, sum_by, ℤ}
use Rattle.rr_model.specs.Calendar.{IsDayWithin}
use Rattle.rr_model.specs.Graph.Laws.{StartsOnPattern}
use Rattle.rr_model.specs.Graph.Occurrences.{IsGraphOccurrence}
use Rattle.rr_model.specs.Graph.Validity.{IsValidGraphEvent}
use Rattle.rr_model.specs.Moment.{Occurrences, day_part}
use Rattle.rr_model.specs.Sets.Verdict.{HaveEqualOccurrences}
use Rattle.rr_model.specs.declared.graph.GraphEvent.{GraphEvent}
use Rattle.rr_model.specs.declared.graph.Repeat.{Repeat}
use Rattle.rr_model.specs.declared.graph.Repeat.TheVariants as repeat
use Rattle.rr_model.specs.declared.kind.Kind.{Kind}
use Rattle.rr_plan.specs.declared.part.Part.{Part}

-- ---- parts

-- an occurrence of the part: one of its event that is not cancelled
pub record IsKept (part : Part) (k : Kind) (t : ℤ) : Type 0 where
  pub occurs : IsGraphOccurrence part.event k t
  pub not_cancelled : Contains part.cancelled t → ⊥

-- the event repeats, and its range begins on a day of its pattern
abbrev pub BeginsOnPattern : Repeat → Type 0
BeginsOnPattern repeat.Once = ⊥
BeginsOnPattern (repeat.Pattern pattern range) = StartsOnPattern pattern range

-- the days of these dates or moments are within the limit
abbrev pub AreWithin : Kind → List ℤ → Type 0
AreWithin kind moments = All (λ t. IsDayWithin 0 (day_part kind t)) moments

-- the event is valid and begins on its pattern, and what is cancelled are occurrences of it within the limit on days, but not all
pub record IsPart (part : Part) : Type 0 where
  pub valid : IsValidGraphEvent part.event
  pub begins : BeginsOnPattern part.event.repeat
  pub cancelled : All (IsGraphOccurrence part.event part.event.kind) part.cancelled
  pub within : AreWithin part.event.kind part.cancelled
  pub keeps : ((t : ℤ) → IsGraphOccurrence part.event part.event.kind t → Contains part.cancelled t) → ⊥

-- the event, with nothing cancelled
abbrev pub whole_event : GraphEvent → Part
whole_event event = record { event = event; cancelled = [] }

-- how many occurrences the parts cancel together
abbrev pub many_cancelled : List Part → ℕ
many_cancelled = sum_by (λ part. length part.cancelled)

-- ---- the whole

-- an occurrence of one of the parts, or of the rest
abbrev pub IsMadeBy : {X : Type 0} → (X → Occurrences) → List X → Occurrences → Occurrences
IsMadeBy kept [] rest k t = rest k t
IsMadeBy kept (part ∷ parts) rest k t = kept part k t ⊎ IsMadeBy kept parts rest k t

-- no occurrence is one of two parts, or of a part and the rest
abbrev pub AreApartBy : {X : Type 0} → (X → Occurrences) → List X → Occurrences → Type 0
AreApartBy kept [] rest = ⊤
AreApartBy kept (part ∷ parts) rest = ((k : Kind) (t : ℤ) → kept part k t → IsMadeBy kept parts rest k t → ⊥) × AreApartBy kept parts rest

-- The parts and the rest have exactly the occurrences of a set, and each of them once.
pub record IsSplitBy {X : Type 0} (IsOne : X → Type 0) (kept : X → Occurrences) (P : Occurrences) (parts : List X) (rest : Occurrences) : Type 0 where
  pub each : All IsOne parts
  pub equal : HaveEqualOccurrences (IsMadeBy kept parts rest) P
  pub apart : AreApartBy kept parts rest

-- one part more is taken from the rest: what it keeps and what is left are the rest, and apart
pub record IsTakenBy {X : Type 0} (IsOne : X → Type 0) (kept : X → Occurrences) (rest : Occurrences) (part : X) (left : Occurrences) : Type 0 where
  pub is_part : IsOne part
  pub equal : (k : Kind) (t : ℤ) → (kept part k t ⊎ left k t → rest k t) × (rest k t → kept part k t ⊎ left k t)
  pub apart : (k : Kind) (t : ℤ) → kept part k t → left k t → ⊥

-- ---- of parts of Microsoft Graph

-- an occurrence of one of the parts, or of the rest
abbrev pub IsMade : List Part → Occurrences → Occurrences
IsMade parts rest = IsMadeBy IsKept parts rest

-- no occurrence is one of two parts, or of a part and the rest
abbrev pub AreApart : List Part → Occurrences → Type 0
AreApart parts rest = AreApartBy IsKept parts rest

-- The parts and the rest have exactly the occurrences of a set, and each of them once.
abbrev pub IsSplit : Occurrences → List Part → Occurrences → Type 0
IsSplit P parts rest = IsSplitBy IsPart IsKept P parts rest

-- one part more is taken from the rest
abbrev pub IsTaken : Occurrences → Part → Occurrences → Type 0
IsTaken rest part left = IsTakenBy IsPart IsKept rest part left
