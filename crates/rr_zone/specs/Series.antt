-- The starts of series by their UIDs, as the code keeps them.
use Rattle.std.specs.Prelude.{◌≡◌, ℕ, List, [], ◌∷◌, Option, option_map}
use Rattle.std.specs.Borrow.{Bor}
use Rattle.std.specs.BTreeMap.{BTreeMap, get_by}
use Rattle.std.specs.Cmp.Lexicographic.{slice_cmp}
use Rattle.std.specs.Option.{option_or}
use Rattle.std.specs.Ordering.{nat_cmp}
use Rattle.rr_zone.specs.Events.{series_named}
use Rattle.rr_zone.specs.Parts.{with_event}
use Rattle.rr_zone.specs.declared.event.EventFacts.{EventFacts}
use Rattle.rr_zone.specs.declared.event.Start.{Start}
use Rattle.rr_zone.specs.declared.part.Content.{Content}

-- UIDs with starts
abbrev pub StartMap : Type 0
StartMap = BTreeMap (Bor (List ℕ)) (Bor Start)

-- the start that is kept under a UID
abbrev pub start_under : StartMap → List ℕ → Option Start
start_under starts uid = option_map (λ (start : Bor Start). start.now) (get_by (λ (key : Bor (List ℕ)). slice_cmp nat_cmp uid key.now) starts)

-- the start of the first series of a UID
abbrev pub series_start : List ℕ → List EventFacts → Option Start
series_start uid events = option_map (λ (event : EventFacts). event.start) (series_named uid events)

-- the starts of the series of these events are kept under their UIDs
abbrev pub IsSeriesMap : StartMap → List EventFacts → Type 0
IsSeriesMap starts events = (uid : List ℕ) → start_under starts uid ≡ series_start uid events

-- one event more is taken in
abbrev pub Notes : StartMap → EventFacts → StartMap → Type 0
Notes old event new = (uid : List ℕ) → start_under new uid ≡ option_or (start_under old uid) (series_start uid (event ∷ []))

-- one part more is taken in
abbrev pub NotesPart : StartMap → Content → StartMap → Type 0
NotesPart old content new = (uid : List ℕ) → start_under new uid ≡ option_or (start_under old uid) (series_start uid (with_event content []))
