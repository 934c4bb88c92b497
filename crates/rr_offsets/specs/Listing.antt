-- The offsets of a zone as a list of changes (RFC 5545, section 3.6.5).
use Rattle.std.specs.Prelude.{◌≡◌, ◌⊎◌, if◌then◌else◌, ℤ, pos, ◌<ℤ◌, int_le, int_lt, List, [], ◌∷◌, ◌++◌, map, All, Contains, Option, None, Some, unwrap_or}
use Rattle.rr_model.specs.Rising.{Rises, with_value}
use Rattle.rr_model.specs.Rule.Candidate.{lists}
use Rattle.rr_true.specs.Changes.{moment_of}
use Rattle.rr_true.specs.declared.change.Change.{Change}
use Rattle.rr_zone.specs.declared.clock.Table.{Table}

-- ---- the changes of tables of onsets

-- the offset of the first of some tables that lists a moment
abbrev pub listed_offset : List Table → ℤ → Option ℤ
listed_offset [] at = None
listed_offset (x ∷ xs) at = if lists x.onsets at then Some x.to else listed_offset xs at

-- the change at a moment that some table lists
abbrev pub change_on : List Table → ℤ → Change
change_on tables at = record { at = at; offset = unwrap_or (listed_offset tables at) (pos 0) }

-- rising moments with one more, if it lies before an end
abbrev pub with_early : ℤ → List ℤ → ℤ → List ℤ
with_early end moments at = if int_lt at end then with_value int_lt moments at else moments

-- rising moments with those of others that lie before an end
abbrev pub with_onsets : ℤ → List ℤ → List ℤ → List ℤ
with_onsets end moments [] = moments
with_onsets end moments (t ∷ ts) = with_onsets end (with_early end moments t) ts

-- rising moments with the onsets of tables that lie before an end
abbrev pub with_tables : ℤ → List ℤ → List Table → List ℤ
with_tables end moments [] = moments
with_tables end moments (x ∷ xs) = with_tables end (with_onsets end moments x.onsets) xs

-- the onsets of tables, one table after the other
abbrev pub all_onsets : List Table → List ℤ
all_onsets [] = []
all_onsets (x ∷ xs) = x.onsets ++ all_onsets xs

-- the changes at the onsets of tables that lie before an end
abbrev pub changes_to : ℤ → List Table → List Change
changes_to end tables = map (change_on tables) (with_tables end [] tables)

-- the moment of the first of some changes that is not before a moment
abbrev pub first_from : List Change → ℤ → Option ℤ
first_from [] p = None
first_from (change ∷ changes) p = if int_le p change.at then Some change.at else first_from changes p

-- ---- what a list of changes is

-- Changes rise, each is to the offset that is stated for its moment, and before an end no other moment has one.
pub record AreChangesOf (stated : ℤ → Option ℤ) (end : ℤ) (changes : List Change) : Type 0 where
  pub rising : Rises int_lt (map moment_of changes)
  pub each : All (λ change. stated change.at ≡ Some change.offset) changes
  pub all : (u : ℤ) → u <ℤ end → Contains (map moment_of changes) u ⊎ (stated u ≡ None)
