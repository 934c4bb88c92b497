-- Which moments are members of a rule (RFC 5545, section 3.3.10, UNTIL and COUNT).
use Rattle.std.specs.Prelude.{◌≡◌, ◌↔◌, ℕ, ◌≤◌, nat_le, Bool, true, ◌&&◌, IsTrue, ⊤, ℤ, pos, nat_abs, ◌+ℤ◌, ◌-ℤ◌, ◌≤ℤ◌, int_le}
use Rattle.rr_model.specs.Moment.{is_same_kind}
use Rattle.rr_model.specs.Whole.Count.{count_from}
use Rattle.rr_model.specs.Rule.Chosen.{is_chosen}
use Rattle.rr_model.specs.declared.kind.Kind.{Kind}
use Rattle.rr_model.specs.declared.rule.End.{End}
use Rattle.rr_model.specs.declared.rule.End.TheVariants.{Never, Until, Count, Both}
use Rattle.rr_model.specs.declared.rule.Rule.{Rule}

-- how many chosen moments lie from the start to t, both included
abbrev pub members_to : Rule → Kind → ℤ → ℤ → ℕ
members_to rule kind start t = count_from (is_chosen rule kind start) start (nat_abs ((t -ℤ start) +ℤ pos 1))

-- ---- as a test

-- t is not after an UNTIL of its own kind; an UNTIL of another kind lets nothing be a member
abbrev pub is_until : Kind → ℤ → Kind → ℤ → Bool
is_until other at kind t = is_same_kind other kind && int_le t at

-- t is not past the end, if it is the member of this number, from 1
abbrev pub is_within_end : End → Kind → ℤ → ℕ → Bool
is_within_end Never kind t number = true
is_within_end (Until other at) kind t number = is_until other at kind t
is_within_end (Count count) kind t number = nat_le number count
is_within_end (Both other at count) kind t number = is_until other at kind t && nat_le number count

-- t is a member of the rule with this start
unfoldable pub is_member : Rule → Kind → ℤ → ℤ → Bool
is_member rule kind start t = is_chosen rule kind start t && int_le start t && is_within_end rule.end kind t (members_to rule kind start t)

-- ---- as a property

-- t is not past the end, if it is the member of this number, from 1
abbrev pub IsWithinEnd : End → Kind → ℤ → ℕ → Type 0
IsWithinEnd Never kind t number = ⊤
IsWithinEnd (Until other at) kind t number = (other ≡ kind) × (t ≤ℤ at)
IsWithinEnd (Count count) kind t number = number ≤ count
IsWithinEnd (Both other at count) kind t number = (other ≡ kind) × (t ≤ℤ at) × (number ≤ count)

-- t is a member of the rule with this start
pub record IsMember (rule : Rule) (kind : Kind) (start t : ℤ) : Type 0 where
  pub chosen : IsTrue (is_chosen rule kind start t)
  pub not_before : start ≤ℤ t
  pub within_end : IsWithinEnd rule.end kind t (members_to rule kind start t)

-- The test says what the property says.
abbrev pub MembersAreTested : Type 0
MembersAreTested = (rule : Rule) (kind : Kind) (start t : ℤ) → IsTrue (is_member rule kind start t) ↔ IsMember rule kind start t
