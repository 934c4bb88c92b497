-- The candidate at a position of its unit (RFC 5545, section 3.3.10, BYSETPOS).
use Rattle.std.specs.Prelude.{◌≡◌, ◌⊎◌, ℕ, ◌+◌, ◌-◌, ◌<◌, true, Option, Some, None, ℤ, pos, neg_ℤ}
use Rattle.rr_model.specs.Moment.Units.{unit_number}
use Rattle.rr_model.specs.Rule.Candidate.{is_candidate}
use Rattle.rr_model.specs.Rule.Chosen.{position_from_front, position_from_back}
use Rattle.rr_model.specs.declared.kind.Kind.{Kind}
use Rattle.rr_model.specs.declared.rule.Rule.{Rule}

-- a position, from the front from 1 on, or from the back as a negative number, is that of a rank among n
abbrev pub IsPositionOf : ℤ → ℕ → ℕ → Type 0
IsPositionOf position size rank = (position ≡ pos (rank + 1)) ⊎ (position ≡ neg_ℤ (pos (size - rank)))

-- the rank of a position among n, None if there is none
abbrev pub IsRankOf : ℤ → ℕ → Option ℕ → Type 0
IsRankOf position size None = (rank : ℕ) → rank < size → IsPositionOf position size rank → ⊥
IsRankOf position size (Some rank) = (rank < size) × IsPositionOf position size rank

-- the position is one of the two positions of a candidate in its unit
abbrev pub HasPosition : Rule → Kind → ℤ → ℤ → ℤ → Type 0
HasPosition rule kind start t position = (position ≡ pos (position_from_front rule kind start t)) ⊎ (position ≡ neg_ℤ (pos (position_from_back rule kind start t)))

-- the candidate of the unit at the position, None exactly if there is none
abbrev pub IsNthOfUnit : Rule → Kind → ℤ → ℤ → ℤ → Option ℤ → Type 0
IsNthOfUnit rule kind start unit position None = (t : ℤ) → unit_number rule.freq rule.week_start kind t ≡ unit → is_candidate rule kind start t ≡ true
    → HasPosition rule kind start t position → ⊥
IsNthOfUnit rule kind start unit position (Some t) = (unit_number rule.freq rule.week_start kind t ≡ unit) × (is_candidate rule kind start t ≡ true)
    × HasPosition rule kind start t position
