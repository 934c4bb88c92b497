-- Which moments a rule chooses (RFC 5545, section 3.3.10, BYSETPOS).
use Rattle.std.specs.Prelude.{ℕ, Bool, ◌&&◌, ◌||◌, IsTrue, ℤ, pos, neg_ℤ, nat_abs, ◌+ℤ◌, ◌-ℤ◌}
use Rattle.rr_model.specs.Whole.Count.{count_from}
use Rattle.rr_model.specs.Moment.Units.{unit_number, unit_start}
use Rattle.rr_model.specs.Rule.Validity.{is_absent}
use Rattle.rr_model.specs.Rule.Candidate.{lists, is_candidate}
use Rattle.rr_model.specs.declared.kind.Kind.{Kind}
use Rattle.rr_model.specs.declared.rule.Rule.{Rule}

-- the first moment of the unit in which t lies
abbrev pub unit_begin : Rule → Kind → ℤ → ℤ
unit_begin rule kind t = unit_start rule.freq rule.week_start kind (unit_number rule.freq rule.week_start kind t)

-- the first moment of the unit after it
abbrev pub unit_end : Rule → Kind → ℤ → ℤ
unit_end rule kind t = unit_start rule.freq rule.week_start kind (unit_number rule.freq rule.week_start kind t +ℤ pos 1)

-- how many candidates of its unit are not after t
abbrev pub position_from_front : Rule → Kind → ℤ → ℤ → ℕ
position_from_front rule kind start t = count_from (is_candidate rule kind start) (unit_begin rule kind t) (nat_abs ((t -ℤ unit_begin rule kind t) +ℤ pos 1))

-- how many candidates of its unit are not before t
abbrev pub position_from_back : Rule → Kind → ℤ → ℤ → ℕ
position_from_back rule kind start t = count_from (is_candidate rule kind start) t (nat_abs (unit_end rule kind t -ℤ t))

-- BYSETPOS is absent, or lists one of the two, the second as a negative number
abbrev pub by_set_pos_holds : Rule → Kind → ℤ → ℤ → Bool
by_set_pos_holds rule kind start t =
    is_absent rule.by_set_pos || lists rule.by_set_pos (pos (position_from_front rule kind start t))
    || lists rule.by_set_pos (neg_ℤ (pos (position_from_back rule kind start t)))

-- the rule with this start chooses t
unfoldable pub is_chosen : Rule → Kind → ℤ → ℤ → Bool
is_chosen rule kind start t = is_candidate rule kind start t && by_set_pos_holds rule kind start t

-- the rule chooses its own start
abbrev pub IsSynchronised : Rule → Kind → ℤ → Type 0
IsSynchronised rule kind start = IsTrue (is_chosen rule kind start start)
