-- Chosen moments repeat with the cycle of their rule (RFC 5545, section 3.3.10).
use Rattle.std.specs.Prelude.{◌≡◌, ℤ, pos, ◌+ℤ◌, ◌*ℤ◌}
use Rattle.rr_model.specs.Rule.Validity.{IsValidRule}
use Rattle.rr_model.specs.Rule.Cycle.{rule_cycle}
use Rattle.rr_model.specs.Rule.Chosen.{is_chosen}
use Rattle.rr_model.specs.declared.kind.Kind.{Kind}
use Rattle.rr_model.specs.declared.kind.Kind.TheVariants.{Days, Moments}
use Rattle.rr_model.specs.declared.rule.Rule.{Rule}

-- n days, in the numbers of the kind
abbrev pub days_in : Kind → ℤ → ℤ
days_in Days days = days
days_in Moments days = days *ℤ pos 86_400

-- the moment that many cycles of the rule later, of any sign
abbrev pub later_moment : Rule → Kind → ℤ → ℤ → ℤ
later_moment rule kind cycles t = t +ℤ days_in kind (pos (rule_cycle rule) *ℤ cycles)

-- A moment any whole number of cycles later is chosen exactly if it is.
abbrev pub ChosenRepeats : Type 0
ChosenRepeats =
    (rule : Rule) (kind : Kind) (start cycles t : ℤ) → IsValidRule kind rule
    → is_chosen rule kind start (later_moment rule kind cycles t) ≡ is_chosen rule kind start t
