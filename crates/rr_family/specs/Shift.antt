-- After how many days the items of a kind of rule and the patterns of a type repeat.
use Rattle.std.specs.Prelude.{◌≡◌, ℕ, ◌≤◌, Bool, List, All, ℤ, pos, ◌+ℤ◌}
use Rattle.std.specs.List.{list_any}
use Rattle.rr_model.specs.Rule.Cycle.{interval_cycle, rule_cycle}
use Rattle.rr_model.specs.declared.kind.Kind.{Kind}
use Rattle.rr_model.specs.declared.rule.End.{End}
use Rattle.rr_model.specs.Vcal.Counterpart.{family_freq, rule_of_vrule}
use Rattle.rr_model.specs.Vcal.Members.{item_has_day}
use Rattle.rr_model.specs.Vcal.Validity.{IsItemOf, IsValidVRule}
use Rattle.rr_model.specs.Graph.Occurrences.{is_pattern_day}
use Rattle.rr_model.specs.Graph.Counterpart.{form_freq, rule_of_pattern}
use Rattle.rr_model.specs.Graph.Validity.{IsValidPattern}
use Rattle.rr_model.specs.declared.graph.Form.{Form}
use Rattle.rr_model.specs.declared.graph.Pattern.{Pattern}
use Rattle.rr_model.specs.declared.vcal.FamilyKind.{FamilyKind}
use Rattle.rr_model.specs.declared.item.Item.{Item}
use Rattle.rr_model.specs.declared.vcal.VRule.{VRule}

-- after how many days the items of a kind repeat, with its interval
abbrev pub family_cycle : FamilyKind → ℕ → ℕ
family_cycle family interval = interval_cycle (family_freq family) interval

-- after how many days the patterns of a type repeat, with its interval
abbrev pub form_cycle : Form → ℕ → ℕ
form_cycle form interval = interval_cycle (form_freq form) interval

-- the days of some of the items, if the series starts on this day
abbrev pub items_have_day : FamilyKind → ℕ → ℤ → List Item → ℤ → Bool
items_have_day family interval start items d = list_any (λ item. item_has_day family interval start item d) items

-- n days later the test holds exactly if it held
abbrev pub RepeatsEverywhere : (ℤ → Bool) → ℕ → Type 0
RepeatsEverywhere test c = (d : ℤ) → test (d +ℤ pos c) ≡ test d

-- The days of an item repeat after the cycle of its kind and interval.
abbrev pub ItemRepeats : Type 0
ItemRepeats = (family : FamilyKind) (interval : ℕ) (start : ℤ) (item : Item) → 1 ≤ interval → interval ≤ 4_294_967_295 → IsItemOf family item
    → RepeatsEverywhere (item_has_day family interval start item) (family_cycle family interval)

-- The days of a list of items repeat after the cycle of their kind and interval.
abbrev pub ItemsRepeat : Type 0
ItemsRepeat = (family : FamilyKind) (interval : ℕ) (start : ℤ) (items : List Item) → 1 ≤ interval → interval ≤ 4_294_967_295 → All (IsItemOf family) items
    → RepeatsEverywhere (items_have_day family interval start items) (family_cycle family interval)

-- The days of a pattern repeat after the cycle of its type and interval.
abbrev pub PatternRepeats : Type 0
PatternRepeats = (pattern : Pattern) (start : ℤ) → IsValidPattern pattern → pattern.interval ≤ 4_294_967_295
    → RepeatsEverywhere (is_pattern_day pattern start) (form_cycle pattern.form pattern.interval)

-- The cycle of a kind is that of its counterpart's text, whatever the items are.
abbrev pub CycleIsCounterparts : Type 0
CycleIsCounterparts = (rule : VRule) (kind : Kind) (start : ℤ) → IsValidVRule rule
    → rule_cycle (rule_of_vrule rule kind start) ≡ family_cycle rule.family rule.interval

-- The cycle of a type is that of its counterpart's text, whatever the members are.
abbrev pub CycleIsPatterns : Type 0
CycleIsPatterns = (pattern : Pattern) (end : End) → IsValidPattern pattern
    → rule_cycle (rule_of_pattern pattern end) ≡ form_cycle pattern.form pattern.interval
