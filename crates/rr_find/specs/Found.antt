-- What the search for a rule finds.
use Rattle.std.specs.Prelude.{◌≡◌, ℕ, ◌<◌, ◌%◌, ◌==◌, ◌&&◌, if◌then◌else◌, Option, None, Some, List, ℤ}
use Rattle.std.specs.Ordering.{int_eq}
use Rattle.rr_family.specs.DaySets.{window_days}
use Rattle.rr_family.specs.Profile.{IsRuleOf, IsFirstRule, IsWindow, EndsWith, kind_place, list_items, vrule}
use Rattle.rr_family.specs.Shift.{family_cycle}
use Rattle.rr_family.specs.declared.window.Window.{Window}
use Rattle.rr_family.specs.declared.window.WindowEnd.{WindowEnd}
use Rattle.rr_family.specs.declared.window.WindowEnd.TheVariants.{Last, Cycle}
use Rattle.rr_find.specs.declared.found.Found.{Found}
use Rattle.rr_model.specs.Moment.{Occurrences, day_part, moment_at}
use Rattle.rr_model.specs.Sets.Sketch.{StandsIn}
use Rattle.rr_model.specs.declared.item.Item.{Item}
use Rattle.rr_model.specs.declared.kind.Kind.{Kind}
use Rattle.rr_model.specs.declared.rule.End.{End}
use Rattle.rr_model.specs.declared.rule.End.TheVariants.{Never, Count}
use Rattle.rr_model.specs.declared.sketch.Sketch.{Sketch}
use Rattle.rr_model.specs.declared.vcal.FamilyKind.{FamilyKind}
use Rattle.rr_model.specs.declared.vcal.VRule.{VRule}

-- the first rule that has the occurrences, and none exactly if no rule has them
abbrev pub IsFound : Occurrences → Option Found → Type 0
IsFound P None = (rule : VRule) (kind : Kind) (start : ℤ) → IsRuleOf P rule kind start → ⊥
IsFound P (Some found) = IsFirstRule P found.rule found.kind found.start

-- ---- of one kind and interval

-- no rule of this kind and interval has the set
abbrev pub HasNoRuleOfFamily : Sketch → FamilyKind → ℕ → Type 0
HasNoRuleOfFamily s f interval = (rule : VRule) (kind : Kind) (start : ℤ) → IsRuleOf (StandsIn s) rule kind start → rule.family ≡ f → rule.interval ≡ interval → ⊥

-- the rule has the set, and its items are those of the list that is taken on the window
pub record HasListedRule (s : Sketch) (found : Found) : Type 0 where
  pub is_rule : IsRuleOf (StandsIn s) found.rule found.kind found.start
  pub days : ℕ
  pub window : IsWindow s (day_part found.kind found.start) (family_cycle found.rule.family found.rule.interval) days
  pub items : found.rule.items ≡ list_items s found.rule.family found.rule.interval (day_part found.kind found.start) days
  pub ends : EndsWith s (day_part found.kind found.start) found.rule.end

-- the end of a rule that ends as the set does
abbrev pub end_of : WindowEnd → End
end_of (Last day many) = Count many
end_of (Cycle period start) = Never

-- the rule of these items from the first occurrence on, with the set's end
abbrev pub found_of : Window → FamilyKind → ℕ → List Item → Found
found_of w f interval items = record {
  kind = w.kind;
  start = moment_at w.kind w.first w.second;
  rule = vrule f interval items (end_of w.end);
}

-- the items of a rule that has the set, and none exactly if no rule of this kind and interval has it
abbrev pub IsListOf : Sketch → Window → FamilyKind → ℕ → Option (List Item) → Type 0
IsListOf s w f interval None = HasNoRuleOfFamily s f interval
IsListOf s w f interval (Some items) = HasListedRule s (found_of w f interval items)

-- the rule of this kind and interval
abbrev pub IsFoundOf : Sketch → FamilyKind → ℕ → Option Found → Type 0
IsFoundOf s f interval None = HasNoRuleOfFamily s f interval
IsFoundOf s f interval (Some found) = HasListedRule s found × (found.rule.family ≡ f) × (found.rule.interval ≡ interval)

-- how many days are read: up to the last one, or one cycle if it can be the set's
abbrev pub days_up_to : ℤ → ℕ → WindowEnd → Option ℕ
days_up_to first cycle (Last day many) = Some (window_days first day)
days_up_to first cycle (Cycle period start) = if int_eq start first && (cycle % period == 0) then Some cycle else None

-- how many days are read for a kind and interval: up to the last one, or one cycle if it can be the set's
abbrev pub days_to_read : Window → FamilyKind → ℕ → Option ℕ
days_to_read w f interval = days_up_to w.first (family_cycle f interval) w.end

-- ---- of one interval

-- no rule of this interval whose kind comes before the place has the set
abbrev pub HasNoRuleBefore : Sketch → ℕ → ℕ → Type 0
HasNoRuleBefore s interval place = (rule : VRule) (kind : Kind) (start : ℤ) → IsRuleOf (StandsIn s) rule kind start → rule.interval ≡ interval
    → kind_place rule.family < place → ⊥

-- the first rule of this interval
abbrev pub IsFoundAt : Sketch → ℕ → Option Found → Type 0
IsFoundAt s interval None = HasNoRuleBefore s interval 6
IsFoundAt s interval (Some found) = HasListedRule s found × (found.rule.interval ≡ interval) × HasNoRuleBefore s interval (kind_place found.rule.family)

-- ---- of all intervals

-- no rule of a lesser interval has the set
abbrev pub HasNoRuleBelow : Sketch → ℕ → Type 0
HasNoRuleBelow s interval = (rule : VRule) (kind : Kind) (start : ℤ) → IsRuleOf (StandsIn s) rule kind start → rule.interval < interval → ⊥
