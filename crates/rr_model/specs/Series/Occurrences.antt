-- What occurs in a series (RFC 5545, section 3.8.5; RFC 2445, section 4.8.5.2, EXRULE).
use Rattle.std.specs.Prelude.{◌≡◌, ◌⊎◌, true, List, [], ◌∷◌, ℤ}
use Rattle.std.specs.List.{Contains}
use Rattle.rr_model.specs.Rule.Member.{IsMember}
use Rattle.rr_model.specs.declared.kind.Kind.{Kind}
use Rattle.rr_model.specs.declared.rule.Rule.{Rule}
use Rattle.rr_model.specs.declared.rule.Series.{Series}

-- a member of one of the rules
abbrev pub IsMemberOfSome : List Rule → Kind → ℤ → ℤ → Type 0
IsMemberOfSome [] kind start t = ⊥
IsMemberOfSome (rule ∷ rules) kind start t = IsMember rule kind start t ⊎ IsMemberOfSome rules kind start t

-- the start if it counts, a member of a rule, or a date added; and neither a date taken out nor a member of an excluded rule
pub record Occurs (series : Series) (k : Kind) (t : ℤ) : Type 0 where
  pub kind : k ≡ series.kind
  pub stands : ((series.start_counts ≡ true) × (t ≡ series.start)) ⊎ IsMemberOfSome series.rules series.kind series.start t ⊎ Contains series.plus t
  pub kept : Contains series.minus t → ⊥
  pub not_excluded : IsMemberOfSome series.excluded series.kind series.start t → ⊥
