-- A series that has nothing but one rule, and its start.
use Rattle.std.specs.Prelude.{◌≡◌, true, [], ◌∷◌, ℤ}
use Rattle.rr_model.specs.Sets.Tree.{Tree, dates_of, union, many, nothing, part, except, without}
use Rattle.rr_model.specs.declared.kind.Kind.{Kind}
use Rattle.rr_model.specs.declared.rule.Rule.{Rule}
use Rattle.rr_model.specs.declared.rule.Series.{Series}

-- the tree that stands for such a series, by the tree of the rule's members
abbrev pub tree_alone : Kind → ℤ → Tree → Tree
tree_alone kind start members = without (except (union (dates_of kind (start ∷ [])) (many (part members nothing))) (many nothing)) kind []

-- The series has one rule and a start that counts; it has no excluded rule, and no date is added or taken out.
pub record IsAlone (series : Series) : Type 0 where
  pub rule : Rule
  pub rules : series.rules ≡ rule ∷ []
  pub excluded : series.excluded ≡ []
  pub plus : series.plus ≡ []
  pub minus : series.minus ≡ []
  pub start_counts : series.start_counts ≡ true
