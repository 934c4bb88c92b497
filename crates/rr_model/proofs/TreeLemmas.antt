-- There is one proof at most that a tree is of a kind.
use Rattle.std.specs.Coded.{×_prop, Unit-prop}
use Rattle.std.proofs.Props.{props}
use Rattle.rr_model.specs.Sets.Tree.{Tree, Forest, chosen_of, dates_of, union, many, upto, first_n, without, except, nothing, part, IsOfKind, AreOfKind}
use Rattle.rr_model.specs.Sets.Tree.{IsOfOneKind, kind_in, or_days}
use Rattle.rr_model.specs.declared.kind.Kind.{Kind}
use Rattle.rr_model.proofs.ValidityProps.{HasCountInRange-prop, PartsRise-prop}

mutual
  pub IsOfKind-prop : (k : Kind) (tree : Tree) → IsProp (IsOfKind k tree)
  IsOfKind-prop k (chosen_of rule kind start) = hlevel (props, HasCountInRange-prop, PartsRise-prop)
  IsOfKind-prop k (dates_of kind dates) = hlevel props
  IsOfKind-prop k (union a b) = ×_prop (IsOfKind-prop k a) (IsOfKind-prop k b)
  IsOfKind-prop k (many parts) = AreOfKind-prop k parts
  IsOfKind-prop k (upto a kind at) = let p = IsOfKind-prop k a in hlevel (props, p)
  IsOfKind-prop k (first_n a n) = IsOfKind-prop k a
  IsOfKind-prop k (without a kind dates) = let p = IsOfKind-prop k a in hlevel (props, p)
  IsOfKind-prop k (except a b) = ×_prop (IsOfKind-prop k a) (IsOfKind-prop k b)

  pub AreOfKind-prop : (k : Kind) (parts : Forest) → IsProp (AreOfKind k parts)
  AreOfKind-prop k nothing = Unit-prop
  AreOfKind-prop k (part a parts) = ×_prop (IsOfKind-prop k a) (AreOfKind-prop k parts)

pub IsOfOneKind-prop : (tree : Tree) → IsProp (IsOfOneKind tree)
IsOfOneKind-prop tree = IsOfKind-prop (or_days (kind_in tree)) tree
