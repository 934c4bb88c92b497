-- Validity is a proposition: there is one proof of it.
use Rattle.std.specs.Prelude.{Bool, List, [], ◌∷◌}
use Rattle.std.specs.Coded.{×_prop, Unit-prop, le_prop}
use Rattle.std.proofs.Props.{props}
use Rattle.rr_model.specs.Rising.{Rises}
use Rattle.rr_model.specs.Rule.Validity.{HasCountInRange, PartsRise, IsValidRule}
use Rattle.rr_model.specs.declared.kind.Kind.{Kind}
use Rattle.rr_model.specs.declared.rule.End.{End}
use Rattle.rr_model.specs.declared.rule.End.TheVariants.{Never, Until, Count, Both}
use Rattle.rr_model.specs.declared.rule.Rule.{Rule}

pub Rises-prop : {X : Type 0} (below : X → X → Bool) (xs : List X) → IsProp (Rises below xs)
Rises-prop below [] = Unit-prop
Rises-prop below (x ∷ []) = Unit-prop
Rises-prop below (x ∷ y ∷ ys) = (let p = Rises-prop below (y ∷ ys) in hlevel (props, p))

pub HasCountInRange-prop : (end : End) → IsProp (HasCountInRange end)
HasCountInRange-prop Never = Unit-prop
HasCountInRange-prop (Until kind at) = Unit-prop
HasCountInRange-prop (Count n) = ×_prop le_prop le_prop
HasCountInRange-prop (Both kind at n) = ×_prop le_prop le_prop

pub PartsRise-prop : (rule : Rule) → IsProp (PartsRise rule)
PartsRise-prop rule = hlevel (props, Rises-prop)

pub IsValidRule-prop : (kind : Kind) (rule : Rule) → IsProp (IsValidRule kind rule)
IsValidRule-prop kind rule = hlevel (props, HasCountInRange-prop, PartsRise-prop)
