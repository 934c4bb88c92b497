-- A tree of a kind is of one kind.
use Rattle.std.proofs.Common.{◌≡◌, ◌⊎◌, inl, inr, ap, sym, refl}
use Rattle.std.specs.Prelude.{Option, Some, None}
use Rattle.std.specs.Option.{option_or}
use Rattle.std.proofs.lemmas.Option.{none-some}
use Rattle.rr_model.specs.Sets.Tree.{Tree, Forest, chosen_of, dates_of, union, many, upto, first_n, without, except, nothing, part, IsOfKind, AreOfKind}
use Rattle.rr_model.specs.Sets.Tree.{IsOfOneKind, kind_in, kind_in_some}
use Rattle.rr_model.specs.declared.kind.Kind.{Kind}
use Rattle.rr_model.specs.declared.kind.Kind.TheVariants.{Days}

-- the first of two, if each is this kind or none
either_is : (k : Kind) (x y : Option Kind) → (x ≡ None) ⊎ (x ≡ Some k) → (y ≡ None) ⊎ (y ≡ Some k) → (option_or x y ≡ None) ⊎ (option_or x y ≡ Some k)
either_is k None y a b = b
either_is k (Some j) y a b = a

both_none : (x y : Option Kind) → option_or x y ≡ None → (x ≡ None) × (y ≡ None)
both_none None y e = (refl, e)
both_none (Some j) y e = absurd (none-some j (sym e))

-- the first kind of a tree of a kind is that one
mutual
  kind_is : (k : Kind) (tree : Tree) → IsOfKind k tree → (kind_in tree ≡ None) ⊎ (kind_in tree ≡ Some k)
  kind_is k (chosen_of rule kind start) h = inr (ap Some h.0)
  kind_is k (dates_of kind dates) h = inr (ap Some h.0)
  kind_is k (union a b) h = either_is k (kind_in a) (kind_in b) (kind_is k a h.0) (kind_is k b h.1)
  kind_is k (many parts) h = kinds_are k parts h
  kind_is k (upto a kind at) h = inr (ap Some h.0)
  kind_is k (first_n a n) h = kind_is k a h
  kind_is k (without a kind dates) h = inr (ap Some h.0)
  kind_is k (except a b) h = either_is k (kind_in a) (kind_in b) (kind_is k a h.0) (kind_is k b h.1)

  kinds_are : (k : Kind) (parts : Forest) → AreOfKind k parts → (kind_in_some parts ≡ None) ⊎ (kind_in_some parts ≡ Some k)
  kinds_are k nothing h = inl refl
  kinds_are k (part a parts) h = either_is k (kind_in a) (kind_in_some parts) (kind_is k a h.0) (kinds_are k parts h.1)

-- a tree without a kind is of each
mutual
  any_kind : (k j : Kind) (tree : Tree) → kind_in tree ≡ None → IsOfKind k tree → IsOfKind j tree
  any_kind k j (chosen_of rule kind start) e h = absurd (none-some kind (sym e))
  any_kind k j (dates_of kind dates) e h = absurd (none-some kind (sym e))
  any_kind k j (union a b) e h = let n = both_none (kind_in a) (kind_in b) e in (any_kind k j a n.0 h.0, any_kind k j b n.1 h.1)
  any_kind k j (many parts) e h = any_kinds k j parts e h
  any_kind k j (upto a kind at) e h = absurd (none-some kind (sym e))
  any_kind k j (first_n a n) e h = any_kind k j a e h
  any_kind k j (without a kind dates) e h = absurd (none-some kind (sym e))
  any_kind k j (except a b) e h = let n = both_none (kind_in a) (kind_in b) e in (any_kind k j a n.0 h.0, any_kind k j b n.1 h.1)

  any_kinds : (k j : Kind) (parts : Forest) → kind_in_some parts ≡ None → AreOfKind k parts → AreOfKind j parts
  any_kinds k j nothing e h = h
  any_kinds k j (part a parts) e h = let n = both_none (kind_in a) (kind_in_some parts) e in (any_kind k j a n.0 h.0, any_kinds k j parts n.1 h.1)

pub of_one_kind : (k : Kind) (tree : Tree) → IsOfKind k tree → IsOfOneKind tree
of_one_kind k tree h = elim (kind_is k tree h) [
  | inl e ↦ rw e (any_kind k Days tree e h)
  | inr e ↦ rw e h
]
