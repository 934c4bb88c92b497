-- Worked cases of the kind of a tree.
use Rattle.std.proofs.Common.{◌≡◌, [], ◌∷◌, pos, refl}
use Rattle.std.specs.Prelude.{None, Some}
use Rattle.rr_model.specs.Sets.Tree.{dates_of, first_n, many, union, nothing, part, kind_in, or_days}
use Rattle.rr_model.specs.declared.kind.Kind.TheVariants.{Days, Moments}

-- the kind of its first leaf, and none if it has no leaf
of_trees :
    (kind_in (union (many nothing) (dates_of Moments [])) ≡ Some Moments)
    × (kind_in (first_n (many (part (dates_of Days (pos 1 ∷ [])) nothing)) 3) ≡ Some Days)
    × (kind_in (many nothing) ≡ None)
of_trees = (refl, refl, refl)

of_none : (or_days None ≡ Days) × (or_days (Some Moments) ≡ Moments)
of_none = (refl, refl)
