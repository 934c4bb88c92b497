-- How a position moves.
use Rattle.std.specs.Prelude.{◌≡◌, ℤ, pos, ◌≤ℤ◌, refl}
use Rattle.std.proofs.Common.{arith}
use Rattle.std.proofs.lemmas.Int.{ints}
use Rattle.rr_model.specs.Bounds.{first_day_of_all}
use Rattle.rr_model.specs.Calendar.{first_day_of_year}
use Rattle.rr_model.specs.Sets.Tree.{Tree, chosen_of}
use Rattle.rr_lazy.specs.Next.{IsSoundLazy}
use Rattle.rr_walk.specs.Ruling.{Ruling, IsValidRuling}

-- the chosen moments of a rule beside its start
abbrev pub tree_of_ruling : Ruling → Tree
tree_of_ruling r = chosen_of r.rule r.kind r.start

-- the position is not before 0001-01-01
abbrev pub HasBegun : ℤ → Type 0
HasBegun position = first_day_of_all ≤ℤ position

first_day_is : first_day_of_year (pos 1) ≡ first_day_of_all
unfolding first_day_of_year
first_day_is = refl

-- a valid rule is a sound iterator
pub sound_ruling : (r : Ruling) (position : ℤ) → IsValidRuling r → HasBegun position → IsSoundLazy (tree_of_ruling r) position
sound_ruling r position v b = record { of_kind = (refl, v.valid, v.in_years); in_years = omega (arith, ints, first_day_is, b) }
