-- The tree that stands for a series (RFC 5545, section 3.8.5).
use Rattle.std.specs.Prelude.{◌≡◌, ◌↔◌, true, List, [], ◌∷◌, if◌then◌else◌, int_lt, ℤ}
use Rattle.rr_model.specs.Rising.{with_value}
use Rattle.rr_model.specs.Series.Occurrences.{Occurs}
use Rattle.rr_model.specs.Series.Soundness.{IsSound}
use Rattle.rr_model.specs.Sets.Tree.{Tree, Forest, chosen_of, dates_of, union, many, upto, first_n, without, except, nothing, part, stands_in}
use Rattle.rr_model.specs.declared.kind.Kind.{Kind}
use Rattle.rr_model.specs.declared.rule.End.{End}
use Rattle.rr_model.specs.declared.rule.End.TheVariants.{Never, Until, Count, Both}
use Rattle.rr_model.specs.declared.rule.Rule.{Rule}
use Rattle.rr_model.specs.declared.rule.Series.{Series}

-- a tree up to the end of its rule
abbrev pub up_to_end : Kind → End → Tree → Tree
up_to_end kind Never a = a
up_to_end kind (Until other at) a = upto a kind at
up_to_end kind (Count count) a = first_n a count
up_to_end kind (Both other at count) a = first_n (upto a kind at) count

-- the members of a rule
abbrev pub members_of : Kind → ℤ → Rule → Tree
members_of kind start rule = up_to_end kind rule.end (chosen_of rule kind start)

-- the members of each rule
abbrev pub members_of_all : Kind → ℤ → List Rule → Forest
members_of_all kind start [] = nothing
members_of_all kind start (rule ∷ rules) = part (members_of kind start rule) (members_of_all kind start rules)

-- the dates added, and the start if it counts
abbrev pub dates_with_start : Series → List ℤ
dates_with_start series = if series.start_counts then with_value int_lt series.plus series.start else series.plus

-- the dates and the members of all rules
abbrev pub tree_of_given : Series → Tree
tree_of_given series = union (dates_of series.kind (dates_with_start series)) (many (members_of_all series.kind series.start series.rules))

-- the dates and the members of all rules, except the members of the excluded rules, without the dates taken out
abbrev pub tree_of : Series → Tree
tree_of series =
    without (except (tree_of_given series) (many (members_of_all series.kind series.start series.excluded))) series.kind series.minus

-- Exactly what occurs in a sound series stands in its tree.
abbrev pub TreeStandsForSeries : Type 0
TreeStandsForSeries = (series : Series) (k : Kind) (t : ℤ) → IsSound series → ((k ≡ series.kind) × (stands_in (tree_of series) k t ≡ true)) ↔ Occurs series k t
