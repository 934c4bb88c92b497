-- Worked cases of the tree that stands for a series.
use Rattle.std.proofs.Common.{◌≡◌, true, false, List, [], ◌∷◌, ℤ, pos, refl}
use Rattle.rr_model.specs.Calendar.{weekday_of}
use Rattle.rr_model.specs.Calendar.Week.{week_index}
use Rattle.rr_model.specs.Rule.Candidate.{is_candidate}
use Rattle.rr_model.specs.Rule.Chosen.{is_chosen}
use Rattle.rr_model.specs.Rule.Plain.{plain_rule}
use Rattle.rr_model.specs.Series.Tree.{up_to_end, members_of, members_of_all, dates_with_start, tree_of}
use Rattle.rr_model.specs.Sets.Tree.{chosen_of, dates_of, union, many, upto, first_n, without, except, nothing, part, stands_in}
use Rattle.rr_model.specs.declared.kind.Kind.TheVariants.{Days}
use Rattle.rr_model.specs.declared.rule.End.TheVariants.{Never, Until, Count, Both}
use Rattle.rr_model.specs.declared.rule.Freq.TheVariants.{Weekly}
use Rattle.rr_model.specs.declared.rule.Rule.{Rule}
use Rattle.rr_model.specs.declared.rule.Series.{Series}

abbrev weekly : Rule
weekly = plain_rule Weekly 1

-- from 2024-01-01 on
abbrev with_excluded : List Rule → List Rule → List ℤ → List ℤ → Series
with_excluded rules excluded plus minus =
    record { kind = Days; start = pos 19_723; start_counts = true; rules = rules; excluded = excluded; plus = plus; minus = minus }

abbrev with_rules : List Rule → List ℤ → List ℤ → Series
with_rules rules plus minus = with_excluded rules [] plus minus

-- an end goes round the tree of its rule, and a count counts what lies up to an UNTIL
of_ends :
    (up_to_end Days Never (chosen_of weekly Days (pos 19_723)) ∷ up_to_end Days (Until Days (pos 19_730)) (dates_of Days []) ∷ up_to_end Days
    (Count 3) (dates_of Days [])
    ∷ up_to_end Days (Both Days (pos 19_730) 3) (dates_of Days []) ∷ [])
    ≡ (chosen_of weekly Days (pos 19_723) ∷ upto (dates_of Days []) Days (pos 19_730) ∷ first_n (dates_of Days []) 3
    ∷ first_n (upto (dates_of Days []) Days (pos 19_730)) 3 ∷ [])
of_ends = refl

-- an endless rule's members are what it chooses
of_rule : members_of Days (pos 19_723) weekly ≡ chosen_of weekly Days (pos 19_723)
of_rule = refl

-- the start is among the dates if it counts, once
of_dates :
    (dates_with_start (with_rules [] (pos 19_725 ∷ []) []) ≡ pos 19_723 ∷ pos 19_725 ∷ [])
    × (dates_with_start (with_rules [] (pos 19_723 ∷ []) []) ≡ pos 19_723 ∷ [])
of_dates = (refl, refl)

-- a weekly rule with RDATE 2024-01-03 and EXDATE 2024-01-08
abbrev changed : Series
changed = with_rules (weekly ∷ []) (pos 19_725 ∷ []) (pos 19_730 ∷ [])

whole :
    tree_of changed
    ≡ without
    (except (union (dates_of Days (pos 19_723 ∷ pos 19_725 ∷ [])) (many (part (chosen_of weekly Days (pos 19_723)) nothing))) (many nothing))
    Days
    (pos 19_730 ∷ [])
whole = refl

-- 2024-01-03 and 2024-01-15 stand in it; 2024-01-08 and 2024-01-16 do not
stands :
    (stands_in (tree_of changed) Days (pos 19_725) ≡ true)
    × (stands_in (tree_of changed) Days (pos 19_737) ≡ true)
    × (stands_in (tree_of changed) Days (pos 19_730) ≡ false)
    × (stands_in (tree_of changed) Days (pos 19_738) ≡ false)
unfolding is_chosen is_candidate week_index weekday_of
stands = (refl, refl, refl, refl)

-- each week, except every second one: 2024-01-08 stands in it, and neither 2024-01-15 nor the start does
abbrev thinned : Series
thinned = with_excluded (weekly ∷ []) (plain_rule Weekly 2 ∷ []) [] []

stands_thinned :
    (stands_in (tree_of thinned) Days (pos 19_730) ≡ true)
    × (stands_in (tree_of thinned) Days (pos 19_737) ≡ false)
    × (stands_in (tree_of thinned) Days (pos 19_723) ≡ false)
unfolding is_chosen is_candidate week_index weekday_of
stands_thinned = (refl, refl, refl)

-- a series of no rule has the dates alone
of_none : members_of_all Days (pos 19_723) [] ≡ nothing
of_none = refl
