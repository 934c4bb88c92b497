-- Worked cases of what stands in trees.
use Rattle.std.proofs.Common.{◌≡◌, true, false, [], ◌∷◌, pos, refl}
use Rattle.rr_model.specs.Calendar.Week.{week_index}
use Rattle.rr_model.specs.Calendar.{weekday_of}
use Rattle.rr_model.specs.Rule.Candidate.{is_candidate}
use Rattle.rr_model.specs.Rule.Chosen.{is_chosen}
use Rattle.rr_model.specs.Rule.Plain.{plain_rule}
use Rattle.rr_model.specs.Sets.Tree.{Tree, chosen_of, dates_of, union, upto, without, stands_at, stands_in}
use Rattle.rr_model.specs.declared.kind.Kind.TheVariants.{Days, Moments}
use Rattle.rr_model.specs.declared.rule.Freq.TheVariants.{Weekly}

-- 2024-01-01 and 2024-01-03
abbrev two_dates : Tree
two_dates = dates_of Days (pos 19_723 ∷ pos 19_725 ∷ [])

-- FREQ=WEEKLY from 2024-01-01 on
abbrev mondays : Tree
mondays = chosen_of (plain_rule Weekly 1) Days (pos 19_723)

-- the dates stand in their tree, and no other day
dates : (stands_in two_dates Days (pos 19_725) ≡ true) × (stands_in two_dates Days (pos 19_724) ≡ false)
dates = (refl, refl)

-- 2024-01-08 stands in the rule's tree; 2024-01-09 and the Monday before the start do not
rule : (stands_in mondays Days (pos 19_730) ≡ true) × (stands_in mondays Days (pos 19_731) ≡ false) × (stands_in mondays Days (pos 19_716) ≡ false)
unfolding is_chosen is_candidate week_index weekday_of
rule = (refl, refl, refl)

-- a union has the days of both sides
both : (stands_in (union two_dates mondays) Days (pos 19_725) ≡ true) × (stands_in (union two_dates mondays) Days (pos 19_730) ≡ true)
unfolding is_chosen is_candidate week_index weekday_of
both = (refl, refl)

-- an end is inclusive
end : (stands_in (upto mondays Days (pos 19_730)) Days (pos 19_730) ≡ true) × (stands_in (upto mondays Days (pos 19_730)) Days (pos 19_737) ≡ false)
unfolding is_chosen is_candidate week_index weekday_of
end = (refl, refl)

-- dates are taken out
left_out : (stands_in (without mondays Days (pos 19_730 ∷ [])) Days (pos 19_730) ≡ false)
    × (stands_in (without mondays Days (pos 19_730 ∷ [])) Days (pos 19_737) ≡ true)
unfolding is_chosen is_candidate week_index weekday_of
left_out = (refl, refl)

-- 2024-01-01T09:00:00 stands at its second alone
moment : (stands_at (dates_of Moments (pos 1_704_099_600 ∷ [])) (pos 19_723) 32_400 ≡ true)
    × (stands_at (dates_of Moments (pos 1_704_099_600 ∷ [])) (pos 19_723) 32_401 ≡ false)
moment = (refl, refl)
