-- Worked cases of draws: the first nine draws from 1, and the three series that they give.
use Rattle.std.proofs.Common.{◌≡◌, ℕ, zero, suc, List, [], ◌∷◌, pos, refl}
use Rattle.rr_model.specs.Rule.Plain.{plain_rule}
use Rattle.rr_model.specs.declared.rule.Freq.TheVariants.{Monthly, Yearly}
use Rattle.rr_drill.specs.Draws.{next_state, draw, dates_of_rule, series_list, drawn_series}

-- n draws from a state
unfoldable draws : ℕ → ℕ → List ℕ
draws zero x = []
draws (suc n) x = draw x ∷ draws n (next_state x)

nine_draws : draws 9 1 ≡ (16_838 ∷ 5_758 ∷ 10_113 ∷ 17_515 ∷ 31_051 ∷ 5_627 ∷ 23_010 ∷ 7_419 ∷ 16_212 ∷ [])
unfolding draws
nine_draws = refl

-- MONTHLY with interval 10 from 2024-01-11 on, YEARLY with interval 4 from 2024-01-16 on, YEARLY from 2024-01-23 on
three_series :
    drawn_series 1 3
    ≡ (dates_of_rule (pos 19_733) (plain_rule Monthly 10)
    ∷ dates_of_rule (pos 19_738) (plain_rule Yearly 4)
    ∷ dates_of_rule (pos 19_745) (plain_rule Yearly 1)
    ∷ [])
unfolding series_list
three_series = refl
