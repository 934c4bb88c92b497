-- What a tally and the items that are taken by it tell of the rules of a kind and interval.
use Rattle.std.proofs.Common.{◌≡◌, ℕ, ◌≤◌, ℤ, Option, None, Some, List, get_or, sym, ap, subst, ◌∙◌}
use Rattle.std.proofs.Common.{arith, to_z, of_z, to_z-of_z, w64, FitsSigned}
use borrow.Author.Differences.{fits_in}
use Rattle.std.proofs.lemmas.Int.{ints}
use Rattle.std.specs.Prelude.{◌⊎◌, map}
use Rattle.rr_check.proofs.RuleCycleLemmas.{interval_cycle_some}
use Rattle.rr_family.specs.Lasting.{is_occupied}
use Rattle.rr_family.specs.Places.{item_at, place_has_day}
use Rattle.rr_family.specs.Profile.{all_places, in_order, list_items, list_places, most_family_interval}
use Rattle.rr_family.specs.Shift.{family_cycle}
use Rattle.rr_family.specs.Sorts.{sort_of_day}
use Rattle.rr_family.specs.Taking.{some_gives, taken_places}
use Rattle.rr_family.specs.Windows.{HasWindow}
use Rattle.rr_family.specs.declared.window.Window.{Window}
use Rattle.rr_family.proofs.ProfileLemmas.{list_is_taken}
use Rattle.rr_find.specs.ByCounts.{AreTaken, IsAnswerOf, items_of}
use Rattle.rr_find.specs.Counted.{HasMixed, HasUnsorted, IsTallied}
use Rattle.rr_find.specs.Found.{HasNoRuleOfFamily, IsListOf, HasListedRule, days_up_to, found_of}
use Rattle.rr_find.proofs.ItemOrderLemmas.{items_are}
use Rattle.rr_find.proofs.RuleLemmas.{listed_rule, no_rule_if_unlisted, unlisted_if_given_up, window_of_days}
use Rattle.rr_find.proofs.TakenLemmas.{in_range, taken_is, covers_if_clear, clear_if_covers}
use Rattle.rr_model.specs.Sets.Sketch.{IsNearDay, IsValidSketch}
use Rattle.rr_model.specs.Vcal.Counterpart.{family_freq}
use Rattle.rr_model.specs.declared.item.Item.{Item}
use Rattle.rr_model.specs.declared.sketch.Sketch.{Sketch}
use Rattle.rr_model.specs.declared.vcal.FamilyKind.{FamilyKind}

module _ (s : Sketch) (w : Window) (f : FamilyKind) (interval days : ℕ) (valid : IsValidSketch s) (has : HasWindow s w)
    (low : 1 ≤ interval) (high : interval ≤ most_family_interval f) (some : 1 ≤ family_cycle f interval)
    (read : days_up_to w.first (family_cycle f interval) w.end ≡ Some days) (few : days ≤ 4_000_000_000) where
  pub list_of_taken : (oc fc : List ℕ) (items : Option (List Item)) → IsTallied oc fc (sort_of_day f interval w.first) (is_occupied s) w.first days
      → AreTaken f (λ sort. get_or oc sort 0) (λ sort. get_or fc sort 0) items → IsListOf s w f interval items
  list_of_taken oc fc items tally t = of_answer items t.answer
    where
      all_taken : taken_places (place_has_day f interval w.first) (is_occupied s) w.first days (all_places f) ≡ t.taken
      all_taken = taken_is f interval w.first (is_occupied s) days (λ sort. get_or oc sort 0) (λ sort. get_or fc sort 0) tally.of_occupied
          tally.of_free t.taken t.in_turn t.none_left

      -- the written list has the days of the taken items
      same_days : (d : ℤ) → some_gives (place_has_day f interval w.first) (list_places s f interval w.first days) d
          ≡ some_gives (place_has_day f interval w.first) t.taken d
      same_days d = list_is_taken s f interval w.first days d ∙ ap (λ indexes. some_gives (place_has_day f interval w.first) indexes d) all_taken

      same_items : list_items s f interval w.first days ≡ items_of f t.taken
      same_items = ap (λ indexes. map (item_at f) (in_order (all_places f) indexes)) all_taken
          ∙ sym (items_are f t.taken (in_range f (λ sort. get_or oc sort 0) (λ sort. get_or fc sort 0) t.taken t.in_turn))

      of_answer : (answer : Option (List Item)) → IsAnswerOf f (λ sort. get_or oc sort 0) t.taken answer → IsListOf s w f interval answer
      of_answer None unclear =
          no_rule_if_unlisted s w f interval days valid has (window_of_days s w.first (family_cycle f interval) some w.end days has.end read)
          (λ listed. unclear (clear_if_covers f interval w.first (is_occupied s) days (λ sort. get_or oc sort 0) (λ sort. get_or fc sort 0)
          tally.of_occupied tally.of_free
          t.taken (λ d l h. sym (same_days d) ∙ listed d l h)))
      of_answer (Some list) clear =
          subst (λ zs. HasListedRule s (found_of w f interval zs)) (same_items ∙ sym clear.1)
          (listed_rule s w f interval days valid has low high some read few
          (λ d l h. same_days d ∙ covers_if_clear f interval w.first (is_occupied s) days (λ sort. get_or oc sort 0) (λ sort. get_or fc sort 0)
          tally.of_occupied tally.of_free
          t.taken t.in_turn t.none_left tally.sorted clear.0 d l h))

  pub no_rule_if_given_up : HasUnsorted (sort_of_day f interval w.first) (is_occupied s) w.first days
      ⊎ HasMixed (sort_of_day f interval w.first) (is_occupied s) w.first days
      → HasNoRuleOfFamily s f interval
  no_rule_if_given_up lost =
      no_rule_if_unlisted s w f interval days valid has (window_of_days s w.first (family_cycle f interval) some w.end days has.end read)
      (unlisted_if_given_up s f interval w.first days lost)

-- a cycle has a day
pub some_cycle : (f : FamilyKind) (interval : ℕ) → 1 ≤ interval → 1 ≤ family_cycle f interval
some_cycle f interval low = interval_cycle_some (family_freq f) interval low

-- a near day is read as it is
pub near_read : (d : ℤ) → IsNearDay d → to_z w64 (of_z w64 d) ≡ d
near_read d near =
    let fits : FitsSigned w64 d = (let l = near.0 in let h = near.1 in omega (arith, ints, fits_in, l, h)) in
    to_z-of_z fits
