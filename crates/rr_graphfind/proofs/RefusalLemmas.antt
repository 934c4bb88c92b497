-- What a look at one pattern tells of those that share its first members.
use Rattle.std.proofs.Common.{◌≡◌, ℕ, ℤ, pos, true, false, refl, sym, ap, subst, ◌∙◌, arith, ◌+ℤ◌, ◌≤ℤ◌, ◌<ℤ◌}
use Rattle.std.specs.Prelude.{◌↔◌, ◌%◌, ◌==◌, Bool, not, IsTrue}
use Rattle.std.specs.Bool.{then_some}
use Rattle.std.specs.Int.{◌∣◌}
use Rattle.std.proofs.lemmas.Bool.{eqb-true, false≢true}
use Rattle.std.proofs.lemmas.Bool.Decides.{nat_tests}
use Rattle.std.proofs.lemmas.Nat.Gcd.{dvd_of_mod-eq-zero, mod-eq-zero_of_dvd}
use Rattle.rr_model.specs.Calendar.{month_of}
use Rattle.rr_model.specs.Graph.Occurrences.{is_pattern_day}
use Rattle.rr_model.specs.Graph.Uses.{uses_month}
use Rattle.rr_model.specs.Graph.Validity.{IsValidPattern}
use Rattle.rr_model.specs.declared.graph.Pattern.{Pattern}
use Rattle.rr_model.specs.declared.sketch.Sketch.{Sketch}
use Rattle.rr_family.specs.Lasting.{is_occupied}
use Rattle.rr_family.specs.Shift.{form_cycle}
use Rattle.rr_family.specs.Taking.{AgreeWithin}
use Rattle.rr_family.specs.declared.window.Window.{Window}
use Rattle.rr_family.proofs.PlaceLemmas.{one_form}
use Rattle.rr_graphfind.specs.Order.{IsRefusal, NoneWith, SameMembers}
use Rattle.rr_graphfind.specs.declared.next.Group.TheVariants as group
use Rattle.rr_graphfind.specs.Search.{FitsEnd, Matches, days_compared}
use Rattle.rr_graphfind.proofs.MemberLemmas.{month_in, same_pattern}

module _ (s : Sketch) (w : Window) (p : Pattern) (cycle : ℕ) (e : cycle ≡ form_cycle p.form p.interval) where
  cycle_is : (q : Pattern) → SameMembers 2 q p → form_cycle q.form q.interval ≡ cycle
  cycle_is q h = ap (λ z. form_cycle z q.interval) (one_form q.form p.form h.1.0) ∙ ap (form_cycle p.form) h.0 ∙ sym e

  -- if the cycle does not fit, none matches
  pub none_unfit : (FitsEnd w.end w.first cycle → ⊥) → NoneWith 3 p (Matches s w)
  none_unfit unfit q h m = unfit (subst (λ c. FitsEnd w.end w.first c) (cycle_is q (h.0, (h.1.0, tt))) m.fits)

  -- if it fits, the days that are compared tell
  module _ (days : ℕ) (first : ℤ) (fits : FitsEnd w.end w.first cycle) (at : first ≡ w.first) (same : days ≡ days_compared w.end w.first cycle) where
    agrees_if : (q : Pattern) → SameMembers 2 q p → Matches s w q → AgreeWithin (is_pattern_day q first) (is_occupied s) first days
    agrees_if q h m =
        subst (λ z. AgreeWithin (is_pattern_day q z) (is_occupied s) z days) (sym at)
        (subst (λ n. AgreeWithin (is_pattern_day q w.first) (is_occupied s) w.first n) (ap (days_compared w.end w.first) (cycle_is q h) ∙ sym same) m.agrees.agree)

    matches_if : IsValidPattern p → AgreeWithin (is_pattern_day p first) (is_occupied s) first days → Matches s w p
    matches_if valid agree = record {
      fits = subst (λ c. FitsEnd w.end w.first c) e fits;
      agrees = record {
        valid = valid;
        agree = subst (λ n. AgreeWithin (is_pattern_day p w.first) (is_occupied s) w.first n) (same ∙ ap (days_compared w.end w.first) e)
            (subst (λ z. AgreeWithin (is_pattern_day p z) (is_occupied s) z days) at agree);
      };
    }

    none_alone : IsValidPattern p → (AgreeWithin (is_pattern_day p first) (is_occupied s) first days → ⊥) → NoneWith 7 p (Matches s w)
    none_alone valid differs q h m =
        let is = same_pattern q p m.agrees.valid valid h in
        differs (subst (λ z. AgreeWithin (is_pattern_day z first) (is_occupied s) first days) is (agrees_if q (h.0, (h.1.0, tt)) m))

    pub refused_if : (has : Bool) → IsValidPattern p → (IsTrue has ↔ AgreeWithin (is_pattern_day p first) (is_occupied s) first days)
        → IsRefusal (Matches s w) p (then_some (not has) group.Alone)
    refused_if true valid is = matches_if valid (is.0 refl)
    refused_if false valid is = none_alone valid (λ agree. false≢true (is.1 agree))

    pub none_out_of_month : (d : ℤ) → first ≤ℤ d → d <ℤ (first +ℤ pos days) → is_occupied s d ≡ true → uses_month p.form ≡ true
        → (month_of d == p.month) ≡ false → NoneWith 5 p (Matches s w)
    none_out_of_month d low high occupied uses out q h m =
        let same_form : q.form ≡ p.form = one_form q.form p.form h.1.0 in
        let agree = agrees_if q (h.0, (h.1.0, tt)) m in
        let in_month = month_in q first d (subst (λ f. uses_month f ≡ true) (sym same_form) uses) (agree d low high ∙ occupied) in
        false≢true (sym out ∙ subst (λ n. (month_of d == n) ≡ true) h.1.1.1.1.0 in_month)

-- the test of a whole number of periods
pub divides_if : (period cycle : ℕ) → IsTrue (cycle % period == 0) ↔ (period ∣ cycle)
divides_if period cycle =
    (λ h. dvd_of_mod-eq-zero period (eqb-true (cycle % period) 0 h), λ h. is_zero (mod-eq-zero_of_dvd period h))
  where
    is_zero : cycle % period ≡ 0 → IsTrue (cycle % period == 0)
    is_zero e = grind (arith, nat_tests)
