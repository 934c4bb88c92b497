-- The seconds of two lists from one second on.
use Rattle.std.proofs.Common.{◌≡◌, inl, inr, ℕ, zero, suc, ◌+◌, ◌-◌, ◌<◌, ◌≤◌, List, [], ◌∷◌, length, get_or, take, drop, Option, None, Some, sym, ap, ◌∙◌, arith}
use Rattle.std.specs.Prelude.{MatchOption, nat_lt}
use Rattle.std.specs.List.{Contains}
use Rattle.std.proofs.lemmas.Bool.{cases_lt}
use Rattle.std.proofs.lemmas.List.{get_or-drop, get_or_default, length-drop, take_rest}
use Rattle.rr_model.specs.Rising.{Rises}
use Rattle.rr_model.specs.Sets.Verdict.{HoldsOnlyOf}
use Rattle.rr_model.specs.declared.verdict.Side.{Side}
use Rattle.rr_model.specs.declared.question.Question.TheVariants.{Equal}
use Rattle.rr_model.proofs.RisingSetLemmas.{Rises-tail}
use Rattle.rr_model.proofs.SideLemmas.{HoldsOnlyOf-same}
use Rattle.rr_times.specs.Split.{SplitsAt}
use Rattle.rr_decide.specs.Question.{IsFirstSecondShown, IsFirstShown, ShowsNone, shown_by}
use Rattle.rr_differ.specs.Next.{AgreeAfter, IsFirstAfter}
use Rattle.rr_differ.proofs.SideLemmas.{only_of_shown, only_some, shown_of_only}

Rises-drop : (k : ℕ) (xs : List ℕ) → Rises nat_lt xs → Rises nat_lt (drop k xs)
Rises-drop zero xs r = r
Rises-drop (suc k) [] r = tt
Rises-drop (suc k) (x ∷ xs) r = Rises-drop k xs (Rises-tail nat_lt x xs r)

-- the rest of a rising list rises
pub rest_rises : (k : ℕ) (xs : List ℕ) → Rises nat_lt xs → Rises nat_lt (take (length xs - k) (drop k xs))
rest_rises k xs r = rw (take_rest xs k) (Rises-drop k xs r)

module _ (xs : List ℕ) (k from : ℕ) (split : SplitsAt xs k from) where
  -- what stands in the rest is not below the second at which the list is split
  in_whole : (w : ℕ) → Contains (drop k xs) w → Contains xs w × (from ≤ w)
  in_whole w (i, l, e) =
      let m : k + i < length xs = omega (arith, l, length-drop k xs) in
      let at : get_or xs (k + i) w ≡ w = sym (get_or-drop k xs i w) ∙ e in
      let same : get_or xs (k + i) 0 ≡ w = get_or_default xs (k + i) 0 w m ∙ at in
      ((k + i, m, at), (let a = split.from (k + i) (omega arith) m in omega (arith, a, same)))

  in_rest : (w : ℕ) → Contains xs w → from ≤ w → Contains (drop k xs) w
  in_rest w (i, l, e) low = elim (cases_lt i k) [
    | inl m ↦
        let same : get_or xs i 0 ≡ w = get_or_default xs i 0 w l ∙ e in
        absurd (let a = split.below i m in omega (arith, a, same, low))
    | inr m ↦
        let there : k + (i - k) ≡ i = omega arith in
        (i - k, omega (arith, length-drop k xs), get_or-drop k xs (i - k) w ∙ ap (λ j. get_or xs j w) there ∙ e)
  ]

-- ---- two lists, each split at the same second

module _ (xs ys : List ℕ) (i j from : ℕ) (of_a : SplitsAt xs i from) (of_b : SplitsAt ys j from) where
  to_rests : (w : ℕ) (side : Side) → from ≤ w → HoldsOnlyOf side (Contains xs w) (Contains ys w)
      → HoldsOnlyOf side (Contains (drop i xs) w) (Contains (drop j ys) w)
  to_rests w side low h =
      HoldsOnlyOf-same side (Contains xs w) (Contains (drop i xs) w) (Contains ys w) (Contains (drop j ys) w)
      ((λ c. in_rest xs i from of_a w c low), (λ c. (in_whole xs i from of_a w c).0))
      ((λ c. in_rest ys j from of_b w c low), (λ c. (in_whole ys j from of_b w c).0)) h

  to_wholes : (w : ℕ) (side : Side) → HoldsOnlyOf side (Contains (drop i xs) w) (Contains (drop j ys) w)
      → HoldsOnlyOf side (Contains xs w) (Contains ys w) × (from ≤ w)
  to_wholes w side h =
      let low : from ≤ w = elim (only_some side (Contains (drop i xs) w) (Contains (drop j ys) w) h) [
        | inl c ↦ (in_whole xs i from of_a w c).1
        | inr c ↦ (in_whole ys j from of_b w c).1
      ] in (
        HoldsOnlyOf-same side (Contains (drop i xs) w) (Contains xs w) (Contains (drop j ys) w) (Contains ys w)
            ((λ c. (in_whole xs i from of_a w c).0), (λ c. in_rest xs i from of_a w c low))
            ((λ c. (in_whole ys j from of_b w c).0), (λ c. in_rest ys j from of_b w c low)) h,
        low,
      )

  none_left : ShowsNone (shown_by Equal) (drop i xs) (drop j ys) → AgreeAfter xs ys from
  none_left none w side low h =
      none w (shown_of_only side (Contains (drop i xs) w) (Contains (drop j ys) w) (to_rests w side low h))

  one_left : (second : ℕ) (side : Side) → IsFirstShown (shown_by Equal) (drop i xs) (drop j ys) second side → IsFirstAfter xs ys from second side
  one_left second side first =
      let here = to_wholes second side
      (only_of_shown side (Contains (drop i xs) second) (Contains (drop j ys) second) first.shown first.holds) in
      record {
        not_before = here.1;
        holds = here.0;
        none_earlier = λ w r low less h.
            first.none_below w less (shown_of_only r (Contains (drop i xs) w) (Contains (drop j ys) w) (to_rests w r low h));
      }

  first_left : (r : Option (ℕ × Side)) → IsFirstSecondShown Equal (drop i xs) (drop j ys) r
      → MatchOption r (AgreeAfter xs ys from) (λ q. IsFirstAfter xs ys from q.0 q.1)
  first_left None none = none_left none
  first_left (Some q) first = one_left q.0 q.1 first

  -- as the code has the rests
  pub first_in_rests : (r : Option (ℕ × Side)) → IsFirstSecondShown Equal (take (length xs - i) (drop i xs)) (take (length ys - j) (drop j ys)) r
      → MatchOption r (AgreeAfter xs ys from) (λ q. IsFirstAfter xs ys from q.0 q.1)
  first_in_rests r h = first_left r (rw (take_rest xs i, take_rest ys j) at h)
