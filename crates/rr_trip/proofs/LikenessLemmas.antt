-- The keys by which events are found again.
use Rattle.std.proofs.Common.{◌≡◌, inl, inr, ℕ, ◌≤◌, min, List, [], ◌∷◌, ◌++◌, length, drop, Option, refl, ap, sym, ◌∙◌, arith}
use Rattle.std.proofs.lemmas.Bool.{cases_lt}
use Rattle.std.proofs.lemmas.List.{append-nil, at_drop_all}
use Rattle.rr_model.specs.declared.verdict.Side.{Side}
use Rattle.rr_seam.specs.declared.key.Key.{Key}
use Rattle.rr_trip.specs.Likeness.{keys_by}
use Rattle.rr_trip.specs.declared.features.Features.{Features}
use Rattle.rr_trip.specs.declared.found.Found.{Found}
use Rattle.rr_trip.specs.declared.likeness.Likeness.{Likeness}

-- without elements of the second list there are no keys
none_left : (likeness : Likeness) (side : Side) (n : ℕ) (fs : List (Option Features)) → keys_by likeness side n fs [] ≡ []
none_left likeness side n [] = refl
none_left likeness side n (f ∷ fs) = refl

module _ (likeness : Likeness) (side : Side) (fs : List (Option Features)) (ps : List (Option Found)) where
  -- no element is left of one of them
  none_more : (n : ℕ) → min (length fs) (length ps) ≤ n → keys_by likeness side n (drop n fs) (drop n ps) ≡ []
  none_more n end =
      elim (cases_lt n (length fs)) [
        | inl l ↦ at_drop_all (λ ys. keys_by likeness side n (drop n fs) ys) ps n (omega (arith, l, end)) ∙ none_left likeness side n (drop n fs)
        | inr g ↦ at_drop_all (λ ys. keys_by likeness side n ys (drop n ps)) fs n g
      ]

  -- no key is left
  pub all_keys : (keys all : List Key) (n : ℕ) → min (length fs) (length ps) ≤ n → keys ++ keys_by likeness side n (drop n fs) (drop n ps) ≡ all → keys ≡ all
  all_keys keys all n end so_far = sym (append-nil keys) ∙ ap (λ ks. keys ++ ks) (sym (none_more n end)) ∙ so_far
