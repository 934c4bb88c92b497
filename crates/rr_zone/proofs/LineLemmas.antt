-- A line of dates that each stand behind a comma.
use Rattle.std.proofs.Common.{◌≡◌, ℕ, List, [], ◌∷◌, ◌++◌, append-nil, Result, Ok, Err, OnOk, refl, ap, ◌∙◌}
use Rattle.std.specs.List.{join_with_byte}
use Rattle.rr_zone.specs.Lines.{dates_front, dates_line, line_behind_commas, turned_line}
use Rattle.rr_zone.specs.Values.{behind_commas}

joined : (date : List ℕ) (dates : List (List ℕ)) → date ++ behind_commas dates ≡ join_with_byte 44 (date ∷ dates)
joined date [] = append-nil date
joined date (next ∷ dates) = ap (λ (t : List ℕ). date ++ (44 ∷ t)) (joined next dates)

module _ (front value : List ℕ) where
  pub commas_line : (dates : List (List ℕ)) → line_behind_commas front value (behind_commas dates) ≡ dates_line front value dates
  commas_line [] = refl
  commas_line (date ∷ dates) = ap (turned_line (dates_front front) front value) (joined date dates)

  -- a line of dates is written
  pub dates_put : {A E : Type 0} (r : Result A E) (old new text : List ℕ) (dates : List (List ℕ)) → text ≡ behind_commas dates
      → OnOk r (new ≡ old ++ line_behind_commas front value text) → OnOk r (new ≡ old ++ dates_line front value dates)
  dates_put (Ok x) old new text dates e h = h ∙ ap (λ (t : List ℕ). old ++ t) (ap (line_behind_commas front value) e ∙ commas_line dates)
  dates_put (Err x) old new text dates e h = tt

  -- a line of one date is written
  pub one_put : {A E : Type 0} (r : Result A E) (turned old new written text : List ℕ) → written ≡ text
      → OnOk r (new ≡ old ++ turned_line turned front value written) → OnOk r (new ≡ old ++ turned_line turned front value text)
  one_put r turned old new written text e h = rw e at h
