-- A text that is cut behind each byte of a kind.
use Rattle.std.proofs.Common.{◌≡◌, ℕ, ◌+◌, ◌<◌, ◌==◌, Bool, true, false, cond, List, [], ◌∷◌, ◌++◌, append_assoc, length, take, drop, map, Option, None, Some, option_map, OnOk, Result, Ok, Err, refl, sym, ap, ◌∙◌, subst, arith}
use Rattle.std.specs.Prelude.{nat_lt}
use Rattle.std.specs.List.{join_with_byte, onto_first, position, position_or_len, slice_split}
use Rattle.std.proofs.lemmas.Bool.Decides.{nat_tests}
use Rattle.std.proofs.lemmas.Grind.{common_steps}
use Rattle.std.proofs.lemmas.List.Elements.{All-from_get_or}
use Rattle.std.proofs.lemmas.List.Splits.{join_with_byte-slice_split, slice_split_first, slice_split_none}
use Rattle.std.proofs.lemmas.List.Sums.{fails_before_first}
use Rattle.std.proofs.lemmas.Option.{cond_some}
use Rattle.rr_model.specs.Text.RuleValues.{pieces}
use Rattle.rr_model.specs.Text.Rules.{split_once}

no_place : (b : Bool) (x : ℕ) → cond b (Some x) None ≡ None → b ≡ false
no_place true x h = absurd (cc)
no_place false x h = refl

-- two pairs that are one have the same sides
sides_of : (o p : List ℕ × List ℕ) → Some o ≡ Some p → (o.0 ≡ p.0) × (o.1 ≡ p.1)
sides_of o p h =
    let e : o ≡ p = cc in
    (ap (λ (q : List ℕ × List ℕ). q.0) e, ap (λ (q : List ℕ × List ℕ). q.1) e)

module _ (b : ℕ) (text : List ℕ) where
  abbrev is_cut : ℕ → Bool
  is_cut c = c == b

  -- cut at its first such byte
  pub cut : (piece rest : List ℕ) → split_once b text ≡ Some (piece, rest) → (pieces b text ≡ piece ∷ pieces b rest) × (length rest < length text)
  cut piece rest h = by (position is_cut text) refl h
    where
      by : (o : Option ℕ) → position is_cut text ≡ o → option_map {U = List ℕ × List ℕ} (λ i. (take i text, drop (i + 1) text)) o ≡ Some (piece, rest)
          → (pieces b text ≡ piece ∷ pieces b rest) × (length rest < length text)
      by None e h = absurd (cc)
      by (Some i) e h =
          let found = cond_some (nat_lt (position_or_len is_cut text) (length text)) (position_or_len is_cut text) i e in
          let within : position_or_len is_cut text < length text = grind (arith, nat_tests, found.0) in
          let below : i < length text = subst (λ k. k < length text) found.1 within in
          let parts : slice_split is_cut text ≡ take i text ∷ slice_split is_cut (drop (i + 1) text) =
          subst (λ k. slice_split is_cut text ≡ take k text ∷ slice_split is_cut (drop (k + 1) text)) found.1 (slice_split_first is_cut text 0 within) in
          let sides = sides_of (take i text, drop (i + 1) text) (piece, rest) h in
          let first : take i text ≡ piece = sides.0 in
          let last : drop (i + 1) text ≡ rest = sides.1 in
          let shorter : length (drop (i + 1) text) < length text = grind (arith, common_steps, below) in (
            parts ∙ ap (λ x. x ∷ slice_split is_cut (drop (i + 1) text)) first ∙ ap (λ x. piece ∷ slice_split is_cut x) last,
            subst (λ x. length x < length text) last shorter,
          )

  -- in one piece
  pub uncut : split_once b text ≡ None → pieces b text ≡ text ∷ []
  uncut h = by (position is_cut text) refl h
    where
      by : (o : Option ℕ) → position is_cut text ≡ o → option_map {U = List ℕ × List ℕ} (λ i. (take i text, drop (i + 1) text)) o ≡ None → pieces b text ≡ text ∷ []
      by (Some i) e h = absurd (cc)
      by None e h =
          let over = no_place (nat_lt (position_or_len is_cut text) (length text)) (position_or_len is_cut text) e in
          slice_split_none is_cut text
          (All-from_get_or (λ c. is_cut c ≡ false) text 0 (λ i below. fails_before_first is_cut text i 0 (grind (arith, nat_tests, over, below))))

-- ---- pieces written anew, with the byte between them

-- a text has a first piece
pub record HasPiece (ps : List (List ℕ)) : Type 0 where
  pub first : List ℕ
  pub more : List (List ℕ)
  pub is : ps ≡ first ∷ more

split_more : (c : ℕ) (ps : List (List ℕ)) (d : Bool) → HasPiece ps → HasPiece (cond d ([] ∷ ps) (onto_first c ps))
split_more c ps true has = record { first = []; more = ps; is = refl }
split_more c ps false has = record { first = c ∷ has.first; more = has.more; is = ap (onto_first c) has.is }

pub split_some : (p : ℕ → Bool) (text : List ℕ) → HasPiece (slice_split p text)
split_some p [] = record { first = []; more = []; is = refl }
split_some p (c ∷ cs) = split_more c (slice_split p cs) (p c) (split_some p cs)

module _ (b : ℕ) (f : List ℕ → List ℕ) where
  abbrev pub anew : List ℕ → List ℕ
  anew text = join_with_byte b (map f (pieces b text))

  join_more : (x : List ℕ) (xs : List (List ℕ)) (first : List ℕ) (more : List (List ℕ)) → xs ≡ first ∷ more
      → join_with_byte b (map f (x ∷ xs)) ≡ f x ++ (b ∷ join_with_byte b (map f xs))
  join_more x xs first more e = rw e refl

  -- one piece is written with the byte behind it
  pub piece_written : (old new all text piece rest : List ℕ) → split_once b text ≡ Some (piece, rest) → new ≡ old ++ (f piece ++ b ∷ [])
      → old ++ anew text ≡ all → new ++ anew rest ≡ all
  piece_written old new all text piece rest at more so_far =
      let some = split_some (λ c. c == b) rest in
      let parts : anew text ≡ f piece ++ (b ∷ anew rest) =
      ap (λ ps. join_with_byte b (map f ps)) (cut b text piece rest at).0 ∙ join_more piece (pieces b rest) some.first some.more some.is in
      let here : (f piece ++ b ∷ []) ++ anew rest ≡ f piece ++ (b ∷ anew rest) = append_assoc (f piece) (b ∷ []) (anew rest) in
      rw more (append_assoc old (f piece ++ b ∷ []) (anew rest) ∙ ap (λ x. old ++ x) (here ∙ sym parts) ∙ so_far)

  -- the last piece is written
  pub last_written : (old new all text : List ℕ) → split_once b text ≡ None → new ≡ old ++ f text → old ++ anew text ≡ all → new ≡ all
  last_written old new all text at more so_far =
      let one : anew text ≡ f text = ap (λ ps. join_with_byte b (map f ps)) (uncut b text at) in
      more ∙ ap (λ x. old ++ x) (sym one) ∙ so_far

  pub last_answered : {A E : Type 0} (r : Result A E) (old new all text : List ℕ) → split_once b text ≡ None → OnOk r (new ≡ old ++ f text)
      → old ++ anew text ≡ all → OnOk r (new ≡ all)
  last_answered (Ok x) old new all text at more so_far = last_written old new all text at more so_far
  last_answered (Err e) old new all text at more so_far = tt

-- a text that is cut in two is what stands before the byte, the byte, and what stands behind it
pub whole_again : (b : ℕ) (text name value : List ℕ) → split_once b text ≡ Some (name, value) → (name ++ b ∷ []) ++ value ≡ text
whole_again b text name value e =
    let some = split_some (λ c. c == b) value in
    let joined : join_with_byte b (name ∷ pieces b value) ≡ name ++ (b ∷ join_with_byte b (pieces b value)) = rw some.is refl in
    append_assoc name (b ∷ []) value ∙ ap (λ x. name ++ (b ∷ x)) (sym (join_with_byte-slice_split b value)) ∙ sym joined
    ∙ ap (join_with_byte b) (sym (cut b text name value e).0) ∙ join_with_byte-slice_split b text
