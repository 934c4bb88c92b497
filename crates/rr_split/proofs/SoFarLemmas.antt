-- Parts that are taken one after another, and what is left of the set at their end.
use Rattle.std.proofs.Common.{◌≡◌, ℕ, ◌+◌, ◌-◌, ◌≤◌, List, [], ◌∷◌, ◌++◌, length, length-append, ℤ, refl, sym, subst, ◌∙◌, arith}
use Rattle.std.specs.Prelude.{sum_by}
use Rattle.std.proofs.lemmas.List.Sums.{sum_by_push}
use Rattle.rr_model.specs.Moment.{Occurrences}
use Rattle.rr_model.specs.Sets.Sketch.{StandsIn}
use Rattle.rr_model.specs.Sets.Verdict.{HaveEqualOccurrences}
use Rattle.rr_model.specs.declared.kind.Kind.{Kind}
use Rattle.rr_model.specs.declared.sketch.Sketch.{Sketch}
use Rattle.rr_plan.specs.Few.{IsOneOf}
use Rattle.rr_plan.specs.Plan.{IsSplitBy, IsTakenBy}
use Rattle.rr_plan.proofs.SplitLemmas.{made_of_rest, split_begins, split_grows, split_rests}
use Rattle.rr_split.specs.declared.limits.TheConstants.{MAX_EXCEPTIONS}

module _ {X : Type 0} (IsOne : X → Type 0) (kept : X → Occurrences) (out : X → List ℤ) where
  -- how many dates or moments the parts leave out
  abbrev many_out : List X → ℕ
  many_out = sum_by (λ part. length (out part))

  -- of n sets parts were taken, so that they and the rest are the set
  abbrev pub SoFar : Sketch → Sketch → List X → ℕ → ℕ → Type 0
  SoFar s rest parts room n =
      IsSplitBy IsOne kept (StandsIn s) parts (StandsIn rest) × (length parts ≤ n) × (many_out parts + room ≡ MAX_EXCEPTIONS)

  -- nothing is taken yet
  pub none_taken : (s : Sketch) (parts : List X) → parts ≡ [] → SoFar s s parts MAX_EXCEPTIONS 0
  none_taken s parts is =
      subst (λ ps. SoFar s s ps MAX_EXCEPTIONS 0) (sym is) (split_begins IsOne kept (StandsIn s), omega arith, refl)

  -- one more is taken
  pub one_taken : (s rest left new_rest : Sketch) (parts new : List X) (part : X) (room new_room n : ℕ) → SoFar s rest parts room n
      → IsTakenBy IsOne kept (StandsIn rest) part (StandsIn left) → length (out part) ≤ room → new ≡ parts ++ part ∷ [] → new_rest ≡ left
      → new_room ≡ room - length (out part) → SoFar s new_rest new new_room (n + 1)
  one_taken s rest left new_rest parts new part room new_room n so_far taken few grown is_left less =
      let long = length-append parts (part ∷ []) in
      let many : many_out (parts ++ part ∷ []) ≡ many_out parts + length (out part) =
      sum_by_push (λ (p : X). length (out p)) parts part in
      let short = so_far.1 in
      let all = so_far.2 in
      subst (λ ps. SoFar s new_rest ps new_room (n + 1)) (sym grown)
      (subst (λ r. SoFar s r (parts ++ part ∷ []) new_room (n + 1)) (sym is_left) (
        split_grows IsOne kept (StandsIn s) (StandsIn rest) (StandsIn left) parts part so_far.0 taken,
        omega (arith, long, short),
        omega (arith, many, all, few, less),
      ))

  -- a set is passed over
  pub passed_over : (s rest new_rest : Sketch) (parts new : List X) (room new_room n : ℕ) → SoFar s rest parts room n
      → new ≡ parts → new_rest ≡ rest → new_room ≡ room → SoFar s new_rest new new_room (n + 1)
  passed_over s rest new_rest parts new room new_room n so_far same same_rest same_room =
      let short = so_far.1 in
      subst (λ ps. SoFar s new_rest ps new_room (n + 1)) (sym same)
      (subst (λ r. SoFar s r parts new_room (n + 1)) (sym same_rest)
      (subst (λ m. SoFar s rest parts m (n + 1)) (sym same_room) (so_far.0, omega (arith, short), so_far.2)))

  -- ---- parts, and single ones of what is left

  module _ (s rest : Sketch) (parts : List X) (single : List ℤ) (split : IsSplitBy IsOne kept (StandsIn s) parts (StandsIn rest))
      (equal : HaveEqualOccurrences (IsOneOf rest.kind single) (StandsIn rest)) where
    -- what is left has the set's own kind
    pub kind_of_rest : (k : Kind) (t : ℤ) → StandsIn rest k t → k ≡ s.kind
    kind_of_rest k t stands = ((split.equal k t).0 (made_of_rest IsOne kept parts (StandsIn rest) k t stands)).kind

    -- the single ones are what is left
    rest_is_single : HaveEqualOccurrences (StandsIn rest) (IsOneOf s.kind single)
    rest_is_single k t = (
      (λ stands. record { same_kind = kind_of_rest k t stands; there = ((equal k t).1 stands).there }),
      (λ one.
          let stands = (equal rest.kind t).0 (record { same_kind = refl; there = one.there }) in
          subst (λ l. StandsIn rest l t) (kind_of_rest rest.kind t stands ∙ sym one.same_kind) stands),
    )

    pub split_into_single : (kind : Kind) → kind ≡ s.kind → IsSplitBy IsOne kept (StandsIn s) parts (IsOneOf kind single)
    split_into_single kind of_kind =
        subst (λ l. IsSplitBy IsOne kept (StandsIn s) parts (IsOneOf l single)) (sym of_kind)
        (split_rests IsOne kept (StandsIn s) (StandsIn rest) (IsOneOf s.kind single) parts split rest_is_single)
