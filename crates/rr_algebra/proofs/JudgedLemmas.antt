-- Which refusals come if two sets are combined.
use Rattle.std.proofs.Common.{◌≡◌, ◌≢◌, ◌↔◌, ℕ, true, false, List, [], ◌∷◌, ◌++◌, Contains, get_or, length, nat_lt, ℤ, inl, inr, refl, sym, ap, subst, ◌∙◌, arith}
use Rattle.std.specs.Prelude.{Result, Ok, Err, Option, Some, None, if◌then◌else◌}
use Rattle.std.specs.Option.{is_some}
use Rattle.std.proofs.lemmas.Bool.{false_from_ne_true}
use Rattle.std.proofs.lemmas.List.{get_or_default}
use Rattle.std.proofs.lemmas.List.Elements.{All-push}
use Rattle.std.proofs.lemmas.List.Quantifiers.{all_pairs_push}
use Rattle.std.proofs.lemmas.List.Sums.{sum_by_push}
use Rattle.rr_model.specs.Answers.{RefusedExactlyWhere}
use Rattle.rr_model.specs.Moment.{is_same_kind}
use Rattle.rr_model.proofs.MemberLemmas.{same_kind_is}
use Rattle.rr_model.proofs.RisingSetLemmas.{Contains-none, set_same}
use Rattle.rr_model.specs.Sets.Sketch.{IsEmptySketch, IsFirstDay, times_on}
use Rattle.rr_model.specs.declared.kind.Kind.{Kind}
use Rattle.rr_model.specs.declared.refusal.Fault.{Fault}
use Rattle.rr_model.specs.declared.refusal.Fault.TheVariants.{Refused, NoMemory}
use Rattle.rr_model.specs.declared.refusal.Refusal.TheVariants.{MixedSets, TooManyMoments}
use Rattle.rr_model.specs.declared.sketch.Sketch.{Sketch}
use Rattle.rr_days.specs.MadeSets.{HoldsFor, IsOneTooMany, RefusedOnlyWhere}
use Rattle.rr_algebra.specs.Combined.{HasTooManyCombined, IsCombinedJudged, IsMixedUnion, times_beside}
use Rattle.rr_algebra.specs.Combining.{AreMadeOnDays, HasTooManyMade, IsMadeOnDay}
use Rattle.rr_days.specs.declared.op.Op.{Op}
use Rattle.rr_days.specs.declared.op.Op.TheVariants.{Common, Minus, Union}

-- ---- one set too many

-- then there are too many
pub refused_all : (X : Type 0) (fault : Fault) (op : Op) (s u : Sketch) (day : ℤ) (sets : List (List ℕ))
    → RefusedOnlyWhere {X = ℕ} (IsOneTooMany op (times_on s day) (times_on u day) sets) (Err fault) → AreMadeOnDays op s u sets
    → RefusedOnlyWhere {X = X} (HasTooManyMade op s u) (Err fault)
refused_all X (Refused refusal) op s u day sets refused made =
    let one = refused.1 in (
      refused.0,
      record {
        sets = sets ++ one.times ∷ [];
        distinct = all_pairs_push (λ a b. a ≢ b) sets one.times one.numbering.distinct
            (λ k d l same. one.many.fresh (k, l, get_or_default sets k one.times d l ∙ same));
        made = All-push (λ times. times ≢ [] → IsMadeOnDay op s u times) sets one.times made (λ some. record { day = day; made = one.made });
        above = omega (arith, one.many.above, sum_by_push length sets one.times);
      },
    )
refused_all X NoMemory op s u day sets refused made = tt

pub refused_exactly : (X Y : Type 0) (fault : Fault) (P : Type 0) → RefusedOnlyWhere {X = X} P (Err fault)
    → RefusedExactlyWhere {X = Y} P TooManyMoments (Err fault)
refused_exactly X Y (Refused refusal) P refused = refused
refused_exactly X Y NoMemory P refused = tt

-- ---- the sets of the result

-- the same second is in both results
abbrev pub HoldAlike : Op → Sketch → Sketch → Op → Sketch → Sketch → Type 0
HoldAlike op s u op' s' u' =
    (d : ℤ) (x : ℕ) → HoldsFor op' (Contains (times_on s' d) x) (Contains (times_on u' d) x) ↔ HoldsFor op (Contains (times_on s d) x) (Contains (times_beside op s u d) x)

module _ (op : Op) (s u : Sketch) (op' : Op) (s' u' : Sketch) (alike : HoldAlike op s u op' s' u') where
  combined_from_made : HasTooManyMade op' s' u' → HasTooManyCombined op s u
  combined_from_made many = record {
    sets = many.sets;
    distinct = many.distinct;
    occupied = λ k d l some.
        let m = many.made k d l some in record {
          day = m.day;
          all = set_same nat_lt (λ x. HoldsFor op' (Contains (times_on s' m.day) x) (Contains (times_on u' m.day) x))
              (λ x. HoldsFor op (Contains (times_on s m.day) x) (Contains (times_beside op s u m.day) x)) (get_or many.sets k d) m.made (alike m.day);
        };
    above = many.above;
  }

  made_from_combined : HasTooManyCombined op s u → HasTooManyMade op' s' u'
  made_from_combined many = record {
    sets = many.sets;
    distinct = many.distinct;
    made = λ k d l some.
        let m = many.occupied k d l some in record {
          day = m.day;
          made = set_same nat_lt (λ x. HoldsFor op (Contains (times_on s m.day) x) (Contains (times_beside op s u m.day) x))
              (λ x. HoldsFor op' (Contains (times_on s' m.day) x) (Contains (times_on u' m.day) x)) (get_or many.sets k d) m.all
              (λ x. let e = alike m.day x in (e.1, e.0));
        };
    above = many.above;
  }

  pub judged_so : {X : Type 0} (result : Result X Fault) → (IsMixedUnion op s u → ⊥) → RefusedExactlyWhere (HasTooManyMade op' s' u') TooManyMoments result
      → IsCombinedJudged MixedSets TooManyMoments op s u result
  judged_so (Ok x) not_mixed refused = (not_mixed, λ many. refused (made_from_combined many))
  judged_so (Err (Refused refusal)) not_mixed refused = inr (refused.0, not_mixed, combined_from_made refused.1)
  judged_so (Err NoMemory) not_mixed refused = tt

-- ---- sets of one kind

kinds_apart : (k m : Kind) → k ≢ m → is_same_kind k m ≡ false
kinds_apart k m n = false_from_ne_true (is_same_kind k m) (λ same. n ((same_kind_is k m).0 same))

pub alike_same : (op : Op) (s u : Sketch) → s.kind ≡ u.kind → HoldAlike op s u op s u
alike_same op s u e d x =
    subst (λ ys. HoldsFor op (Contains (times_on s d) x) (Contains (times_on u d) x) ↔ HoldsFor op (Contains (times_on s d) x) (Contains ys x))
    (sym (beside op)) ((λ h. h), (λ h. h))
  where
    beside : (op : Op) → times_beside op s u d ≡ times_on u d
    beside Union = refl
    beside Common = ap (λ b. if b then times_on u d else []) ((same_kind_is s.kind u.kind).1 e)
    beside Minus = ap (λ b. if b then times_on u d else []) ((same_kind_is s.kind u.kind).1 e)

pub not_mixed_same : (op : Op) (s u : Sketch) → s.kind ≡ u.kind → IsMixedUnion op s u → ⊥
not_mixed_same Union s u e mixed = mixed.kinds e
not_mixed_same Common s u e mixed = mixed
not_mixed_same Minus s u e mixed = mixed

-- ---- sets of different kinds

none_beside : (s u : Sketch) (d : ℤ) → s.kind ≢ u.kind → (if is_same_kind s.kind u.kind then times_on u d else []) ≡ []
none_beside s u d n = ap (λ b. if b then times_on u d else []) (kinds_apart s.kind u.kind n)

pub alike_common : (s u : Sketch) → s.kind ≢ u.kind → HoldAlike Common s u Minus s s
alike_common s u n d x = (
  (λ h. absurd (h.1 h.0)),
  (λ h. absurd (Contains-none x (subst (λ ys. Contains ys x) (none_beside s u d n) h.1))),
)

pub alike_minus : (s u : Sketch) → s.kind ≢ u.kind → HoldAlike Minus s u Union s s
alike_minus s u n d x = (
  (λ h. (elim h [ inl c ↦ c | inr c ↦ c ], λ c. Contains-none x (subst (λ ys. Contains ys x) (none_beside s u d n) c))),
  (λ h. inl h.0),
)

pub alike_second : (s u : Sketch) → IsEmptySketch s → HoldAlike Union s u Union u u
alike_second s u none d x = (
  (λ h. elim h [ inl c ↦ inr c | inr c ↦ inr c ]),
  (λ h. elim h [ inl c ↦ absurd (Contains-none x (subst (λ ys. Contains ys x) (none d) c)) | inr c ↦ inr c ]),
)

pub alike_first : (s u : Sketch) → IsEmptySketch u → HoldAlike Union s u Union s s
alike_first s u none d x = (
  (λ h. elim h [ inl c ↦ inl c | inr c ↦ inl c ]),
  (λ h. elim h [ inl c ↦ inl c | inr c ↦ absurd (Contains-none x (subst (λ ys. Contains ys x) (none d) c)) ]),
)

pub not_empty : (s : Sketch) (first : Option ℤ) → IsFirstDay s first → is_some first ≡ true → IsEmptySketch s → ⊥
not_empty s None h e none = absurd (cc)
not_empty s (Some d) h e none = h.0 (none d)
