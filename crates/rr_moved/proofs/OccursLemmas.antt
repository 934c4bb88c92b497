-- What occurs in the starts of instances, and in a series with its instances.
use Rattle.std.proofs.Common.{◌≡◌, ◌↔◌, inl, inr, refl, sym, subst, Bool, true, false, if◌then◌else◌, [], ◌∷◌, ℤ, ℕ, Ok}
use Rattle.std.specs.Prelude.{Contains}
use Rattle.std.proofs.lemmas.Bool.{false≢true}
use Rattle.rr_model.specs.Series.Occurrences.{Occurs}
use Rattle.rr_model.specs.Series.Validity.{IsValidSeries}
use Rattle.rr_model.specs.declared.kind.Kind.{Kind}
use Rattle.rr_model.specs.declared.rule.Series.{Series}
use Rattle.rr_model.proofs.RisingSetLemmas.{Contains-cons_cases, Contains-head, Contains-none, Contains-tail}
use Rattle.rr_moved.specs.Instances.{OccursShifted, StartsOccur}
use Rattle.rr_moved.specs.Moved.{Shifts, edited_moved, edited_series, edited_starts, series_of_starts, within_dates}
use Rattle.rr_moved.proofs.DateSetLemmas.{put_in}
use Rattle.rr_moved.proofs.EditedInstanceLemmas.{edited_has_instances}
use Rattle.rr_moved.proofs.InstanceLemmas.{instances_are_dates}
use Rattle.rr_moved.proofs.KeyStepLemmas.{passed}

-- ---- starts alone

pub starts_occur : StartsOccur
starts_occur kind [] k t = (
  λ h. elim h.stands [
    | inl first ↦ absurd (false≢true first.0)
    | inr more ↦ elim more [ inl member ↦ absurd member | inr added ↦ absurd (Contains-none t added) ]
  ],
  λ h. absurd (Contains-none t h.1),
)
starts_occur kind (s ∷ ss) k t = (
  λ h. (
    h.kind,
    elim h.stands [
      | inl first ↦ subst (Contains (s ∷ ss)) (sym first.1) (Contains-head s ss)
      | inr more ↦ elim more [
        | inl member ↦ absurd member
        | inr added ↦ elim ((put_in [] ss t).0 added) [ inl none ↦ absurd (Contains-none t none) | inr there ↦ Contains-tail s ss t there ]
      ]
    ],
  ),
  λ h. record {
    kind = h.0;
    stands = elim (Contains-cons_cases s ss t h.1) [
      | inl same ↦ inl (refl, sym same)
      | inr there ↦ inr (inr ((put_in [] ss t).1 (inr there)))
    ];
    kept = λ c. Contains-none t c;
    not_excluded = λ m. m;
  },
)

-- a series that is within the limit of its dates is itself
within : (place : ℕ) (series edited : Series) → within_dates place series ≡ Ok edited → series ≡ edited
within place series edited h =
    let few = passed _ _ (Ok series) edited h in
    let whole = few.1 in
    cc

pub starts_alone : (place : ℕ) (kind : Kind) (shifts : Shifts) (edited : Series) → edited_starts place kind shifts ≡ Ok edited
    → (k : Kind) (t : ℤ) → Occurs edited k t ↔ ((k ≡ kind) × Contains shifts.starts t)
starts_alone place kind shifts edited h k t =
    subst (λ (s : Series). Occurs s k t ↔ ((k ≡ kind) × Contains shifts.starts t)) (within place (series_of_starts kind shifts.starts) edited h)
    (starts_occur kind shifts.starts k t)

-- ---- a series with its instances

pub moved_occurs : (is_cancelled : Bool) (place : ℕ) (series edited : Series) (shifts : Shifts) → IsValidSeries series
    → edited_moved is_cancelled place series shifts ≡ Ok edited → (k : Kind) (t : ℤ) → Occurs edited k t ↔ OccursShifted is_cancelled series shifts k t
moved_occurs is_cancelled place series edited shifts valid h k t = by is_cancelled h
  where
    by : (b : Bool) → (if b then edited_starts place series.kind shifts else edited_series place series shifts) ≡ Ok edited
        → Occurs edited k t ↔ OccursShifted b series shifts k t
    by true e = starts_alone place series.kind shifts edited e k t
    by false e =
        instances_are_dates series edited shifts.moments shifts.starts (edited_has_instances place series edited shifts valid e) k t
