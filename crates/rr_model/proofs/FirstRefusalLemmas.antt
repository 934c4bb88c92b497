-- A series has one first refusal.
use Rattle.std.proofs.Common.{◌≡◌, inl, inr, Option, None, Some, sym, ◌∙◌}
use Rattle.rr_model.specs.Series.Soundness.{first_refusal}
use Rattle.rr_model.specs.Series.FirstRefusal.{IsRefusalOr, IsRefusalWhere, IsCycleOver, IsCountOver, AreMomentsOver, IsLimitRefusal, FirstRefusalIsOne}
use Rattle.rr_model.specs.declared.refusal.Refusal.{Refusal}
use Rattle.rr_model.specs.declared.refusal.Refusal.TheVariants.{CycleTooLong, CountedTooFar, TooManyMoments}

-- what comes next is one refusal or none
module _ (next : Option Refusal → Type 0) (one : (x y : Option Refusal) → next x → next y → x ≡ y) where
  one_or : (known x y : Option Refusal) → IsRefusalOr known next x → IsRefusalOr known next y → x ≡ y
  one_or None x y h l = one x y h l
  one_or (Some refusal) x y h l = h ∙ sym l

  one_where : (P : Type 0) (refusal : Refusal) (x y : Option Refusal) → IsRefusalWhere P refusal next x → IsRefusalWhere P refusal next y → x ≡ y
  one_where P refusal x y (inl h) (inl l) = h.1 ∙ sym l.1
  one_where P refusal x y (inl h) (inr l) = absurd (l.0 h.0)
  one_where P refusal x y (inr h) (inl l) = absurd (h.0 l.0)
  one_where P refusal x y (inr h) (inr l) = one x y h.1 l.1

none_is_one : (x y : Option Refusal) → x ≡ None → y ≡ None → x ≡ y
none_is_one x y h l = h ∙ sym l

pub first_refusal_is_one : FirstRefusalIsOne
first_refusal_is_one limits series = one_or (IsLimitRefusal limits series) of_cycle (first_refusal series)
  where
    of_moments : (x y : Option Refusal) → IsRefusalWhere (AreMomentsOver limits series) TooManyMoments (λ z. z ≡ None) x
        → IsRefusalWhere (AreMomentsOver limits series) TooManyMoments (λ z. z ≡ None) y → x ≡ y
    of_moments = one_where (λ z. z ≡ None) none_is_one (AreMomentsOver limits series) TooManyMoments

    of_counts :
        (x y : Option Refusal)
        → IsRefusalWhere (IsCountOver limits series) CountedTooFar (IsRefusalWhere (AreMomentsOver limits series) TooManyMoments (λ z. z ≡ None)) x
        → IsRefusalWhere (IsCountOver limits series) CountedTooFar (IsRefusalWhere (AreMomentsOver limits series) TooManyMoments (λ z. z ≡ None)) y → x ≡ y
    of_counts = one_where (IsRefusalWhere (AreMomentsOver limits series) TooManyMoments (λ z. z ≡ None)) of_moments (IsCountOver limits series) CountedTooFar

    of_cycle : (x y : Option Refusal) → IsLimitRefusal limits series x → IsLimitRefusal limits series y → x ≡ y
    of_cycle = one_where
        (IsRefusalWhere (IsCountOver limits series) CountedTooFar (IsRefusalWhere (AreMomentsOver limits series) TooManyMoments (λ z. z ≡ None))) of_counts
        (IsCycleOver limits series) CycleTooLong
