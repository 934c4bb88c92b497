-- Events whose zones mean the same state the same.
use Rattle.std.proofs.Common.{◌≡◌, inl, inr, ℕ, ◌+◌, ℤ, Bool, true, false, List, [], ◌∷◌, Option, None, Some, Result, Ok, Err, refl, sym, ap, subst, ◌∙◌}
use Rattle.std.specs.Prelude.{All, IfOk, IfSome, slice_get}
use Rattle.std.proofs.lemmas.List.Elements.{All-get_or}
use Rattle.std.proofs.lemmas.Option.{get_or_from_slice_get, slice_get_cases}
use Rattle.std.specs.Option.{is_some}
use Rattle.serde_json.specs.Data.{Data}
use Rattle.rr_seam.specs.Steps.{◌>=>◌, key_in_turn}
use Rattle.rr_seam.specs.declared.refusal.KeyRefusal.{KeyRefusal}
use Rattle.rr_graphfile.specs.Items.{type_of}
use Rattle.rr_graphfile.specs.Known.{IsTurnedAlike}
use Rattle.rr_graphfile.specs.Stated.{Gathered, Placed, gathered_at, gathered_stated, no_words, none_gathered, series_turned, stated_by, stated_in}
use Rattle.rr_graphfile.specs.Stated.{with_found, with_index, with_instance_at, with_series, with_typed}
use Rattle.rr_graphfile.specs.Turning.{Meaning, turning_name}
use Rattle.rr_graphfile.specs.declared.item.EventType.{EventType}
use Rattle.rr_graphfile.specs.declared.item.EventType.TheVariants.{Single, Master, Occurrence, Exception}

at_index : {X : Type 0} (P : X → Type 0) (xs : List X) (i : ℕ) (x : X) → All P xs → slice_get xs i ≡ Some x → P x
at_index P xs i x all e =
    elim (slice_get_cases xs i).1 [
      | inl p ↦ subst P (get_or_from_slice_get xs i x x e) (All-get_or P xs i x p.1 all)
      | inr p ↦ (let q = sym p.1 ∙ e in absurd (cc))
    ]

module _ (known means : Meaning) where
  -- the series that is gathered is turned the same by both
  abbrev IsAlike : Gathered → Type 0
  IsAlike gathered = IfSome gathered.series (λ placed. IsTurnedAlike known means placed.event)

  first_alike : (gathered : Gathered) (placed : Placed) (has : Bool) → is_some gathered.series ≡ has → IsTurnedAlike known means placed.event
      → IfOk (with_series gathered placed) IsAlike
  first_alike gathered placed true e h = rw e tt
  first_alike gathered placed false e h = rw e h

  instance_alike : (gathered : Gathered) (place : ℕ) (has : Bool) → is_some gathered.instance ≡ has → IsAlike gathered
      → IsAlike (with_instance_at gathered place)
  instance_alike gathered place true e h = rw e h
  instance_alike gathered place false e h = rw e h

  typed_alike : (gathered : Gathered) (placed : Placed) (type : Option EventType) → IsAlike gathered → IsTurnedAlike known means placed.event
      → IfOk (with_typed gathered placed type) IsAlike
  typed_alike gathered placed None so_far h = tt
  typed_alike gathered placed (Some Single) so_far h = first_alike gathered placed (is_some gathered.series) refl h
  typed_alike gathered placed (Some Master) so_far h = first_alike gathered placed (is_some gathered.series) refl h
  typed_alike gathered placed (Some Occurrence) so_far h = instance_alike gathered placed.place (is_some gathered.instance) refl so_far
  typed_alike gathered placed (Some Exception) so_far h = instance_alike gathered placed.place (is_some gathered.instance) refl so_far

  module _ (items : List Data) (all : All (IsTurnedAlike known means) items) where
    found_alike : (gathered : Gathered) (i : ℕ) (found : Option Data) → slice_get items i ≡ found → IsAlike gathered
        → IfOk (with_found gathered i found) IsAlike
    found_alike gathered i None e so_far = so_far
    found_alike gathered i (Some event) e so_far =
        typed_alike gathered (record { place = i + 1; event = event }) (type_of event) so_far (at_index (IsTurnedAlike known means) items i event all e)

    turn_alike : (indexes : List ℕ) (gathered : Gathered) → IsAlike gathered → IfOk (key_in_turn (with_index items) gathered indexes) IsAlike
    turn_alike [] gathered so_far = so_far
    turn_alike (i ∷ is) gathered so_far =
        by (with_index items gathered i) (found_alike gathered i (slice_get items i) refl so_far) (turn_alike is)
      where
        by : (r : Result Gathered KeyRefusal) → IfOk r IsAlike
            → ((next : Gathered) → IsAlike next → IfOk (key_in_turn (with_index items) next is) IsAlike)
            → IfOk (r >=> λ next. key_in_turn (with_index items) next is) IsAlike
        by (Ok next) h rest = rest next h
        by (Err refusal) h rest = tt

    series_alike : (offset : Option ℤ) (series : Option Placed) (instance : Option ℕ) → IfSome series (λ placed. IsTurnedAlike known means placed.event)
        → stated_by known offset series instance ≡ stated_by means offset series instance
    series_alike offset (Some placed) instance h =
        ap (λ (ahead : Option (ℤ → ℤ)). series_turned (record { name = turning_name placed.event; ahead = ahead; stated = offset }) placed) h
    series_alike offset None (Some place) h = refl
    series_alike offset None None h = refl

    gathered_alike : (offset : Option ℤ) (r : Result Gathered KeyRefusal) → IfOk r IsAlike → gathered_stated known offset r ≡ gathered_stated means offset r
    gathered_alike offset (Ok gathered) h = series_alike offset gathered.series gathered.instance h
    gathered_alike offset (Err refusal) h = refl

    -- events whose zones mean the same by both state the same by both
    pub stated_alike : (offset : Option ℤ) (indexes : List ℕ) → stated_in known offset items indexes ≡ stated_in means offset items indexes
    unfolding stated_in
    stated_alike offset indexes = gathered_alike offset (gathered_at items indexes) (turn_alike indexes none_gathered tt)

-- ---- words

words_gathered : (means : Meaning) (offset : Option ℤ) (gathered : Result Gathered KeyRefusal) → (gathered_stated means offset gathered).words ≡ no_words
words_gathered means offset (Err r) = refl
words_gathered means offset (Ok gathered) = by gathered.series gathered.instance
  where
    by : (series : Option Placed) (instance : Option ℕ) → (stated_by means offset series instance).words ≡ no_words
    by (Some placed) instance = refl
    by None (Some place) = refl
    by None None = refl

-- whatever events state, their words are none
pub words_are_none : (means : Meaning) (offset : Option ℤ) (items : List Data) (indexes : List ℕ) → (stated_in means offset items indexes).words ≡ no_words
unfolding stated_in
words_are_none means offset items indexes = words_gathered means offset (gathered_at items indexes)
