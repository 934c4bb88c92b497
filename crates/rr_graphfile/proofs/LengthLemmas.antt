-- Lengths of instances in turn.
use Rattle.std.proofs.Common.{◌≡◌, ℕ, ◌+◌, ◌<◌, false, List, [], ◌∷◌, ◌++◌, drop, get_or, length, map, Option, None, Some, append_assoc, refl, sym, ap, ◌∙◌}
use Rattle.std.proofs.lemmas.List.{at_drop_more}
use Rattle.serde_json.specs.Data.{Data}
use Rattle.serde_json.specs.View.{view}
use Rattle.serde_json.specs.declared.value.Value.{Value}
use Rattle.rr_length.specs.declared.lengths.Dated.{Dated}
use Rattle.rr_graphfile.specs.Items.{is_cancelled}
use Rattle.rr_graphfile.specs.Lengths.{all_dated, dated_of, with_dated}
use Rattle.rr_graphfile.specs.Turning.{Turning}

-- lengths so far, and others behind them, if all can be told
abbrev pub all_behind : List Dated → Option (List Dated) → Option (List Dated)
all_behind ds None = None
all_behind ds (Some es) = Some (ds ++ es)

-- one length more is the first of those behind
one_behind : (ds : List Dated) (d : Dated) (es : Option (List Dated)) → all_behind (ds ++ d ∷ []) es ≡ all_behind ds (with_dated (Some d) es)
one_behind ds d None = refl
one_behind ds d (Some es) = ap Some (append_assoc ds (d ∷ []) es)

-- an instance that is not cancelled has its own length
occurring : (turning : Turning) (event : Data) (events : List Data) → is_cancelled event ≡ false
    → all_dated turning (event ∷ events) ≡ with_dated (dated_of turning event) (all_dated turning events)
occurring turning event events e = rw e refl

module _ (turning : Turning) (events : List Value) (i : ℕ) (event : Value) (ds : List Dated) (all : Option (List Dated)) (below : i < length events)
    (is : event ≡ get_or events i event) (occurs : is_cancelled (view event) ≡ false)
    (so_far : all_behind ds (all_dated turning (map view (drop i events))) ≡ all) where
  -- the lengths of the instances behind it
  abbrev others : Option (List Dated)
  others = all_dated turning (map view (drop (i + 1) events))

  -- the lengths from an instance on, by what is told of it
  from_event : (told : Option Dated) → told ≡ dated_of turning (view event)
      → all_dated turning (map view (drop i events)) ≡ with_dated told others
  from_event told e =
      at_drop_more (λ (vs : List Value). all_dated turning (map view vs)) events i event below
      ∙ ap (λ (v : Value). all_dated turning (view v ∷ map view (drop (i + 1) events))) (sym is)
      ∙ occurring turning (view event) (map view (drop (i + 1) events)) occurs
      ∙ ap (λ (o : Option Dated). with_dated o others) (sym e)

  -- its length is told
  pub one_more : (d : Dated) (more : List Dated) → Some d ≡ dated_of turning (view event) → more ≡ ds ++ d ∷ []
      → all_behind more (all_dated turning (map view (drop (i + 1) events))) ≡ all
  one_more d more told e =
      ap (λ (es : List Dated). all_behind es others) e
      ∙ one_behind ds d others
      ∙ sym (ap (all_behind ds) (from_event (Some d) told))
      ∙ so_far

  -- it can't be told
  pub none_told : None ≡ dated_of turning (view event) → None ≡ all
  none_told told = sym (ap (all_behind ds) (from_event None told)) ∙ so_far
