-- Instances that are taken out and put in keep the years, and the series that they edit is valid.
use Rattle.std.proofs.Common.{◌≡◌, ℕ, ℤ, Bool, true, Result, Ok, refl, sym, ap, ◌∙◌, subst}
use Rattle.std.specs.Prelude.{IfOk}
use Rattle.std.proofs.lemmas.Result.{IfOk-weaker}
use Rattle.rr_model.specs.Graph.Counterpart.{series_of_graph, series_of_repeat}
use Rattle.rr_model.specs.Moment.Years.{IsInYears}
use Rattle.rr_model.specs.Series.Validity.{IsValidSeries}
use Rattle.rr_model.specs.declared.graph.GraphEvent.{GraphEvent}
use Rattle.rr_model.specs.declared.graph.Repeat.{Repeat}
use Rattle.rr_model.specs.declared.graph.Repeat.TheVariants as repeat
use Rattle.rr_model.specs.declared.kind.Kind.{Kind}
use Rattle.rr_model.specs.declared.rule.Series.{Series}
use Rattle.rr_seam.specs.Steps.{◌>=>◌, AnswersKey}
use Rattle.rr_seam.specs.declared.refusal.KeyFault.{KeyFault}
use Rattle.rr_seam.specs.declared.refusal.KeyRefusal.{KeyRefusal}
use Rattle.rr_moved.specs.Moved.{AreInYears, Shifts, edited_moved, with_moment}
use Rattle.rr_moved.proofs.KeyStepLemmas.{goes_on}
use Rattle.rr_moved.proofs.ValidLemmas.{answered, moment_made, moved_is_valid}

module _ (place : ℕ) (shifts : Shifts) (at : ℤ) (r : Result Shifts KeyFault) (taken : AnswersKey (with_moment place shifts at) r) where
  -- a moment that is told is taken out
  pub moment_taken : (m : Result ℤ KeyRefusal) → Ok at ≡ m → AnswersKey (m >=> with_moment place shifts) r
  moment_taken m is = goes_on (with_moment place shifts) m at r (sym is) taken

  -- and what is taken out stays in the years
  pub taken_in_years : (kind : Kind) → IsInYears kind at → AreInYears kind shifts → IfOk r (AreInYears kind)
  taken_in_years kind years v =
      IfOk-weaker r _ _ (λ next made. moment_made kind place shifts next at years v made) (answered (with_moment place shifts at) r taken)

-- ---- the series

counted : (again : Repeat) (kind : Kind) (start : ℤ) → (series_of_repeat again kind start).start_counts ≡ true
counted repeat.Once kind start = refl
counted (repeat.Pattern pattern range) kind start = refl

of_kind : (again : Repeat) (kind : Kind) (start : ℤ) → (series_of_repeat again kind start).kind ≡ kind
of_kind repeat.Once kind start = refl
of_kind (repeat.Pattern pattern range) kind start = refl

graph_counted : (event : GraphEvent) → (series_of_graph event).start_counts ≡ true
unfolding series_of_graph
graph_counted event = counted event.repeat event.kind event.start

graph_kind : (event : GraphEvent) → (series_of_graph event).kind ≡ event.kind
unfolding series_of_graph
graph_kind event = of_kind event.repeat event.kind event.start

-- the series of an event with its instances is valid
pub edited_valid : (is_cancelled : Bool) (place : ℕ) (event : GraphEvent) (series : Series) (shifts : Shifts) (r : Result Series KeyFault)
    → series ≡ series_of_graph event → IsValidSeries series → AreInYears event.kind shifts → AnswersKey (edited_moved is_cancelled place series shifts) r
    → IfOk r IsValidSeries
edited_valid is_cancelled place event series shifts r is valid years h =
    let kind : event.kind ≡ series.kind = sym (ap (λ (s : Series). s.kind) is ∙ graph_kind event) in
    let counts : series.start_counts ≡ true = ap (λ (s : Series). s.start_counts) is ∙ graph_counted event in
    IfOk-weaker r _ _
    (λ made e. moved_is_valid.edited is_cancelled place series shifts made valid counts (subst (λ (k : Kind). AreInYears k shifts) kind years) e)
    (answered (edited_moved is_cancelled place series shifts) r h)
