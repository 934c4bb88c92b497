use Rattle.std.proofs.Common.{ℕ, List, [], ◌∷◌, sym, ◌∙◌, arith}
use Rattle.std.proofs.lemmas.List.{map-append}
use Rattle.rr_model.specs.Graph.Counterpart.{has_weekday}
use Rattle.rr_graph.proofs.WrittenDayLemmas.{put_name, skip_name}
use Rattle.rr_graph.proofs.names.day_names.Goals.{then-is_day_in+in_ok-try_from_str+in_ok-push, else-is_day_in}
use Rattle.rr_graph.proofs.names.day_names.Goals as goal

abbrev weekdays : List ℕ
weekdays = 6 ∷ 0 ∷ 1 ∷ 2 ∷ 3 ∷ 4 ∷ 5 ∷ []

pub loop-weekday-preserved : goal.loop-weekday-preserved
loop-weekday-preserved c =
    let k = c.loop-weekday.weekday-index in
    let test = has_weekday c.args.days in
    elim c.if-is_day_in.branch [
      | then-is_day_in+in_ok-try_from_str+in_ok-push w ↦
          let next = put_name test weekdays k (omega (arith, c.loop-weekday-test.true)) (sym c.is_day_in.ensures ∙ w.if-is_day_in.true) in
          rw (w.names-is, w.in_ok-push.ensures.items, map-append, c.loop-weekday.invariant, w.in_ok-try_from_str.ensures, w.day_name.ensures) (sym next)
      | else-is_day_in w ↦
          let next = skip_name test weekdays k (omega (arith, c.loop-weekday-test.true)) (sym c.is_day_in.ensures ∙ w.if-is_day_in.false) in
          rw w.names-is (c.loop-weekday.invariant ∙ sym next)
    ]
