use Rattle.std.proofs.Common.{Result, subst}
use Rattle.rr_model.specs.Answers.{Answers}
use Rattle.rr_model.specs.Text.Passes.{Event}
use Rattle.rr_model.specs.declared.refusal.Refusal.{Refusal}
use Rattle.rr_ical.proofs.KeptLemmas.{event-kept}
use Rattle.rr_ical.proofs.passes.event_of.Goals as goal

pub returns : goal.returns
returns g c =
    let l = g.L.RuleLanguage in
    subst (λ (m : Result (Event g.row.R.Denot) Refusal). Answers m c.kept_event.result)
    (event-kept l.language (l.beside c.args.offset) c.args.offset c.args.scan.now) c.kept_event.ensures
