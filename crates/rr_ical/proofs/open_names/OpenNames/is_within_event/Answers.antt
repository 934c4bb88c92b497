use Rattle.std.proofs.Common.{reverse, ap, ◌∙◌, ℕ}
use Rattle.std.specs.Prelude.{nat_lt}
use Rattle.std.specs.List.{list_any}
use Rattle.rr_model.specs.Text.Event.{is_event}
use Rattle.rr_ical.proofs.OpenNameLemmas.{any-counted}
use Rattle.rr_ical.proofs.open_names.OpenNames.is_within_event.Goals as goal

pub returns : goal.returns
returns c =
    ap (λ (n : ℕ). nat_lt 0 n) c.self.invariant.0 ∙ any-counted is_event (reverse c.self.inside.names.items) ∙ ap (list_any is_event) c.self.view_is
