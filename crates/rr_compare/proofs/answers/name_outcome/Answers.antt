use Rattle.std.proofs.Common.{ℕ, List, ap, ◌∙◌, subst}
use Rattle.rr_trip.specs.Shown.{IsShownIn}
use Rattle.rr_compare.specs.Answer.{status_by}
use Rattle.rr_compare.specs.Outcomes.{zoned_in}
use Rattle.rr_compare.specs.declared.status.Status.{Status}
use Rattle.rr_compare.proofs.answers.name_outcome.Goals as goal

pub returns : goal.returns
returns c =
    let shown = c.in_ok-shown.shown in
    record {
      shown = shown;
      shows = subst (λ (name : List ℕ). IsShownIn c.args.by_uid c.args.titles (zoned_in c.args.a) (zoned_in c.args.b) name shown) c.as_bytes.ensures.value c.in_ok-shown.ensures;
      is =
          ap (λ (s : Status). record { status = s; bytes = shown.text.items; in_utc = c.in_utc_count.result }) c.status_by.ensures
          ∙ ap (λ (n : ℕ). record { status = status_by shown.status; bytes = shown.text.items; in_utc = n }) c.in_utc_count.ensures;
    }
