use Rattle.std.proofs.Common.{Err, ap, sym, ◌∙◌}
use Rattle.std.specs.Prelude.{ok_or}
use Rattle.rr_events.specs.RawLines.{lines_of}
use Rattle.rr_zone.specs.Zones.{first_number, raw_lines_in}
use Rattle.rr_zone.specs.declared.zone.ZoneFault.TheVariants.{Unreadable}
use Rattle.rr_zone.proofs.FullLemmas.{observance_full}
use Rattle.rr_zone.proofs.zone.observance_on.Goals as goal

pub returns-in-Some-clause-value : goal.returns-in-Some-clause-value
returns-in-Some-clause-value c =
    let lines = lines_of (raw_lines_in c.args.piece) in
    ap (λ o. ok_or o (Unreadable (first_number lines)))
    (sym c.in-Some.is ∙ (rw (c.as_slice.ensures, c.in_ok-lines.ensures) at c.in_ok-observance.ensures.value) ∙ observance_full lines)

pub returns-clause-value : goal.returns-clause-value
returns-clause-value c =
    let lines = lines_of (raw_lines_in c.args.piece) in
    ap (λ n. Err (Unreadable n)) c.in_ok-first_number-in-None.ensures
    ∙ ap (λ o. ok_or o (Unreadable (first_number lines)))
    (sym c.in-None.is ∙ (rw (c.as_slice.ensures, c.in_ok-lines.ensures) at c.in_ok-observance.ensures.value) ∙ observance_full lines)
