use Rattle.std.proofs.Common.{◌≡◌, ◌∙◌, Err, Ok, ap, map}
use Rattle.rr_events.specs.RawLines.{lines_of}
use Rattle.rr_events.specs.Segments.{section_in}
use Rattle.rr_zone.specs.Zones.{first_number, raw_lines_in}
use Rattle.rr_zone.specs.declared.zone.ZoneFault.TheVariants.{Unreadable}
use Rattle.rr_zone.proofs.PartLemmas.{zone_by_sections}
use Rattle.rr_zone.proofs.zone.zone_of.Goals as goal

pub returns-in_ok-observances_of-in-Ok : goal.returns-in_ok-observances_of-in-Ok
returns-in_ok-observances_of-in-Ok c =
    let n : c.in_ok-number.number ≡ first_number (lines_of (raw_lines_in c.args.piece)) = c.in_ok-number.ensures in
    let r = rw c.deref.ensures.value at c.in_ok-observances_of-in-Ok.ensures in
    (rw (n, r) at c.some_observance.ensures) ∙ zone_by_sections c.args.piece (Ok (map section_in c.in-Ok.parts.items)) c.in-Ok.ensures.found

pub returns-in-Err-Refused : goal.returns-in-Err-Refused
returns-in-Err-Refused c =
    let n : c.in_ok-number.number ≡ first_number (lines_of (raw_lines_in c.args.piece)) = c.in_ok-number.ensures in
    ap (λ k. Err (Unreadable k)) n
    ∙ zone_by_sections c.args.piece (Err c.in-Err-Refused.field-0-0) (rw c.in-Err-Refused.field-0-is at c.in-Err-Refused.ensures.found)
