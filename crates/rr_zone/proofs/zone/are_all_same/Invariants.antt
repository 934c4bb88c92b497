use Rattle.std.proofs.Common.{◌≡◌, drop}
use Rattle.rr_events.specs.RawLines.{lines_of}
use Rattle.rr_zone.specs.Zones.{have_same_texts, raw_lines_in}
use Rattle.rr_zone.proofs.PartLemmas.{all_from}
use Rattle.rr_zone.proofs.zone.are_all_same.Given as goal

abbrev pub invariant-loop-other : goal.invariant-loop-other
invariant-loop-other l =
    all_from (λ other. have_same_texts (lines_of (raw_lines_in l.first)) (lines_of other)) (drop l.other-index l.others)
    ≡ all_from (λ other. have_same_texts (lines_of (raw_lines_in l.first)) (lines_of other)) l.others
