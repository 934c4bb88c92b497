use Rattle.std.proofs.Common.{sym, ◌∙◌}
use Rattle.rr_events.specs.RawLines.{lines_of}
use Rattle.rr_zone.specs.Zones.{have_same_texts, raw_lines_in}
use Rattle.rr_zone.proofs.PartLemmas.{zone_same}
use Rattle.rr_zone.proofs.zone.are_all_same.Goals as goal

pub loop-other-preserved : goal.loop-other-preserved
loop-other-preserved c =
    zone_same (λ other. have_same_texts (lines_of (raw_lines_in c.args.first)) (lines_of other)) c.args.others.now c.loop-other.other-index _ _ c.loop-other-test.true
    c.loop-other.invariant
    (sym c.in_ok-have_same_texts.ensures ∙ c.if-not-branch.false)
