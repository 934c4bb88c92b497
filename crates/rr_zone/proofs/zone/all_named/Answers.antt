use Rattle.std.proofs.Common.{refl, sym, ◌∙◌}
use Rattle.std.proofs.lemmas.List.Elements.{All-push}
use Rattle.rr_zone.specs.Zones.{IsNumbered, has_name}
use Rattle.rr_zone.proofs.PartLemmas.{zone_found, zone_passed}
use Rattle.rr_zone.proofs.zone.all_named.Goals.{then-branch+in_ok-push, else-branch}
use Rattle.rr_zone.proofs.zone.all_named.Goals as goal

pub loop-zone-preserved : goal.loop-zone-preserved
loop-zone-preserved c =
    let i = c.loop-zone.invariant in
    let within = c.loop-zone-test.true in
    elim c.if-branch.branch [
      | then-branch+in_ok-push w ↦ rw (w.named-is, w.in_ok-push.ensures.items) (record {
        named = zone_found (has_name c.args.name.now) c.loop-zone.named.items c.args.zones.now c.loop-zone.zone-index _ _ within i.named _
            (sym c.in_ok-has_name.ensures ∙ w.if-branch.true) refl;
        numbered = All-push IsNumbered _ _ i.numbered (c.requires c.loop-zone.zone-index _ within);
      })
      | else-branch w ↦ rw w.named-is (record {
        named = zone_passed (has_name c.args.name.now) c.loop-zone.named.items c.args.zones.now c.loop-zone.zone-index _ _ within i.named
            (sym c.in_ok-has_name.ensures ∙ w.if-branch.false);
        numbered = i.numbered;
      })
    ]
