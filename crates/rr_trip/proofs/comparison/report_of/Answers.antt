use Rattle.std.proofs.Common.{◌∙◌, subst}
use Rattle.rr_groups.specs.Groups.{AreGroups}
use Rattle.rr_seam.specs.Stated.{calendar_by}
use Rattle.rr_trip.specs.Found.{AreFoundIf}
use Rattle.rr_trip.specs.Report.{AreLinesFrom}
use Rattle.rr_trip.specs.Zoned.{zoned}
use Rattle.rr_trip.proofs.comparison.report_of.Goals as goal

pub returns : goal.returns
returns g c =
    let a = zoned (calendar_by (g.A.EventFile.keys c.args.a.now) (g.A.EventFile.stated c.args.a.now) (g.A.EventFile.titles c.args.a.now)) (g.M.ZoneNames.meaning c.args.names_a.now) in
    let b = zoned (calendar_by (g.B.EventFile.keys c.args.b.now) (g.B.EventFile.stated c.args.b.now) (g.B.EventFile.titles c.args.b.now)) (g.N.ZoneNames.meaning c.args.names_b.now) in
    let by_key = c.in_ok-by_key.by_key.items in
    let groups = c.in_ok-groups.groups.items in
    let found = c.in_ok-found.found in
    let lines = c.in_ok-lines_of.field-0.items in
    record {
      by_key = by_key;
      groups = groups;
      found = found;
      are_by_key = subst (λ ks. AreGroups ks b.keys by_key) (c.deref.ensures.value ∙ c.in_ok-keys_a.ensures)
          (subst (λ ks. AreGroups c.deref.result.now ks by_key) (c.deref-2.ensures.value ∙ c.in_ok-keys_b.ensures) c.in_ok-by_key.ensures);
      are_groups = c.in_ok-groups.ensures;
      are_found = subst (λ gs. AreFoundIf c.args.by_uid a b gs found) c.deref-3.ensures.value c.in_ok-found.ensures.found;
      are_lines = subst (λ gs. AreLinesFrom c.args.titles a b gs found 0 lines) c.deref-4.ensures.value c.in_ok-lines_of.ensures.lines;
      printable = c.in_ok-lines_of.ensures.printable;
    }
