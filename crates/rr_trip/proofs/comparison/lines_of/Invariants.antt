use Rattle.rr_seam.specs.Stated.{calendar_by}
use Rattle.rr_trip.specs.Known.{AreKnown}
use Rattle.rr_trip.specs.Zoned.{zoned}
use Rattle.rr_trip.proofs.ReportLemmas.{IsUpTo}
use Rattle.rr_trip.proofs.comparison.lines_of.Given as goal

-- what is known of names is so, and the groups up to here have their lines
abbrev pub invariant-loop-index : goal.invariant-loop-index
invariant-loop-index g l =
    let ma = g.M.ZoneNames.meaning l.names_a in
    let mb = g.N.ZoneNames.meaning l.names_b in
    AreKnown ma mb l.known
    × IsUpTo l.titles (zoned (calendar_by (g.A.EventFile.keys l.a) (g.A.EventFile.stated l.a) (g.A.EventFile.titles l.a)) ma)
    (zoned (calendar_by (g.B.EventFile.keys l.b) (g.B.EventFile.stated l.b) (g.B.EventFile.titles l.b)) mb) l.groups l.found l.lines.items l.index
