use Rattle.rr_seam.specs.Stated.{calendar_by}
use Rattle.rr_trip.specs.Shown.{IsShownBy}
use Rattle.rr_trip.specs.Subjects.{subject_in}
use Rattle.rr_trip.specs.Zoned.{zoned}
use Rattle.rr_trip.proofs.SaidLemmas.{sound}
use Rattle.rr_trip.proofs.ShownLemmas.{ok_each, shown_is}
use Rattle.rr_trip.proofs.shown.show_line.Goals as goal

pub show_subject-requires : goal.show_subject-requires
show_subject-requires g c = sound _ _ c.in_ok-judged.judged c.in_ok-judged.ensures

pub returns : goal.returns
returns g c =
    let a = zoned (calendar_by (g.A.EventFile.keys c.args.a.now) (g.A.EventFile.stated c.args.a.now) (g.A.EventFile.titles c.args.a.now))
    (g.M.ZoneNames.meaning c.args.names_a.now) in
    let b = zoned (calendar_by (g.B.EventFile.keys c.args.b.now) (g.B.EventFile.stated c.args.b.now) (g.B.EventFile.titles c.args.b.now))
    (g.N.ZoneNames.meaning c.args.names_b.now) in
    let subject = subject_in c.args.subject in
    ok_each {P = IsShownBy a.means b.means c.in_ok-judged.judged subject.key subject.partner c.in_ok-title.title} c.show_subject.result c.show_subject.ensures
    (shown_is c.args.titles a b subject c.in_ok-judged.judged c.in_ok-title.title c.in_ok-judged.ensures c.in_ok-title.ensures)
