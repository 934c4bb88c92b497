use Rattle.std.proofs.Common.{◌≡◌, rules}
use Rattle.rr_seam.specs.Stated.{calendar_by}
use Rattle.rr_trip.specs.Pairs.{IsJudged}
use Rattle.rr_trip.specs.Report.{stated_in, title_by, title_if}
use Rattle.rr_trip.specs.Subjects.{subject_in}
use Rattle.rr_trip.specs.Zoned.{zoned}
use Rattle.rr_trip.proofs.ReportLemmas.{line_of_judged}
use Rattle.rr_trip.proofs.SaidLemmas.{sound}
use Rattle.rr_trip.proofs.comparison.line_of_subject.Goals as goal

pub line_of-requires : goal.line_of-requires
line_of-requires g c = record { known = c.requires; judged = sound _ _ c.in_ok-judged.judged c.in_ok-judged.ensures }

pub returns-clause-line : goal.returns-clause-line
returns-clause-line g c =
    let a = zoned (calendar_by (g.A.EventFile.keys c.args.a.now) (g.A.EventFile.stated c.args.a.now) (g.A.EventFile.titles c.args.a.now)) (g.M.ZoneNames.meaning c.args.names_a.now) in
    let b = zoned (calendar_by (g.B.EventFile.keys c.args.b.now) (g.B.EventFile.stated c.args.b.now) (g.B.EventFile.titles c.args.b.now)) (g.N.ZoneNames.meaning c.args.names_b.now) in
    let subject = subject_in c.args.subject in
    let judged : IsJudged (stated_in a.stated subject.a) (stated_in b.stated subject.b) c.in_ok-judged.judged = search rules in
    let titled : c.in_ok-title.title ≡ title_if c.args.titles (title_by a.titles b.titles subject.a subject.b) = search rules in
    line_of_judged c.args.titles a b subject c.in_ok-judged.judged c.in_ok-title.title c.line_of.result judged titled c.line_of.ensures.line
