use Rattle.std.proofs.Common.{◌<◌, length}
use Rattle.rr_seam.specs.Stated.{calendar_by}
use Rattle.rr_trip.specs.Shown.{IsShownSaid, IsUnknown, keys_with_title, shown_line}
use Rattle.rr_trip.specs.Subjects.{subject_in}
use Rattle.rr_trip.specs.Zoned.{zoned}
use Rattle.rr_trip.proofs.ShownLemmas.{in_b_there, in_b_within, ok_each, shown_none, shown_some}
use Rattle.rr_trip.proofs.shown.show_among.Goals as goal

pub returns-in-None : goal.returns-in-None
returns-in-None g c =
    let a = zoned (calendar_by (g.A.EventFile.keys c.args.a.now) (g.A.EventFile.stated c.args.a.now) (g.A.EventFile.titles c.args.a.now))
    (g.M.ZoneNames.meaning c.args.names_a.now) in
    let b = zoned (calendar_by (g.B.EventFile.keys c.args.b.now) (g.B.EventFile.stated c.args.b.now) (g.B.EventFile.titles c.args.b.now))
    (g.N.ZoneNames.meaning c.args.names_b.now) in
    let groups = c.args.groups.now in
    let found = c.args.found.now in
    let name = c.args.name.now in
    let line = shown_line groups found name (keys_with_title a b name) in
    ok_each {P = IsUnknown name} c.unknown_name.result c.unknown_name.ensures
    (shown_none c.args.titles a b groups found name line c.in_ok-shown_line.field-0 c.in-None.is c.in_ok-shown_line.ensures.line)

pub subject_of-subject-requires-clause-found : goal.subject_of-subject-requires-clause-found
subject_of-subject-requires-clause-found g c =
    let groups = c.args.groups.now in
    let n = c.in-Some.index in
    let below : n < length groups = rw c.in-Some.is at c.in_ok-shown_line.ensures.within in
    in_b_within (length groups) c.args.found.now c.requires n c.index.result.now below c.index.ensures

pub returns-in-Some : goal.returns-in-Some
returns-in-Some g c =
    let a = zoned (calendar_by (g.A.EventFile.keys c.args.a.now) (g.A.EventFile.stated c.args.a.now) (g.A.EventFile.titles c.args.a.now))
    (g.M.ZoneNames.meaning c.args.names_a.now) in
    let b = zoned (calendar_by (g.B.EventFile.keys c.args.b.now) (g.B.EventFile.stated c.args.b.now) (g.B.EventFile.titles c.args.b.now))
    (g.N.ZoneNames.meaning c.args.names_b.now) in
    let groups = c.args.groups.now in
    let found = c.args.found.now in
    let name = c.args.name.now in
    let n = c.in-Some.index in
    let line = shown_line groups found name (keys_with_title a b name) in
    let subject = subject_in c.subject_of-subject.result in
    let below : n < length groups = rw c.in-Some.is at c.in_ok-shown_line.ensures.within in
    ok_each {P = IsShownSaid c.args.titles a b subject} c.show_line.result c.show_line.ensures
    (shown_some c.args.titles a b groups found name line c.in_ok-shown_line.field-0 n c.in-Some.is c.in_ok-shown_line.ensures.line c.index.result.now
    (in_b_there (length groups) found c.requires n c.index.result.now below c.index.ensures) subject c.subject_of-subject.ensures)
