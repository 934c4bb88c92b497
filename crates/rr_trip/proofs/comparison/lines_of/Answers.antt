use Rattle.std.proofs.Common.{◌<◌, length, refl, arith}
use Rattle.rr_seam.specs.Stated.{calendar_by}
use Rattle.rr_trip.specs.Subjects.{subject_in}
use Rattle.rr_trip.specs.Zoned.{zoned}
use Rattle.rr_trip.proofs.ReportLemmas.{IsUpTo-end, IsUpTo-line, IsUpTo-passed, IsUpTo-start}
use Rattle.rr_trip.proofs.comparison.lines_of.Goals as goal
use Rattle.rr_trip.proofs.comparison.lines_of.Goals.{then-is_none+in_ok-line+in_ok-push, else-is_none}

pub loop-index-init : goal.loop-index-init
loop-index-init g c =
    let ma = g.M.ZoneNames.meaning c.args.names_a.now in
    let mb = g.N.ZoneNames.meaning c.args.names_b.now in (
      c.new-known.ensures ma mb,
      IsUpTo-start c.args.titles (zoned (calendar_by (g.A.EventFile.keys c.args.a.now) (g.A.EventFile.stated c.args.a.now) (g.A.EventFile.titles c.args.a.now)) ma)
          (zoned (calendar_by (g.B.EventFile.keys c.args.b.now) (g.B.EventFile.stated c.args.b.now) (g.B.EventFile.titles c.args.b.now)) mb)
          c.args.groups.now c.args.found.now c.new-lines.result.items c.new-lines.ensures.items,
    )

pub loop-index-preserved : goal.loop-index-preserved
loop-index-preserved g c =
    let ma = g.M.ZoneNames.meaning c.args.names_a.now in
    let mb = g.N.ZoneNames.meaning c.args.names_b.now in
    let a = zoned (calendar_by (g.A.EventFile.keys c.args.a.now) (g.A.EventFile.stated c.args.a.now) (g.A.EventFile.titles c.args.a.now)) ma in
    let b = zoned (calendar_by (g.B.EventFile.keys c.args.b.now) (g.B.EventFile.stated c.args.b.now) (g.B.EventFile.titles c.args.b.now)) mb in
    let groups = c.args.groups.now in
    let found = c.args.found.now in
    let n = c.loop-index.index in
    let below_a : n < length found.a.items = omega (arith, c.loop-index-test.true, c.requires.as_many_a) in
    let below_b : n < length found.b.items = omega (arith, c.loop-index-test.true, c.requires.as_many_b) in
    let lines = c.loop-index.lines.items in
    let next = c.if-is_none.lines.items in
    elim c.if-is_none.branch [
      | then-is_none+in_ok-line+in_ok-push w ↦ (
        rw w.known-is w.in_ok-line.ensures.known,
        IsUpTo-line c.args.titles a b groups found lines next n c.index.result.now w.index-then-is_none.result.now w.in_ok-line.line below_b c.index.ensures
            w.if-is_none.ensures below_a w.index-then-is_none.ensures
            (record { subject = subject_in w.subject_of-subject.result; is_subject = w.subject_of-subject.ensures; is_line = w.in_ok-line.ensures.line })
            (rw w.lines-is w.in_ok-push.ensures.items) c.loop-index.invariant.1,
      )
      | else-is_none w ↦ (
        rw w.known-is c.loop-index.invariant.0,
        IsUpTo-passed c.args.titles a b groups found lines next n c.index.result.now below_b c.index.ensures w.if-is_none.ensures (rw w.lines-is refl)
            c.loop-index.invariant.1,
      )
    ]

pub returns-clause-lines : goal.returns-clause-lines
returns-clause-lines g c =
    let ma = g.M.ZoneNames.meaning c.args.names_a.now in
    let mb = g.N.ZoneNames.meaning c.args.names_b.now in
    IsUpTo-end c.args.titles (zoned (calendar_by (g.A.EventFile.keys c.args.a.now) (g.A.EventFile.stated c.args.a.now) (g.A.EventFile.titles c.args.a.now)) ma)
    (zoned (calendar_by (g.B.EventFile.keys c.args.b.now) (g.B.EventFile.stated c.args.b.now) (g.B.EventFile.titles c.args.b.now)) mb)
    c.args.groups.now c.args.found.now c.loop-index.lines.items c.loop-index.index c.loop-index-test.false c.loop-index.invariant.1
