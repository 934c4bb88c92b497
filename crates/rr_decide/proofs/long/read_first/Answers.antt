use Rattle.std.proofs.Common.{arith}
use Rattle.std.proofs.lemmas.Int.{ints}
use Rattle.rr_decide.proofs.StandsLemmas.{first_occurrence_at, first_occurrence_day}
use Rattle.rr_decide.proofs.long.read_first.Goals as goal

pub returns-in-Some-clause-first : goal.returns-in-Some-clause-first
returns-in-Some-clause-first g c =
    first_occurrence_at (g.S.DaySeq.sketch c.args.seq.now) c.kind.result c.on_day.result.kind c.in-Some.day _ c.on_day.result.at c.read.result.now
    (g.met.S.DaySeq.bounded c.args.seq.now).valid c.in-Some.ensures.first c.on_day.ensures.kind c.kind.ensures c.read.ensures.value
    (omega (arith, ints)) c.on_day.ensures.at

pub returns-in-Some-clause-day : goal.returns-in-Some-clause-day
returns-in-Some-clause-day g c =
    first_occurrence_day (g.S.DaySeq.sketch c.args.seq.now) c.kind.result c.on_day.result.kind c.in-Some.day _ c.on_day.result.at c.read.result.now
    (g.met.S.DaySeq.bounded c.args.seq.now).valid c.in-Some.ensures.first c.on_day.ensures.kind c.kind.ensures c.read.ensures.value
    (omega (arith, ints)) c.on_day.ensures.at c.in-Some.ensures.near
