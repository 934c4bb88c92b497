use Rattle.std.proofs.Common.{w64, to_z, of_z, arith}
use Rattle.std.proofs.lemmas.Int.{ints}
use Rattle.rr_decide.proofs.AlikeLemmas.{first_here, none_here}
use Rattle.rr_decide.proofs.long.compare_row.Goals as goal

pub returns-in-Unlike-clause-run : goal.returns-in-Unlike-clause-run
returns-in-Unlike-clause-run g c = (
  first_here (g.A.DaySeq.sketch c.args.a.now) (g.B.DaySeq.sketch c.args.b.now) c.args.day (to_z w64 (of_z w64 c.args.day))
      c.in-Unlike.shown (omega (arith, ints)) c.in-Unlike.ensures,
  omega (arith, ints, c.in-Unlike.ensures.0, c.requires.high),
)

pub compare_later-requires-clause-first : goal.compare_later-requires-clause-first
compare_later-requires-clause-first g c =
    none_here (g.A.DaySeq.sketch c.args.a.now) (g.B.DaySeq.sketch c.args.b.now) _ (to_z w64 (of_z w64 c.args.day)) (omega (arith, ints)) c.in-Alike.ensures.0
