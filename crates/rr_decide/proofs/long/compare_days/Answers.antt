use Rattle.std.proofs.Common.{w64}
use Rattle.std.proofs.lemmas.Int.{to_z-of_z}
use Rattle.rr_decide.proofs.AlikeLemmas.{alike_next}
use Rattle.rr_decide.proofs.long.compare_days.Goals as goal

pub returns-in-None : goal.returns-in-None
returns-in-None g c =
    let none = rw (to_z-of_z w64 c.args.day c.ranges.day) at c.in-None.ensures in (
      none,
      alike_next (g.A.DaySeq.sets c.args.a.now) (g.B.DaySeq.sets c.args.b.now) (g.A.DaySeq.sketch c.args.a.now) (g.B.DaySeq.sketch c.args.b.now)
          c.args.day c.args.of_a c.args.of_b c.args.alike c.next_alike.result (g.met.A.DaySeq.bounded c.args.a.now).valid
          (g.met.B.DaySeq.bounded c.args.b.now).valid c.requires.first c.requires.second c.requires.alike none c.next_alike.ensures,
    )
