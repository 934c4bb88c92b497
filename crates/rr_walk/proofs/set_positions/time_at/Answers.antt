use Rattle.std.proofs.Common.{to_z-of_z, arith}
use Rattle.rr_walk.proofs.SetPositionLemmas.{time_at_none, time_at_other}
use Rattle.rr_walk.proofs.set_positions.time_at.Goals as goal
use Rattle.rr_walk.proofs.set_positions.time_at.Goals.{else-before-rank-via-then-before-rank+else-rank-before, else-before-rank-via-else-before-rank}

pub returns-in-None : goal.returns-in-None
returns-in-None c = time_at_none c.args.times.now c.args.before c.args.size c.requires.room c.args.position
    (rw (c.in-None.is, to_z-of_z c.ranges.position) at c.rank_of.ensures)

pub returns-else-before-rank : goal.returns-else-before-rank
returns-else-before-rank c =
    let ranked = rw (c.in-Some.is, to_z-of_z c.ranges.position) at c.rank_of.ensures in
    time_at_other c.args.times.now c.args.before c.args.size c.requires.room c.args.position c.in-Some.rank ranked.0 ranked.1
    (λ late few. elim c.else-before-rank.branch [
      | else-before-rank-via-then-before-rank+else-rank-before w ↦ omega (arith, w.if-rank-before.false, late, few)
      | else-before-rank-via-else-before-rank w ↦ omega (arith, w.if-before-rank.false, late)
    ])
