use Rattle.std.specs.Prelude.{◌≡◌}
use Rattle.rr_setpos.specs.Ranks.{days_among}
use Rattle.rr_setpos.proofs.day_counts.days_among.Given as goal

abbrev pub invariant-loop-k : goal.invariant-loop-k
invariant-loop-k l = l.days ≡ days_among l.rule l.start.number l.first l.k
