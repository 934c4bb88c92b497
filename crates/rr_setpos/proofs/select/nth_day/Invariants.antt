use Rattle.std.specs.Prelude.{◌≡◌, ◌+◌}
use Rattle.rr_setpos.specs.Ranks.{days_among}
use Rattle.rr_setpos.proofs.select.nth_day.Given as goal

abbrev pub invariant-loop-k : goal.invariant-loop-k
invariant-loop-k l = l.left + days_among l.rule l.start.number l.first l.k ≡ l.rank
