use Rattle.std.proofs.Common.{◌≡◌, ◌++◌, length}
use Rattle.rr_zone.specs.Clocks.{local_time}
use Rattle.rr_zone.specs.Values.{local_part}
use Rattle.rr_zone.proofs.SplitLemmas.{anew}
use Rattle.rr_zone.proofs.value.push_rule.Given as goal

abbrev pub invariant-loop-piece : goal.invariant-loop-piece
invariant-loop-piece l = record {
  so_far : l.out.items ++ anew 59 (local_part (local_time l.fn.clock)) l.rest ≡ l.fn.out.items ++ anew 59 (local_part (local_time l.fn.clock)) l.text;
  clock : l.clock ≡ l.fn.clock;
}

abbrev pub decreases-loop-piece : goal.decreases-loop-piece
decreases-loop-piece l = length l.rest
