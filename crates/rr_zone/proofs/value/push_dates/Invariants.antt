use Rattle.std.proofs.Common.{◌≡◌, ◌++◌, length}
use Rattle.rr_zone.specs.Clocks.{local_time}
use Rattle.rr_zone.proofs.ValueLemmas.{dates_of}
use Rattle.rr_zone.proofs.value.push_dates.Given as goal

abbrev pub invariant-loop-piece : goal.invariant-loop-piece
invariant-loop-piece l = record {
  so_far : l.out.items ++ dates_of (local_time l.fn.clock) l.role l.rest ≡ l.fn.out.items ++ dates_of (local_time l.fn.clock) l.role l.text;
  clock : l.clock ≡ l.fn.clock;
}

abbrev pub decreases-loop-piece : goal.decreases-loop-piece
decreases-loop-piece l = length l.rest
