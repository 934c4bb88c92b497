use Rattle.std.proofs.Common.{◌≡◌, length}
use Rattle.rr_zone.specs.Moments.{utc_moment}
use Rattle.rr_zone.specs.Values.{utc_value}
use Rattle.rr_zone.proofs.ValueLemmas.{behind}
use Rattle.rr_zone.proofs.value.push_utc_value.Given as goal

abbrev pub invariant-loop-piece : goal.invariant-loop-piece
invariant-loop-piece l = record {
  so_far : behind (utc_moment l.fn.clock) l.out.items (utc_value (utc_moment l.fn.clock) l.rest)
      ≡ behind (utc_moment l.fn.clock) l.fn.out.items (utc_value (utc_moment l.fn.clock) l.text);
  clock : l.clock ≡ l.fn.clock;
}

abbrev pub decreases-loop-piece : goal.decreases-loop-piece
decreases-loop-piece l = length l.rest
