use Rattle.std.proofs.Common.{sym, ◌∙◌}
use Rattle.rr_zone.specs.Clocks.{local_time}
use Rattle.rr_zone.proofs.SplitLemmas.{cut}
use Rattle.rr_zone.proofs.ValueLemmas.{dates_last, dates_more}
use Rattle.rr_zone.proofs.value.push_dates.Goals as goal

pub loop-piece-preserved : goal.loop-piece-preserved
loop-piece-preserved c = record {
  so_far =
      dates_more (local_time c.args.clock.now) c.args.role c.loop-piece.out.items c.push_date.new.out.items _ c.loop-piece.rest.now
      c.in-Some.piece.now c.in-Some.after.now (sym c.in-Some.ensures) (rw c.loop-piece.invariant.clock at c.in_ok-push_date.ensures.value) c.loop-piece.invariant.so_far;
  clock = c.in_ok-push_date.ensures.clock ∙ c.loop-piece.invariant.clock;
}

pub loop-piece-smaller : goal.loop-piece-smaller
loop-piece-smaller c = (cut 44 c.loop-piece.rest.now c.in-Some.piece.now c.in-Some.after.now (sym c.in-Some.ensures)).1

pub returns-clause-value : goal.returns-clause-value
returns-clause-value c =
    dates_last (local_time c.args.clock.now) c.args.role c.push_date-2.result c.loop-piece.out.items c.push_date-2.new.out.items _
    c.loop-piece.rest.now (sym (rw c.in_default.is at c.split_once.ensures)) (rw c.loop-piece.invariant.clock at c.push_date-2.ensures.value) c.loop-piece.invariant.so_far
