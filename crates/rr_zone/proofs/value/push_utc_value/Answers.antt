use Rattle.std.proofs.Common.{sym, ◌∙◌}
use Rattle.rr_zone.specs.Moments.{utc_moment}
use Rattle.rr_zone.proofs.ValueLemmas.{utc_last, utc_more, utc_none}
use Rattle.rr_zone.proofs.value.push_utc_value.Goals as goal

pub returns-then-not-branch-clause-value : goal.returns-then-not-branch-clause-value
returns-then-not-branch-clause-value c =
    utc_none (utc_moment c.args.clock.now) c.loop-piece.out.items c.loop-piece.rest.now c.in-Some.piece.now c.in-Some.after.now _ (sym c.in-Some.ensures)
    (rw (c.loop-piece.invariant.clock, c.if-not-branch.true) at c.in_ok-push_utc_date.ensures.value) c.loop-piece.invariant.so_far

pub loop-piece-preserved : goal.loop-piece-preserved
loop-piece-preserved c = record {
  so_far =
      utc_more (utc_moment c.args.clock.now) c.loop-piece.out.items c.push_utc_date.new.out.items c.push.new.self.items c.loop-piece.rest.now
      c.in-Some.piece.now c.in-Some.after.now _ (sym c.in-Some.ensures)
      (rw (c.loop-piece.invariant.clock, c.if-not-branch.false) at c.in_ok-push_utc_date.ensures.value) c.in_ok-push.ensures.items
      c.loop-piece.invariant.so_far;
  clock = c.in_ok-push_utc_date.ensures.clock ∙ c.loop-piece.invariant.clock;
}

pub returns-clause-value : goal.returns-clause-value
returns-clause-value c =
    utc_last (utc_moment c.args.clock.now) c.push_utc_date-2.result c.loop-piece.out.items c.push_utc_date-2.new.out.items c.loop-piece.rest.now _
    (sym (rw c.in_default.is at c.split_once.ensures)) (rw c.loop-piece.invariant.clock at c.push_utc_date-2.ensures.value) c.loop-piece.invariant.so_far
