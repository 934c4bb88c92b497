use Rattle.std.proofs.Common.{sym, ◌∙◌}
use Rattle.rr_zone.specs.Clocks.{local_time}
use Rattle.rr_zone.specs.Values.{local_part}
use Rattle.rr_zone.proofs.SplitLemmas.{cut, last_answered, piece_written}
use Rattle.rr_zone.proofs.value.push_rule.Goals as goal

pub loop-piece-preserved : goal.loop-piece-preserved
loop-piece-preserved c = record {
  so_far =
      piece_written 59 (local_part (local_time c.args.clock.now)) c.loop-piece.out.items c.push_before_semicolon.new.out.items _ c.loop-piece.rest.now
      c.in-Some.piece.now c.in-Some.after.now (sym c.in-Some.ensures) (rw c.loop-piece.invariant.clock at c.in_ok-push_before_semicolon.ensures.value)
      c.loop-piece.invariant.so_far;
  clock = c.in_ok-push_before_semicolon.ensures.clock ∙ c.loop-piece.invariant.clock;
}

pub loop-piece-smaller : goal.loop-piece-smaller
loop-piece-smaller c = (cut 59 c.loop-piece.rest.now c.in-Some.piece.now c.in-Some.after.now (sym c.in-Some.ensures)).1

pub returns-clause-value : goal.returns-clause-value
returns-clause-value c =
    last_answered 59 (local_part (local_time c.args.clock.now)) c.push_part.result c.loop-piece.out.items c.push_part.new.out.items _
    c.loop-piece.rest.now (sym (rw c.in_default.is at c.split_once.ensures)) (rw c.loop-piece.invariant.clock at c.push_part.ensures.value) c.loop-piece.invariant.so_far
