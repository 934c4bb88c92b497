use Rattle.std.proofs.Common.{arith, sym, ◌∙◌, w64, to_z}
use Rattle.std.proofs.lemmas.Int.{ints}
use Rattle.rr_family.proofs.WalkLemmas.{first_before, none_later}
use Rattle.rr_family.proofs.window.last_occupied.Goals as goal

pub loop-day-init : goal.loop-day-init
loop-day-init g c =
    let late = first_before (g.A.DaySeq.sketch c.args.seq.now) c.args.first c.args.after c.requires.first c.requires.none_after in
    let near = c.requires.after_near in
    (omega (arith, ints, late, near.0), omega (arith, ints, near.0, near.1), λ d l. c.requires.none_after d (omega (arith, ints, l, near.0)))

pub loop-day-preserved : goal.loop-day-preserved
loop-day-preserved g c =
    let known = c.loop-day.invariant in
    let near = c.requires.near in (
      omega (arith, ints, c.loop-day-test.true, near.0),
      omega (arith, ints, known.1, c.loop-day-test.true, near.0),
      none_later (g.A.DaySeq.sketch c.args.seq.now) (to_z w64 c.loop-day.day-bits) _ (omega (arith, ints, c.loop-day-test.true, near.0))
          (sym c.is_occupied.ensures ∙ c.if-is_occupied.false) known.2,
    )
