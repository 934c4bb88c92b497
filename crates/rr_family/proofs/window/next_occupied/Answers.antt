use Rattle.std.proofs.Common.{◌≡◌, arith, sym, ◌∙◌, w64, to_z, of_z}
use Rattle.std.proofs.lemmas.Int.{ints, to_z-of_z}
use Rattle.rr_family.specs.Lasting.{is_occupied}
use Rattle.rr_family.proofs.WalkLemmas.{free_next}
use Rattle.rr_family.proofs.window.next_occupied.Goals as goal

pub loop-passed-preserved : goal.loop-passed-preserved
loop-passed-preserved g c =
    let less = c.loop-passed.invariant.0 in
    let most = c.free_days_from-free.ensures.most in (
      omega (arith, less, most),
      free_next (is_occupied (g.A.DaySeq.sketch c.args.seq.now)) (to_z w64 (of_z w64 c.args.from)) c.loop-passed.passed c.free_days_from-free.result _
          (omega (arith, ints)) c.free_days_from-free.ensures.free c.loop-passed.invariant.1,
    )

pub returns-then-is_occupied : goal.returns-then-is_occupied
returns-then-is_occupied g c = (
  omega (arith, ints),
  omega (arith, ints, c.loop-passed-test.true),
  sym c.is_occupied.ensures ∙ c.if-is_occupied.true,
  λ d l h. c.loop-passed.invariant.1 d (omega (arith, ints, l)) (omega (arith, ints, h)),
)

pub returns : goal.returns
returns g c =
    let back : to_z w64 (of_z w64 c.args.from) ≡ c.args.from = to_z-of_z w64 c.args.from c.ranges.from in
    λ d l h. c.loop-passed.invariant.1 d (omega (arith, ints, l, back)) (omega (arith, ints, h, back, c.loop-passed-test.false))
