use Rattle.std.proofs.Common.{◌≡◌, arith, sym, ◌∙◌}
use Rattle.std.proofs.lemmas.Int.{ints}
use Rattle.std.proofs.lemmas.Bool.{false≢true}
use Rattle.rr_model.specs.Graph.Occurrences.{is_pattern_day}
use Rattle.rr_family.specs.Lasting.{is_occupied}
use Rattle.rr_family.proofs.WalkLemmas.{all_next}
use Rattle.rr_graphfind.proofs.agreement.agrees_throughout.Goals as goal

pub returns-then-not-is_alike : goal.returns-then-not-is_alike
returns-then-not-is_alike g c =
    let near = c.requires.near in
    let at = c.loop-k.invariant.0 in
    let k = c.loop-k-test.true in (
      λ t. absurd (false≢true t),
      λ agree. absurd (false≢true (sym c.if-not-is_alike.true ∙ c.is_alike.ensures.1
          (agree c.loop-k.day.number (omega (arith, ints, at, near.0, near.1)) (omega (arith, ints, at, k, near.0, near.1))))),
    )

pub loop-k-preserved : goal.loop-k-preserved
loop-k-preserved g c =
    let start = c.args.start.now.number in
    let at = c.loop-k.invariant.0 in (
      omega (arith, ints, at, c.next-day.ensures),
      all_next (λ d. is_pattern_day c.args.pattern.now start d ≡ is_occupied (g.A.DaySeq.sketch c.args.seq.now) d) start c.loop-k.k c.loop-k.day.number
          (c.is_alike.ensures.0 c.if-not-is_alike.false) at c.loop-k.invariant.1,
    )
