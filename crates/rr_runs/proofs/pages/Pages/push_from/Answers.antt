use Rattle.std.proofs.Common.{◌++◌, take, drop, ap, ◌∙◌, arith}
use Rattle.rr_runs.proofs.PagesLemmas.{stretch_goes_on}
use Rattle.rr_runs.proofs.pages.Pages.push_from.Goals as goal

pub loop-done-preserved : goal.loop-done-preserved
loop-done-preserved c =
    let put = c.in_ok-more.ensures in (
      omega (arith, put.1, c.loop-done.invariant.0),
      stretch_goes_on c.args.other.now c.args.self.now c.loop-done.self c.push_some_of.new.self c.args.index c.loop-done.done c.in_ok-more.more
          c.loop-done.invariant.1 put.2,
    )

pub returns : goal.returns
returns c = c.loop-done.invariant.1 ∙ ap (λ n. c.args.self.now ++ take n (drop c.args.index c.args.other.now)) (omega (arith, c.loop-done.invariant.0))
