use Rattle.std.proofs.Common.{List, ℕ, ◌≤◌, ◌+◌, ◌++◌, take, drop, length, length-append, ap, ◌∙◌, arith}
use Rattle.rr_runs.proofs.PagesLemmas.{stretch_goes_on, stretch_stays}
use Rattle.rr_runs.proofs.pages.Pages.push_again.Goals as goal

pub push_some_again-requires-clause-within : goal.push_some_again-requires-clause-within
push_some_again-requires-clause-within c =
    let old = c.args.self.now in
    let longer = ap length c.loop-done.invariant.1 ∙ length-append old (take c.loop-done.done (drop c.args.index old)) in
    omega (arith, longer, c.loop-done.invariant.0, c.requires)

pub loop-done-preserved : goal.loop-done-preserved
loop-done-preserved c =
    let old = c.args.self.now in
    let done = c.loop-done.done in
    let more = c.in_ok-more.more in
    let put = c.in_ok-more.ensures in
    let low : done + more ≤ c.args.count = omega (arith, put.1, c.loop-done.invariant.0) in
    let again = stretch_stays old c.loop-done.self (take done (drop c.args.index old)) (c.args.index + done) more c.loop-done.invariant.1 (omega (arith, low, c.requires)) in (
      low,
      stretch_goes_on old old c.loop-done.self c.push_some_again.new.self c.args.index done more c.loop-done.invariant.1
          (put.2 ∙ ap (λ (l : List ℕ). c.loop-done.self ++ l) again),
    )

pub returns : goal.returns
returns c = c.loop-done.invariant.1 ∙ ap (λ n. c.args.self.now ++ take n (drop c.args.index c.args.self.now)) (omega (arith, c.loop-done.invariant.0))
