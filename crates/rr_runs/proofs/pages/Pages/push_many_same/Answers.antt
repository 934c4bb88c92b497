use Rattle.std.proofs.Common.{◌++◌, replicate, ap, ◌∙◌, arith}
use Rattle.rr_runs.proofs.PagesLemmas.{same_go_on}
use Rattle.rr_runs.proofs.pages.Pages.push_many_same.Goals as goal

pub loop-done-preserved : goal.loop-done-preserved
loop-done-preserved c = (
  omega (arith, c.in_ok-more.ensures.1, c.loop-done.invariant.0),
  same_go_on c.args.self.now c.loop-done.self c.push_some_same.new.self c.args.number c.loop-done.done c.in_ok-more.more c.loop-done.invariant.1
      c.in_ok-more.ensures.2,
)

pub returns : goal.returns
returns c = c.loop-done.invariant.1 ∙ ap (λ n. c.args.self.now ++ replicate n c.args.number) (omega (arith, c.loop-done.invariant.0))
