use Rattle.std.proofs.Common.{◌≤◌, ◌<◌, ◌++◌, ap, ◌∙◌, arith}
use Rattle.rr_runs.proofs.PagesLemmas.{zeros_are}
use Rattle.rr_runs.proofs.pages.Pages.push_some_of.Goals as goal

pub returns : goal.returns
returns c =
    let zeros = c.min-zeros.result in
    let few : zeros ≤ c.zeros_from.result = omega (arith, c.min-zeros.ensures) in
    let most : zeros ≤ c.args.most = omega (arith, c.min-zeros.ensures) in
    let some : 0 < zeros = omega (arith, c.if-zeros-lt-PAGE_LENGTH.false) in
    (some, most, c.in_ok-push_same.ensures ∙ ap (λ xs. c.args.self.now ++ xs) (zeros_are c.args.other.now c.args.index c.zeros_from.result zeros c.zeros_from.ensures few some))
