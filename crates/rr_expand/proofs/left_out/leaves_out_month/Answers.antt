use Rattle.std.proofs.Common.{◌∙◌, sym, ap, pos}
use Rattle.std.proofs.lemmas.Bool.{not-true}
use Rattle.rr_model.specs.Rule.Candidate.{allows}
use Rattle.rr_expand.proofs.left_out.leaves_out_month.Goals as goal

pub returns : goal.returns
returns c h d same =
    let is = rw (c.fills_month.ensures, c.args.start.now.of_month, c.args.day.now.of_month) at c.allows_filled.ensures in
    rw same (sym is ∙ not-true c.allows_filled.result h)
