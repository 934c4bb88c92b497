use Rattle.std.proofs.Common.{sym, ◌∙◌}
use Rattle.rr_decide.specs.Question.{shown_by}
use Rattle.rr_decide.proofs.MergeLemmas.{equal_show_none}
use Rattle.rr_decide.proofs.merge.are_alike.Goals as goal

pub returns-then-not-is_shown_by : goal.returns-then-not-is_shown_by
returns-then-not-is_shown_by c = λ same.
    equal_show_none (shown_by c.args.question) c.args.xs.now c.args.ys.now (c.are_equal.ensures.0 same) (sym c.is_shown_by.ensures ∙ c.if-not-is_shown_by.true)
