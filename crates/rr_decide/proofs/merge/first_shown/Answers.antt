use Rattle.std.proofs.Common.{◌≡◌, false, sym, ◌∙◌}
use Rattle.std.proofs.lemmas.Bool.{false≢true}
use Rattle.rr_decide.specs.Question.{shown_by}
use Rattle.rr_decide.proofs.MergeLemmas.{empty_shows_none, first_shown_after, none_shown, shown_here}
use Rattle.rr_decide.proofs.merge.first_shown.Goals as goal

pub returns-then-is_shown_by : goal.returns-then-is_shown_by
returns-then-is_shown_by c =
    let n = c.in-Some.next in
    c.loop-next.invariant.3 n.second n.side
    (shown_here (shown_by c.args.question) c.loop-next.rest_a.now c.loop-next.rest_b.now n.second n.side n.xs.now n.ys.now c.in-Some.ensures
    (sym c.if-is_shown_by.ensures))

pub loop-next-preserved : goal.loop-next-preserved
loop-next-preserved c =
    let n = c.in-Some.next in
    let hidden : shown_by c.args.question n.side ≡ false = sym c.if-is_shown_by.ensures in (
      c.in-Some.ensures.first_rises,
      c.in-Some.ensures.second_rises,
      (λ none. c.loop-next.invariant.2
          (none_shown (shown_by c.args.question) c.loop-next.rest_a.now c.loop-next.rest_b.now n.second n.side n.xs.now n.ys.now c.in-Some.ensures
          (λ t. false≢true (sym hidden ∙ t)) none)),
      (λ w r first. c.loop-next.invariant.3 w r
          (first_shown_after (shown_by c.args.question) c.loop-next.rest_a.now c.loop-next.rest_b.now n.second n.side n.xs.now n.ys.now c.in-Some.ensures
          (λ t. false≢true (sym hidden ∙ t)) w r first)),
    )

pub returns : goal.returns
returns c = c.loop-next.invariant.2
    (empty_shows_none (shown_by c.args.question) c.loop-next.rest_a.now c.loop-next.rest_b.now c.in_default.ensures.0 c.in_default.ensures.1)
