use Rattle.std.proofs.Common.{◌∙◌, sym, refl, ◌+◌, ◌%◌, arith}
use Rattle.std.specs.List.{list_any}
use Rattle.rr_expand.specs.LeftOut.{has_weekday}
use Rattle.rr_expand.proofs.LeftOutLemmas.{next_first, next_more, next_all}
use Rattle.rr_expand.proofs.left_out.gap.Goals as goal

pub loop-days-init : goal.loop-days-init
loop-days-init c = next_first (λ i. list_any (has_weekday ((c.args.weekday + i) % 7)) c.args.items.now) 0 7 _ refl (omega arith)

pub loop-days-preserved : goal.loop-days-preserved
loop-days-preserved c =
    next_more (λ i. list_any (has_weekday ((c.args.weekday + i) % 7)) c.args.items.now) 0 7 c.loop-days.days (omega (arith, c.loop-days-test.true))
    (sym c.lists_weekday.ensures ∙ c.if-lists_weekday.false) c.loop-days.invariant

pub returns : goal.returns
returns c =
    next_all (λ i. list_any (has_weekday ((c.args.weekday + i) % 7)) c.args.items.now) 0 7 c.loop-days.days (omega (arith, c.loop-days-test.false))
    c.loop-days.invariant
