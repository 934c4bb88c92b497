use Rattle.std.proofs.Common.{◌∷◌, ◌∙◌, get_or, refl}
use Rattle.rr_model.specs.Text.Written.{day_item_text}
use Rattle.rr_rrule.proofs.PushLemmas.{after_comma, all_written, first_written}
use Rattle.rr_rrule.proofs.part_text.push_day_items.Goals as goal

pub loop-other-preserved : goal.loop-other-preserved
loop-other-preserved c =
    after_comma day_item_text c.loop-other.line.items c.push.new.self.items c.push_day_item-in-loop-other.new.line.items _ c.args.others.now
    c.loop-other.other-index (get_or c.args.others.now c.loop-other.other-index _) _ c.loop-other-test.true refl c.loop-other.invariant
    c.in_ok-push.ensures.items c.in_ok-push_day_item-2.ensures

pub returns : goal.returns
returns c =
    all_written (λ item. 44 ∷ day_item_text item) c.loop-other.line.items _ c.args.others.now c.loop-other.other-index c.loop-other-test.false
    c.loop-other.invariant
    ∙ first_written day_item_text c.args.line.now.items c.push_day_item.new.line.items c.args.first c.args.others.now c.in_ok-push_day_item.ensures
