use Rattle.std.proofs.Common.{sym, ap, ◌∙◌}
use Rattle.std.proofs.lemmas.Bool.{false≢true}
use Rattle.rr_find.proofs.ChoiceLemmas.{taken_none, taken_next, fewer_next, index_fits, few_items, all_taken, not_all_taken}
use Rattle.rr_model.specs.Rising.{with_value}
use Rattle.rr_model.specs.Vcal.Items.{item_lt}
use Rattle.rr_find.proofs.choice.taken_items.Goals as goal

pub loop-index-init : goal.loop-index-init
loop-index-init c = (taken_none c.args.kind _ _ c.new-items.result c.new-items.ensures, c.requires.few)

pub item_at-requires : goal.item_at-requires
item_at-requires c = index_fits c.args.kind _ _ c.in-Some.index (sym c.in-Some.is ∙ c.best_index.ensures)

pub take_item-requires-clause-index : goal.take_item-requires-clause-index
take_item-requires-clause-index c =
    few_items c.args.kind c.in-Some.index (index_fits c.args.kind _ _ c.in-Some.index (sym c.in-Some.is ∙ c.best_index.ensures))

pub loop-index-smaller : goal.loop-index-smaller
loop-index-smaller c = fewer_next c.args.kind _ _ _ c.in-Some.index (sym c.best_index.ensures ∙ c.in-Some.is) c.take_item.ensures.taken

pub loop-index-preserved : goal.loop-index-preserved
loop-index-preserved c = (
  taken_next c.args.kind _ _ _ _ c.loop-index.items c.put.new.self c.in-Some.index c.loop-index.invariant.0 (sym c.best_index.ensures ∙ c.in-Some.is)
      c.take_item.ensures.taken (c.in_ok-put.ensures.ok ∙ ap (with_value item_lt c.loop-index.items) c.item_at.ensures),
  c.take_item.ensures.few,
)

pub returns-then-is_clear : goal.returns-then-is_clear
returns-then-is_clear c =
    all_taken c.args.kind _ _ _ c.loop-index.items c.loop-index.invariant.0 (sym c.best_index.ensures ∙ c.in_default.is) (c.is_clear.ensures.0
    c.if-is_clear.true)

pub returns-else-is_clear : goal.returns-else-is_clear
returns-else-is_clear c =
    not_all_taken c.args.kind _ _ _ c.loop-index.items c.loop-index.invariant.0 (sym c.best_index.ensures ∙ c.in_default.is)
    (λ clear. false≢true (sym c.if-is_clear.false ∙ c.is_clear.ensures.1 clear))
