use Rattle.rr_html.proofs.MarkupLemmas.{none_is}
use Rattle.rr_html.proofs.markup.Markup.new.Goals as goal

pub invariant_of-result : goal.invariant_of-result
invariant_of-result c = none_is _ c.new.ensures.items
