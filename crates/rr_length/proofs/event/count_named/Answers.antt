use Rattle.std.proofs.Common.{◌∙◌, ◌+◌, cond, sym, rules, tests}
use Rattle.std.specs.Borrow.{Bor}
use Rattle.std.proofs.lemmas.Iterator.{YieldsList-from_slice}
use Rattle.std.proofs.lemmas.Iterator.Consumers.{YieldsList-from_filter, count_from_yields_List}
use Rattle.std.proofs.lemmas.List.Folds.{fold-map}
use Rattle.std.proofs.lemmas.List.Sums.{length-filter}
use Rattle.rr_model.specs.Text.UsedLines.{is_named}
use Rattle.rr_model.specs.declared.line.Line.{Line}
use Rattle.rr_length.proofs.event.count_named.Goals as goal

pub returns : goal.returns
returns c =
    let named = λ (line : Line). is_named line.text c.args.word.now in
    let named_at = λ (line : Bor Line). named line.now in
    count_from_yields_List c.filter.result _ c.count.ensures.ran
    (YieldsList-from_filter _ named_at (YieldsList-from_slice c.args.own.now cc) c.filter.ensures.closure (λ x r q k. search (rules, tests)))
    ∙ length-filter named_at c.args.own.now
    ∙ sym (fold-map (λ a line. a + cond (named line) 1 0) (λ (line : Bor Line). line.now) 0 c.args.own.now)
