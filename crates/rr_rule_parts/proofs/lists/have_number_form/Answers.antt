use Rattle.std.proofs.Common.{rules, tests, ◌==◌}
use Rattle.std.proofs.lemmas.Iterator.Search.{all_from_yields_List}
use Rattle.std.proofs.lemmas.Iterator.Splits.{YieldsList-from_slice_split}
use Rattle.rr_rule_parts.specs.Values.{has_number_form}
use Rattle.rr_rule_parts.proofs.lists.have_number_form.Goals as goal

pub returns : goal.returns
returns c =
    all_from_yields_List (has_number_form c.args.bounds) _ _ _ c.all.ensures.ran
    (YieldsList-from_slice_split _ (λ b. b == 44) c.args.text.now c.split.ensures.rest c.split.ensures.done c.split.ensures.closure
    (λ x b q k. search (rules, tests))) (λ x b q k. search (rules, tests))
