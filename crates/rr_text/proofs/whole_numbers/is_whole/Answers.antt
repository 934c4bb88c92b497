use Rattle.std.proofs.Common.{sym, ◌∙◌}
use Rattle.rr_text.proofs.NumberLemmas.{is_number-run}
use Rattle.rr_text.proofs.whole_numbers.is_whole.Goals as goal

pub returns-then-not-is_empty : goal.returns-then-not-is_empty
returns-then-not-is_empty c =
    is_number-run c.args.text.now c.args.run c.requires (sym c.is_empty.ensures ∙ c.if-not-is_empty.true)
