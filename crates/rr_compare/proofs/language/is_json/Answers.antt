use Rattle.std.proofs.Common.{ap, sym, ◌∙◌}
use Rattle.rr_compare.specs.Languages.{is_open_at}
use Rattle.rr_compare.proofs.language.is_json.Goals as goal

pub returns-in-Some : goal.returns-in-Some
returns-in-Some c = c.is_open.ensures ∙ ap (is_open_at c.args.text.now) (sym c.in-Some.is ∙ c.part_index.ensures)
