use Rattle.std.proofs.Common.{sym, ◌∙◌}
use Rattle.rr_ical.proofs.DateCutLemmas.{cut_at, uncut}
use Rattle.rr_ical.proofs.dates.cut_date.Goals as goal

pub returns-in-Some : goal.returns-in-Some
returns-in-Some c = cut_at c.args.takes_semicolons c.args.text.now c.in-Some.index (sym c.in-Some.is ∙ c.separator_index.ensures)

pub returns-in-None : goal.returns-in-None
returns-in-None c = uncut c.args.takes_semicolons c.args.text.now (sym c.in-None.is ∙ c.separator_index.ensures)
