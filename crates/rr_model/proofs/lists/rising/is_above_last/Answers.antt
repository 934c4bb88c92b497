use Rattle.std.proofs.Common.{sym, ap, ◌∙◌}
use Rattle.std.specs.Option.{option_copied}
use Rattle.rr_model.proofs.RisingLemmas.{behind_last}
use Rattle.rr_model.proofs.lists.rising.is_above_last.Goals as goal

pub returns-in-Less : goal.returns-in-Less
returns-in-Less g c t =
    behind_last g.met.T.Ord.total c.args.items.now c.in-Some.last.now c.args.value c.requires
    (sym c.last.ensures.value ∙ ap option_copied c.in-Some.is) (sym c.cmp.ensures ∙ c.in-Less.is)
