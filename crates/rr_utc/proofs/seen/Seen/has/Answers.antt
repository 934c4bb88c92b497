use Rattle.std.proofs.Common.{◌≡◌, ◌<◌, None, Some, Contains, get_or, length, ap, subst, sym, ◌∙◌, rules}
use Rattle.std.proofs.lemmas.List.Elements.{Contains-get_or}
use Rattle.rr_utc.proofs.SeenLemmas.{same_about}
use Rattle.rr_utc.proofs.seen.Seen.has.Goals as goal

pub returns-in-Some : goal.returns-in-Some
returns-in-Some c test =
    let slots = c.args.self.now.slots in
    let within : c.index_of.result < length c.args.self.now.slots = search rules in
    let at : get_or c.args.self.now.slots c.index_of.result None ≡ Some c.in-Some.other = search rules in
    let same : c.in-Some.other ≡ c.args.about = same_about c.in-Some.other c.args.about (sym c.eq.ensures ∙ test) in
    subst (Contains slots) (at ∙ ap Some same) (Contains-get_or slots c.index_of.result None within)
