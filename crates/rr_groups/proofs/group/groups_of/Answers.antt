use Rattle.std.proofs.Common.{rules, subst}
use Rattle.std.proofs.lemmas.Result.{IfOk-weaker}
use Rattle.rr_groups.specs.Entries.{IsSortedOf, entries_of}
use Rattle.rr_groups.specs.Runs.{AreGroupsOf}
use Rattle.rr_groups.proofs.GroupLemmas.{are_groups}
use Rattle.rr_groups.proofs.group.groups_of.Goals as goal

pub returns : goal.returns
returns c =
    let a = c.args.a.now in
    let b = c.args.b.now in
    let entries = c.in_ok-entries.entries.items in
    let order : IsSortedOf (entries_of a b) entries = search rules in
    IfOk-weaker c.groups_of_entries.result _ _
    (λ groups grouped. are_groups a b entries groups.items order (subst (λ es. AreGroupsOf es groups.items) c.deref.ensures.value grouped))
    c.groups_of_entries.ensures
