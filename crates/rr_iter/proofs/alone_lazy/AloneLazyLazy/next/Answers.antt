use Rattle.std.proofs.Common.{subst, to_z-of_z}
use Rattle.rr_lazy.specs.Next.{IsNextIn}
use Rattle.rr_iter.specs.Alone.{tree_alone}
use Rattle.rr_iter.specs.Ended.{position_of_ended, tree_of_ended}
use Rattle.rr_lazy.proofs.PassedOnLemmas.{next_same}
use Rattle.rr_iter.proofs.AloneLemmas.{same_alone}
use Rattle.rr_iter.proofs.alone_lazy.AloneLazyLazy.next.Goals as goal

pub returns-clause-next : goal.returns-clause-next
returns-clause-next c =
    let s = c.args.self.now in
    let members = tree_of_ended s.members in
    let own = position_of_ended s.members in
    let next = position_of_ended c.next.new.self in
    next_same c.next.new.sets members (tree_alone s.kind s.start members) own c.args.to next c.next.result
    (same_alone s.kind s.start members s.has_start)
    (subst (λ to. IsNextIn c.next.new.sets members own to c.next.result next) (to_z-of_z c.ranges.to) c.next.ensures.next)
