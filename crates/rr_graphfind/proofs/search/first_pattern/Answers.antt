use Rattle.std.proofs.Common.{sym, subst}
use Rattle.rr_graphfind.specs.Order.{IsFirstThat, members_of}
use Rattle.rr_graphfind.specs.Search.{Matches}
use Rattle.rr_graphfind.proofs.OrderLemmas.{few_members, fewer_left, none_at_all, none_before_next}
use Rattle.rr_graphfind.proofs.search.first_pattern.Goals as goal

pub returns-in_err-pattern : goal.returns-in_err-pattern
returns-in_err-pattern g c =
    let s = g.A.DaySeq.sketch c.args.seq.now in
    let w = c.args.window.now in
    let group = c.in-Some.group in
    subst (λ found. IsFirstThat (Matches s w) found) (sym c.from_residual.ensures)
    (none_at_all (Matches s w) (λ other m. m.agrees.valid) (members_of group) (few_members group) c.loop-group.pattern c.in-Some.ensures
    c.loop-group.invariant.1 c.in_err-pattern.ensures)

pub loop-group-smaller : goal.loop-group-smaller
loop-group-smaller g c =
    fewer_left (members_of c.in-Some.group) c.loop-group.pattern c.in_ok-pattern.pattern c.loop-group.invariant.0 c.in_ok-pattern.ensures.0

pub loop-group-preserved : goal.loop-group-preserved
loop-group-preserved g c =
    let s = g.A.DaySeq.sketch c.args.seq.now in
    let w = c.args.window.now in
    let group = c.in-Some.group in (
      c.in_ok-pattern.ensures.0.0,
      none_before_next (Matches s w) (λ other m. m.agrees.valid) (members_of group) (few_members group) c.loop-group.pattern c.in-Some.ensures
          c.loop-group.invariant.1 c.in_ok-pattern.pattern c.in_ok-pattern.ensures,
    )
