use Rattle.std.proofs.Common.{◌≡◌, ◌∙◌, length, get_or, ap, rules, FitsSigned, w64, w16, to_z, of_z, to_z-of_z, pos, arith}
use Rattle.rr_walk.proofs.PositionDayLemmas.{searched_nowhere, searched_other, searched_found, searched_some, searched_all}
use Rattle.rr_walk.proofs.set_positions.next_rank.Goals as goal
use Rattle.rr_walk.proofs.set_positions.next_rank.Goals.{in-Some+then-from-rank+then-rank-end, in-Some+else-from-rank, in_default}
use Rattle.rr_walk.proofs.set_positions.next_rank.Goals.{else-from-rank-via-then-from-rank+else-rank-end, else-from-rank-via-else-from-rank}

pub loop-position-preserved : goal.loop-position-preserved
loop-position-preserved c =
    let positions = c.args.positions.now in
    let i = c.loop-position.position-index in
    let position = to_z w64 (of_z w64 c.from.result) in
    let small : FitsSigned w16 (get_or c.as_slice-position-items.result.now i (pos 0)) = search rules in
    let fits : FitsSigned w64 c.from.result = search rules in
    let is : to_z w64 (of_z w64 c.from.result) ≡ get_or positions i (pos 0) = to_z-of_z fits ∙ c.from.ensures ∙ to_z-of_z small
    ∙ ap (λ l. get_or l i (pos 0)) c.as_slice-position-items.ensures.value in
    elim c.match-day_of_position.branch [
      | in-Some+then-from-rank+then-rank-end w ↦ rw w.end-is
          (searched_found positions c.args.each c.args.count c.args.from i c.loop-position.end position is c.loop-position.invariant w.in-Some.rank
          (rw w.in-Some.is at c.day_of_position.ensures) w.if-from-rank.true w.if-rank-end.true)
      | in-Some+else-from-rank w ↦ rw w.end-is
          (searched_other positions c.args.each c.args.count c.args.from i c.loop-position.end position is c.loop-position.invariant w.in-Some.rank
          (rw w.in-Some.is at c.day_of_position.ensures)
          (λ late low. elim w.else-from-rank.branch [
            | else-from-rank-via-then-from-rank+else-rank-end v ↦ omega (arith, v.if-rank-end.false, low)
            | else-from-rank-via-else-from-rank v ↦ omega (arith, v.if-from-rank.false, late)
          ]))
      | in_default w ↦ rw w.end-is
          (searched_nowhere positions c.args.each c.args.count c.args.from i c.loop-position.end position is c.loop-position.invariant
          (rw w.in_default.is at c.day_of_position.ensures))
    ]

pub returns-then-end-count : goal.returns-then-end-count
returns-then-end-count c =
    let last : c.loop-position.position-index ≡ length c.args.positions.now = omega
    (arith, c.loop-position.auto.position-index-end, c.loop-position-test.false, ap length c.as_slice-position-items.ensures.value) in
    searched_some c.args.positions.now c.args.each c.args.count c.args.from c.loop-position.position-index c.loop-position.end last c.loop-position.invariant
    c.if-end-count.true

pub returns-else-end-count : goal.returns-else-end-count
returns-else-end-count c =
    let last : c.loop-position.position-index ≡ length c.args.positions.now = omega
    (arith, c.loop-position.auto.position-index-end, c.loop-position-test.false, ap length c.as_slice-position-items.ensures.value) in
    searched_all c.args.positions.now c.args.each c.args.count c.args.from c.loop-position.position-index c.loop-position.end last c.loop-position.invariant
    c.if-end-count.false
