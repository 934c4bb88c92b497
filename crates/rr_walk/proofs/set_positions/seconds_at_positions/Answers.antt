use Rattle.std.proofs.Common.{◌≡◌, ◌∙◌, length, get_or, ap, subst, rules, FitsSigned, w64, w16, to_z, of_z, to_z-of_z, pos, arith}
use Rattle.std.specs.Prelude.{nat_lt}
use Rattle.rr_model.specs.Rising.Sets.{IsSetOf}
use Rattle.rr_walk.specs.SetPositions.{IsAtSome}
use Rattle.rr_walk.proofs.SetPositionLemmas.{none_yet, one_more_none, one_more_some}
use Rattle.rr_walk.proofs.set_positions.seconds_at_positions.Goals as goal
use Rattle.rr_walk.proofs.set_positions.seconds_at_positions.Goals.{in-None, in-Some+in_ok-put-in-Some}

pub loop-position-init : goal.loop-position-init
loop-position-init c = none_yet c.args.times.now c.args.before c.args.size c.requires.room c.args.positions.now c.new-seconds.result c.new-seconds.ensures

pub loop-position-preserved : goal.loop-position-preserved
loop-position-preserved c =
    let times = c.args.times.now in
    let positions = c.args.positions.now in
    let i = c.loop-position.position-index in
    let position = to_z w64 (of_z w64 c.from.result) in
    let small : FitsSigned w16 (get_or c.as_slice-position-items.result.now i (pos 0)) = search rules in
    let fits : FitsSigned w64 c.from.result = search rules in
    let is : to_z w64 (of_z w64 c.from.result) ≡ get_or positions i (pos 0) = to_z-of_z fits ∙ c.from.ensures ∙ to_z-of_z small
    ∙ ap (λ l. get_or l i (pos 0)) c.as_slice-position-items.ensures.value in
    elim c.match-time_at.branch [
      | in-None w ↦ rw w.seconds-is
          (one_more_none times c.args.before c.args.size c.requires.room positions i position c.loop-position.seconds is
          (rw w.in-None.is at c.time_at.ensures) c.loop-position.invariant)
      | in-Some+in_ok-put-in-Some w ↦
          rw w.seconds-is
          (one_more_some times c.args.before c.args.size c.requires.room positions i position c.loop-position.seconds w.put.new.self w.in-Some.second is
          (rw w.in-Some.is at c.time_at.ensures) w.in_ok-put-in-Some.ensures.ok c.loop-position.invariant)
    ]

pub returns : goal.returns
returns c =
    let positions = c.args.positions.now in
    let last : c.loop-position.position-index ≡ length positions = omega
    (arith, c.loop-position.auto.position-index-end, c.loop-position-test.false, ap length c.as_slice-position-items.ensures.value) in
    subst (λ k. IsSetOf nat_lt c.loop-position.seconds (IsAtSome c.args.times.now c.args.before c.args.size positions k)) last c.loop-position.invariant
