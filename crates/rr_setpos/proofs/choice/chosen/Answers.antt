use Rattle.std.proofs.Common.{◌∙◌, sym, to_z-of_z}
use Rattle.rr_model.proofs.StartLemmas.{IsDayWithin-start}
use Rattle.rr_setpos.proofs.PositionLemmas.{chosen_candidate, chosen_no_candidate}
use Rattle.rr_setpos.proofs.choice.chosen.Goals as goal

pub new-start-requires : goal.new-start-requires
new-start-requires c = record { near = rw (to_z-of_z c.ranges.start) (IsDayWithin-start 1000 c.args.kind c.args.start c.requires.start) }

pub returns-then-is_candidate : goal.returns-then-is_candidate
returns-then-is_candidate c =
    let passes = rw (c.new-start.ensures.kind, c.new-start.ensures.at, c.new-moment.ensures.at, to_z-of_z c.ranges.start, to_z-of_z c.ranges.at) at
    (sym c.is_candidate.ensures ∙ c.if-is_candidate.true) in
    c.set_positions_hold.ensures
    ∙ rw (c.new-start.ensures.kind, c.new-start.ensures.at, c.new-moment.ensures.at, to_z-of_z c.ranges.start, to_z-of_z c.ranges.at)
    (sym (chosen_candidate c.args.rule.now c.args.kind c.args.start c.args.at c.requires.rule.start passes))

pub returns-else-is_candidate : goal.returns-else-is_candidate
returns-else-is_candidate c =
    let fails = rw (c.new-start.ensures.kind, c.new-start.ensures.at, c.new-moment.ensures.at, to_z-of_z c.ranges.start, to_z-of_z c.ranges.at) at
    (sym c.is_candidate.ensures ∙ c.if-is_candidate.false) in
    c.if-is_candidate.false ∙ sym (chosen_no_candidate c.args.rule.now c.args.kind c.args.start c.args.at fails)
