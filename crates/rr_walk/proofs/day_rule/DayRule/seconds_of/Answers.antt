use Rattle.std.proofs.Common.{sym, to_z-of_z}
use Rattle.std.specs.Prelude.{IsTrue, nat_lt}
use Rattle.std.proofs.lemmas.Result.{IfOk-weaker}
use Rattle.rr_model.specs.Rising.Sets.{IsSetOf}
use Rattle.rr_model.specs.Sets.Tree.{chosen_of, stands_at}
use Rattle.rr_walk.proofs.SetPositionLemmas.{chosen_at_positions, rank_low}
use Rattle.rr_walk.proofs.WalkLemmas.{seconds_of_day}
use Rattle.rr_walk.proofs.day_rule.DayRule.seconds_of.Goals as goal

pub times_at_positions-requires-clause-rank : goal.times_at_positions-requires-clause-rank
times_at_positions-requires-clause-rank c =
    let u = rw c.self.view_is at c.self.invariant in
    (rank_low c.args.self.now c.args.day c.args.rank c.args.count u.freq c.requires.candidate).0

pub times_at_positions-requires-clause-count : goal.times_at_positions-requires-clause-count
times_at_positions-requires-clause-count c =
    let u = rw c.self.view_is at c.self.invariant in
    (rank_low c.args.self.now c.args.day c.args.rank c.args.count u.freq c.requires.candidate).1

pub returns : goal.returns
returns c =
    let i = c.self.inside in
    let at = rw (sym c.self.view_is) at c.requires.candidate in
    let first = rw (to_z-of_z c.ranges.day) at (rw (sym c.self.view_is) at c.first_second-from.ensures) in
    let stands = rw (sym c.self.view_is) at c.requires.positions in
    let all = c.in_ok-chosen.chosen in
    let known = c.self.invariant in
    let set = chosen_at_positions i.rule i.kind i.start c.args.day known.freq at.candidate i.times all c.args.rank c.args.count stands known.of_times
    at.before at.all c.in_ok-chosen.ensures in
    rw (← c.self.view_is) (IfOk-weaker c.cut.result _ (λ t. IsSetOf nat_lt t (λ s. IsTrue (stands_at (chosen_of i.rule i.kind i.start) c.args.day s)))
    (λ t h. seconds_of_day i.rule i.kind i.start c.self.invariant.freq c.args.day c.first_second-from.result all t first set h) c.cut.ensures)
