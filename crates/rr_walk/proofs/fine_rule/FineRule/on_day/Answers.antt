use Rattle.std.proofs.Common.{◌≡◌, ◌<◌, arith, to_z-of_z, ap, length}
use Rattle.std.specs.Prelude.{[]}
use Rattle.std.proofs.lemmas.List.{nil_from_length}
use Rattle.std.proofs.lemmas.Option.{get_or_from_slice_get}
use Rattle.std.proofs.lemmas.Result.{IfOk-weaker}
use Rattle.rr_model.specs.Sets.Tree.{chosen_of, stands_at}
use Rattle.rr_model.specs.declared.kind.Kind.TheVariants.{Moments}
use Rattle.rr_walk.specs.Ruling.{unit_offsets_more}
use Rattle.rr_walk.specs.Walk.{IsOnDayIn, IsDayOfTimes}
use Rattle.rr_walk.proofs.DayListLemmas.{nothing_in, occupied_on}
use Rattle.rr_walk.proofs.FineLemmas.{on_whole, seconds_of_day, whole_day}
use Rattle.rr_walk.proofs.fine_rule.FineRule.on_day.Goals as goal

pub returns-then-first-gt0-clause-knows : goal.returns-then-first-gt0-clause-knows
returns-then-first-gt0-clause-knows c =
    unit_offsets_more c.number_on.new.self c.number_on.new.sets c.day_of_times.new.sets c.day_of_times.ensures.kept c.number_on.ensures.knows

pub returns-then-first-gt0-clause-found : goal.returns-then-first-gt0-clause-found
returns-then-first-gt0-clause-found c =
    let r = c.args.self.now in
    let tree = chosen_of r.rule Moments r.start in
    let all = c.times-chosen.result.now in
    let day = to_z-of_z c.ranges.day in
    let is = get_or_from_slice_get c.number_on.new.sets c.in_ok-number.number.index all [] c.times-chosen.ensures in
    let chosen = rw (is, day) at c.in_ok-number.ensures.number in
    let first = rw (c.number_on.ensures.same.start, day) at c.first_second-first.ensures in
    let set = seconds_of_day r.rule r.start c.args.day c.first_second-first.result all c.in_ok-times.times first chosen c.in_ok-times.ensures in
    IfOk-weaker c.day_of_times.result (IsDayOfTimes c.day_of_times.new.sets c.args.day c.in_ok-times.times) (IsOnDayIn c.day_of_times.new.sets tree c.args.day)
    (λ x p. occupied_on c.day_of_times.new.sets tree c.args.day c.in_ok-times.times x set p) (rw day at c.day_of_times.ensures.day)

pub returns-then-count-eq0-clause-found : goal.returns-then-count-eq0-clause-found
returns-then-count-eq0-clause-found c =
    let r = c.args.self.now in
    let all = c.times-chosen.result.now in
    let day = to_z-of_z c.ranges.day in
    let is = get_or_from_slice_get c.number_on.new.sets c.in_ok-number.number.index all [] c.times-chosen.ensures in
    let chosen = rw (is, day) at c.in_ok-number.ensures.number in
    let first = rw (c.number_on.ensures.same.start, day) at c.first_second-first.ensures in
    let set = whole_day r.rule r.start c.args.day c.first_second-first.result all first (omega (arith, c.if-first-gt0.false)) chosen in
    let none : length all ≡ 0 = omega (arith, c.if-count-eq0.true, ap length c.as_slice-count.ensures.same) in
    nothing_in (stands_at (chosen_of r.rule Moments r.start) c.args.day) all set (nil_from_length all none)

pub returns-clause-found : goal.returns-clause-found
returns-clause-found c =
    let r = c.args.self.now in
    let all = c.times-chosen.result.now in
    let day = to_z-of_z c.ranges.day in
    let is = get_or_from_slice_get c.number_on.new.sets c.in_ok-number.number.index all [] c.times-chosen.ensures in
    let chosen = rw (is, day) at c.in_ok-number.ensures.number in
    let first = rw (c.number_on.ensures.same.start, day) at c.first_second-first.ensures in
    let set = whole_day r.rule r.start c.args.day c.first_second-first.result all first (omega (arith, c.if-first-gt0.false)) chosen in
    let some : 0 < length c.as_slice-count.result.now = omega (arith, c.if-count-eq0.false) in
    on_whole c.number_on.new.sets (chosen_of r.rule Moments r.start) c.args.day _ c.in_ok-number.number.index (length c.as_slice-count.result.now) all
    c.times-chosen.ensures (ap length c.as_slice-count.ensures.same) some day set
