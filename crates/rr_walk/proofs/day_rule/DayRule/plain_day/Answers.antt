use Rattle.std.proofs.Common.{◌≡◌, ◌∙◌, length, ap, sym, to_z-of_z, arith}
use Rattle.std.proofs.lemmas.Result.{IfOk-weaker}
use Rattle.std.proofs.lemmas.List.{nil_from_length}
use Rattle.rr_model.specs.Sets.Tree.{chosen_of}
use Rattle.rr_walk.specs.Ruling.{keeps_more}
use Rattle.rr_walk.specs.Walk.{IsOnDayIn, IsDayOfTimes}
use Rattle.rr_walk.proofs.DayListLemmas.{occupied_on}
use Rattle.rr_walk.proofs.PlainLemmas.{plain_none, plain_on, plain_seconds}
use Rattle.rr_walk.proofs.SetPositionLemmas.{absent_is}
use Rattle.rr_walk.proofs.day_rule.DayRule.plain_day.Goals as goal

pub returns-then-first-gt0-clause-knows : goal.returns-then-first-gt0-clause-knows
returns-then-first-gt0-clause-knows c = keeps_more c.args.self.now 0 _ c.args.sets.now c.day_of_times.new.sets c.day_of_times.ensures.kept c.requires.knows

pub returns-then-first-gt0-clause-found : goal.returns-then-first-gt0-clause-found
returns-then-first-gt0-clause-found c =
    let r = c.args.self.now in
    let u = rw c.self.view_is at c.self.invariant in
    let tree = chosen_of r.rule r.kind r.start in
    let first = rw (to_z-of_z c.ranges.day) at c.first_second-first.ensures in
    let set = plain_seconds r.rule r.kind r.start c.args.day u.freq
    (absent_is r.rule.by_set_pos c.requires.plain) c.requires.candidate c.self.inside.times u.of_times
    c.first_second-first.result c.in_ok-times.times first c.in_ok-times.ensures in
    IfOk-weaker c.day_of_times.result (IsDayOfTimes c.day_of_times.new.sets c.args.day c.in_ok-times.times) (IsOnDayIn c.day_of_times.new.sets tree c.args.day)
    (λ found p. occupied_on c.day_of_times.new.sets tree c.args.day c.in_ok-times.times found set p) (rw (to_z-of_z c.ranges.day) at c.day_of_times.ensures.day)

pub returns-then-count-eq0-clause-found : goal.returns-then-count-eq0-clause-found
returns-then-count-eq0-clause-found c =
    let r = c.args.self.now in
    let u = rw c.self.view_is at c.self.invariant in
    let none : c.first_second-first.result ≡ 0 = omega (arith, c.if-first-gt0.false) in
    let first = rw (to_z-of_z c.ranges.day, none) at c.first_second-first.ensures in
    let empty = sym c.as_slice-count.ensures.same ∙ nil_from_length c.as_slice-count.result.now c.if-count-eq0.true in
    plain_none r.rule r.kind r.start c.args.day u.freq (absent_is r.rule.by_set_pos c.requires.plain) c.requires.candidate c.self.inside.times u.of_times
    first empty

pub returns-clause-found : goal.returns-clause-found
returns-clause-found c =
    let r = c.args.self.now in
    let u = rw c.self.view_is at c.self.invariant in
    let none : c.first_second-first.result ≡ 0 = omega (arith, c.if-first-gt0.false) in
    let first = rw (to_z-of_z c.ranges.day, none) at c.first_second-first.ensures in
    plain_on r.rule r.kind r.start c.args.day u.freq (absent_is r.rule.by_set_pos c.requires.plain) c.requires.candidate c.self.inside.times u.of_times
    c.number_of_times.new.sets _ (to_z-of_z c.ranges.day) first (ap (λ xs. length xs) c.as_slice-count.ensures.same)
    c.if-count-eq0.false c.in_ok-number.ensures.within c.in_ok-number.ensures.number
