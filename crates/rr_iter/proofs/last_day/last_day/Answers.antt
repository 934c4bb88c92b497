use Rattle.std.proofs.Common.{rules, ◌≡◌, ℤ, pos, ◌≤ℤ◌, w64, to_z, of_z, FitsSigned, to_z-of_z, refl, arith}
use Rattle.std.proofs.lemmas.Int.{ints}
use Rattle.rr_model.specs.Moment.{day_part}
use Rattle.rr_model.specs.Sets.Tree.{chosen_of}
use Rattle.rr_model.proofs.YearLemmas.{four_digit_bounds}
use Rattle.rr_iter.specs.Ends.{IsLastDay}
use Rattle.rr_iter.proofs.CountedFarLemmas.{both_not_far}
use Rattle.rr_iter.proofs.CountedLemmas.{start_bounds}
use Rattle.rr_iter.proofs.LastDayLemmas.{both_in_years, both_last, both_near, count_answered, count_given, count_refused, day_near, until_near}
use Rattle.rr_iter.proofs.last_day.last_day.Goals.{After-day_part-in-Both, In_ok-last_member-in-Both}
use Rattle.rr_iter.proofs.last_day.last_day.Goals as goal

pub returns-in-Never-clause-near : goal.returns-in-Never-clause-near
returns-in-Never-clause-near c =
    let bounds = start_bounds c.args.kind c.args.start c.args.rule.now c.requires.sound in
    let day = rw (to_z-of_z c.ranges.start) at c.day_part.ensures in
    omega (arith, ints, day, bounds.0, bounds.1)

pub returns-in-Until-clause-near : goal.returns-in-Until-clause-near
returns-in-Until-clause-near c =
    let sound = c.requires.sound in
    let fits : FitsSigned w64 c.in-Until.at = search rules in
    let day = rw (to_z-of_z fits) at c.day_part-in-Until.ensures in
    let u = c.in-Until in
    let years = until_near c.args.kind c.args.start c.args.rule.now u.kind u.at u.is sound.ends_in_years sound.end in
    let bounds = four_digit_bounds (day_part c.args.kind u.at) years in
    omega (arith, ints, day, bounds.0, bounds.1)

pub returns-in-Count-clause-day : goal.returns-in-Count-clause-day
returns-in-Count-clause-day c =
    let sound = c.requires.sound in
    let answer = rw (to_z-of_z c.ranges.start) at c.last_counted.ensures.day in
    count_answered c.args.kind c.args.start c.args.rule.now c.in-Count.count c.in-Count.is sound c.last_counted.result answer

pub returns-in-Count-clause-near : goal.returns-in-Count-clause-near
returns-in-Count-clause-near c =
    let bounds = start_bounds c.args.kind c.args.start c.args.rule.now c.requires.sound in
    let answer = rw (to_z-of_z c.ranges.start) at c.last_counted.ensures.day in
    day_near (chosen_of c.args.rule.now c.args.kind c.args.start) (day_part c.args.kind c.args.start) c.in-Count.count c.last_counted.result bounds.1 answer

pub returns-in-Count-clause-refused : goal.returns-in-Count-clause-refused
returns-in-Count-clause-refused c =
    let answer = rw (to_z-of_z c.ranges.start) at c.last_counted.ensures.day in
    count_refused c.args.kind c.args.start c.args.rule.now c.in-Count.count c.in-Count.is c.requires.sound c.last_counted.result answer

pub returns-in-Count-clause-counted : goal.returns-in-Count-clause-counted
returns-in-Count-clause-counted c =
    let counted = rw (to_z-of_z c.ranges.start) at c.last_counted.ensures.counted in
    count_given c.args.kind c.args.start c.args.rule.now c.in-Count.count c.in-Count.is c.requires.sound c.last_counted.result counted

-- ---- with both

-- the day of UNTIL
record Until (c : After-day_part-in-Both) : Type 0 where
  to : to_z w64 (of_z w64 c.day_part-in-Both.result) ≡ day_part c.args.kind c.in-Both.at
  high : day_part c.args.kind c.in-Both.at ≤ℤ pos 2_932_896

until : (c : After-day_part-in-Both) → Until c
until c =
    let sound = c.requires.sound in
    let b = c.in-Both in
    let fits : FitsSigned w64 b.at = search rules in
    let day = rw (to_z-of_z fits) at c.day_part-in-Both.ensures in
    let years = both_in_years c.args.kind c.args.start c.args.rule.now b.kind b.at b.count b.is sound.in_years sound.end sound.ends_in_years in
    let bounds = four_digit_bounds (day_part c.args.kind b.at) years in
    record { to = omega (arith, ints, day, bounds.0, bounds.1); high = bounds.1 }

pub last_member-requires-clause-high : goal.last_member-requires-clause-high
last_member-requires-clause-high c =
    let u = until c in
    rw u.to (omega (arith, ints, u.high))

-- the last member up to it
record Found (c : In_ok-last_member-in-Both) : Type 0 where
  same : to_z w64 (of_z w64 c.in_ok-last_member-in-Both.field-0) ≡ c.in_ok-last_member-in-Both.field-0
  last : IsLastDay c.args.kind c.args.start c.args.rule.now c.in_ok-last_member-in-Both.field-0
  near : c.in_ok-last_member-in-Both.field-0 ≤ℤ pos 2_932_896

found : (c : In_ok-last_member-in-Both) → Found c
found c =
    let sound = c.requires.sound in
    let kind = c.args.kind in
    let start = c.args.start in
    let rule = c.args.rule.now in
    let b = c.in-Both in
    let day : ℤ = c.in_ok-last_member-in-Both.field-0 in
    let u = until (goal.at.returns-in_ok-last_member-in-Both-clause-day c).After-day_part-in-Both in
    let up_to = rw (to_z-of_z c.ranges.start, u.to) at c.in_ok-last_member-in-Both.ensures in
    let last = both_last kind start rule b.kind b.at b.count b.is sound.in_years sound.end day up_to in
    let near = both_near kind start rule b.kind b.at b.count b.is sound.in_years sound.end day up_to sound.ends_in_years in
    record { same = omega (arith, ints, last.late, near, (start_bounds kind start rule sound).0); last = last; near = near }

pub returns-in_ok-last_member-in-Both-clause-day : goal.returns-in_ok-last_member-in-Both-clause-day
returns-in_ok-last_member-in-Both-clause-day c =
    let f = found c in
    rw f.same f.last

pub returns-in_ok-last_member-in-Both-clause-near : goal.returns-in_ok-last_member-in-Both-clause-near
returns-in_ok-last_member-in-Both-clause-near c =
    let f = found c in
    rw f.same (omega (arith, ints, f.near))

pub returns-in_ok-last_member-in-Both-clause-refused : goal.returns-in_ok-last_member-in-Both-clause-refused
returns-in_ok-last_member-in-Both-clause-refused c =
    let b = c.in-Both in
    both_not_far c.args.rule.now c.args.kind b.kind c.args.start b.at b.count b.is

pub returns-in-Never-clause-counted : goal.returns-in-Never-clause-counted
returns-in-Never-clause-counted c = rw c.in-Never.is refl

pub returns-in-Until-clause-counted : goal.returns-in-Until-clause-counted
returns-in-Until-clause-counted c = rw c.in-Until.is refl

pub returns-in_ok-last_member-in-Both-clause-counted : goal.returns-in_ok-last_member-in-Both-clause-counted
returns-in_ok-last_member-in-Both-clause-counted c = rw c.in-Both.is refl
