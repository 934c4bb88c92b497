use Rattle.std.proofs.Common.{◌≡◌, ◌+ℤ◌, ◌*ℤ◌, pos, w64, to_z, of_z, subst, sym, arith}
use Rattle.std.proofs.lemmas.Int.{ints, to_z-of_z}
use Rattle.rr_model.specs.Sets.Sketch.{StandsIn}
use Rattle.rr_true.specs.Changes.{offset_of}
use Rattle.rr_true.specs.Occurrences.{TrueOf}
use Rattle.rr_utc.specs.Between.{AgreeBetween}
use Rattle.rr_utc.specs.Walks.{IsLook}
use Rattle.rr_utc.specs.declared.walk.Look.TheVariants.{Same}
use Rattle.rr_utc.proofs.WalkLemmas.{agree_sooner, found_later, joined}
use Rattle.rr_utc.proofs.walk.first_difference.Goals as goal
use Rattle.rr_utc.proofs.walk.first_difference.Goals.{In-Same}
use Rattle.rr_utc.proofs.walk.first_difference.Given.{Over}

pub loop-day-init : goal.loop-day-init
loop-day-init g c = (
  omega (arith, ints),
  λ t low high. absurd (omega (arith, ints, low, high)),
  c.none-calm.ensures (offset_of c.args.zone_a.now) (offset_of c.args.zone_b.now),
  λ about day seen. absurd (c.new-seen.ensures about seen),
)

pub calm_about-calm-requires-clause-calm : goal.calm_about-calm-requires-clause-calm
calm_about-calm-requires-clause-calm g c = c.loop-day.invariant.2

pub look_from-requires-clause-seen : goal.look_from-requires-clause-seen
look_from-requires-clause-seen g c = c.loop-day.invariant.3

pub look_from-requires-clause-low : goal.look_from-requires-clause-low
look_from-requires-clause-low g c =
    let from = to_z-of_z w64 c.args.from c.ranges.from in
    let low = c.requires.low in
    let later = c.loop-day.invariant.0 in
    omega (arith, ints, from, low, later)

pub look_from-requires-clause-high : goal.look_from-requires-clause-high
look_from-requires-clause-high g c =
    let end = to_z-of_z w64 c.args.end c.ranges.end in
    let high = c.requires.high in
    omega (arith, ints, end, high)

pub look_from-requires-clause-before : goal.look_from-requires-clause-before
look_from-requires-clause-before g c = let test = c.loop-day-test.true in omega (arith, ints, test)

pub returns-in-Found : goal.returns-in-Found
returns-in-Found g c =
    let P = TrueOf (offset_of c.args.zone_a.now) (StandsIn (g.A.DaySeq.sketch c.args.a.now)) in
    let Q = TrueOf (offset_of c.args.zone_b.now) (StandsIn (g.B.DaySeq.sketch c.args.b.now)) in
    let day = to_z w64 c.loop-day.day-bits in
    let from = to_z-of_z w64 c.args.from c.ranges.from in
    let end = to_z-of_z w64 c.args.end c.ranges.end in
    let later = c.loop-day.invariant.0 in
    let test = c.loop-day-test.true in
    found_later P Q (c.args.from *ℤ pos 86_400) (day *ℤ pos 86_400) ((day +ℤ pos 1) *ℤ pos 86_400) (c.args.end *ℤ pos 86_400) c.in-Found.only
    (omega (arith, ints, from, later)) (omega (arith, ints, end, test))
    (agree_sooner P Q (c.args.from *ℤ pos 86_400) (to_z w64 (of_z w64 c.args.from) *ℤ pos 86_400) (day *ℤ pos 86_400) (day *ℤ pos 86_400) (omega (arith, ints, from))
    (omega (arith, ints)) c.loop-day.invariant.1)
    (subst (IsLook P Q day (to_z w64 (of_z w64 c.args.end))) c.in-Found.is c.in_ok-only.ensures.look)

-- the later day, as it is stored
record Later (g : Over) (c : In-Same g) : Type 0 where
  next : to_z w64 (of_z w64 c.in-Same.next) ≡ c.in-Same.next
  look : IsLook (TrueOf (offset_of c.args.zone_a.now) (StandsIn (g.A.DaySeq.sketch c.args.a.now)))
      (TrueOf (offset_of c.args.zone_b.now) (StandsIn (g.B.DaySeq.sketch c.args.b.now))) (to_z w64 c.loop-day.day-bits) (to_z w64 (of_z w64 c.args.end)) (Same c.in-Same.next)

later_of : (g : Over) (c : In-Same g) → Later g c
later_of g c =
    let P = TrueOf (offset_of c.args.zone_a.now) (StandsIn (g.A.DaySeq.sketch c.args.a.now)) in
    let Q = TrueOf (offset_of c.args.zone_b.now) (StandsIn (g.B.DaySeq.sketch c.args.b.now)) in
    let look = subst (IsLook P Q (to_z w64 c.loop-day.day-bits) (to_z w64 (of_z w64 c.args.end))) c.in-Same.is c.in_ok-only.ensures.look in
    let from = to_z-of_z w64 c.args.from c.ranges.from in
    let end = to_z-of_z w64 c.args.end c.ranges.end in
    let low = c.requires.low in
    let high = c.requires.high in
    let later = c.loop-day.invariant.0 in
    let after = look.0 in
    let before = look.1 in
    record { next = omega (arith, ints, from, end, low, high, later, after, before); look = look }

pub loop-day-preserved : goal.loop-day-preserved
loop-day-preserved g c =
    let P = TrueOf (offset_of c.args.zone_a.now) (StandsIn (g.A.DaySeq.sketch c.args.a.now)) in
    let Q = TrueOf (offset_of c.args.zone_b.now) (StandsIn (g.B.DaySeq.sketch c.args.b.now)) in
    let from = to_z w64 (of_z w64 c.args.from) in
    let l = later_of g c in
    let next = l.next in
    let after = l.look.0 in
    let later = c.loop-day.invariant.0 in (
      omega (arith, ints, next, after, later),
      subst (λ z. AgreeBetween P Q (from *ℤ pos 86_400) (z *ℤ pos 86_400)) (sym next)
          (joined P Q (from *ℤ pos 86_400) (to_z w64 c.loop-day.day-bits *ℤ pos 86_400) (c.in-Same.next *ℤ pos 86_400) c.loop-day.invariant.1 l.look.2),
      c.calm_about-calm.ensures,
      c.in_ok-only.ensures.seen,
    )

pub loop-day-smaller : goal.loop-day-smaller
loop-day-smaller g c =
    let l = later_of g c in
    let next = l.next in
    let after = l.look.0 in
    let before = l.look.1 in
    omega (arith, ints, next, after, before)

pub returns : goal.returns
returns g c =
    let P = TrueOf (offset_of c.args.zone_a.now) (StandsIn (g.A.DaySeq.sketch c.args.a.now)) in
    let Q = TrueOf (offset_of c.args.zone_b.now) (StandsIn (g.B.DaySeq.sketch c.args.b.now)) in
    let day = to_z w64 c.loop-day.day-bits in
    let from = to_z-of_z w64 c.args.from c.ranges.from in
    let end = to_z-of_z w64 c.args.end c.ranges.end in
    let test = c.loop-day-test.false in
    agree_sooner P Q (c.args.from *ℤ pos 86_400) (to_z w64 (of_z w64 c.args.from) *ℤ pos 86_400) (day *ℤ pos 86_400) (c.args.end *ℤ pos 86_400)
    (omega (arith, ints, from)) (omega (arith, ints, end, test)) c.loop-day.invariant.1
