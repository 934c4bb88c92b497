use Rattle.std.proofs.Common.{◌≡◌, ◌+ℤ◌, ◌-ℤ◌, ◌*ℤ◌, pos, Some, FitsSigned, w64, to_z, of_z, subst, sym, arith}
use Rattle.std.proofs.lemmas.Int.{ints, to_z-of_z}
use Rattle.rr_model.specs.Sets.Sketch.{StandsIn}
use Rattle.rr_true.specs.Changes.{offset_of}
use Rattle.rr_true.specs.Occurrences.{TrueOf}
use Rattle.rr_utc.specs.Between.{AgreeBetween, IsFirstBetween}
use Rattle.rr_utc.proofs.LastLemmas.{agree_on_free_days}
use Rattle.rr_utc.proofs.walk.look_from.Goals as goal

pub returns-then-free-gt2-clause-look : goal.returns-then-free-gt2-clause-look
returns-then-free-gt2-clause-look g c =
    let day = c.args.day in
    let next = c.day_later.result in
    let fits : FitsSigned w64 next = record { sfits = c.day_later.type_inv } in
    let n = to_z-of_z w64 next fits in
    let d = to_z-of_z w64 day c.ranges.day in
    let e = to_z-of_z w64 c.args.end c.ranges.end in
    let low = c.requires.low in
    let high = c.requires.high in
    let within = c.requires.before in
    let later = c.day_later.ensures.later in
    let end = c.day_later.ensures.end in
    let most = c.day_later.ensures.most in
    let some = c.if-free-gt2.true in
    let before : to_z w64 (of_z w64 (to_z w64 (of_z w64 day) -ℤ pos 1)) ≡ day -ℤ pos 1 = omega (arith, ints, d, low, high, within) in (
      omega (arith, ints, d, later, n),
      omega (arith, ints, e, end, n),
      agree_on_free_days (g.A.DaySeq.sketch c.args.a.now) (g.B.DaySeq.sketch c.args.b.now) (offset_of c.args.zone_a.now) (offset_of c.args.zone_b.now) day
          (to_z w64 (of_z w64 next)) (to_z w64 (of_z w64 (to_z w64 (of_z w64 day) -ℤ pos 1))) c.min-free.result c.free_days.result c.free_days-2.result
          c.is_offset.ensures c.is_offset-2.ensures before c.free_days.ensures c.free_days-2.ensures c.min-free.ensures (omega (arith, some))
          (omega (arith, ints, n, d, most)),
    )

pub returns-in-Some-clause-look : goal.returns-in-Some-clause-look
returns-in-Some-clause-look g c =
    let P = TrueOf (offset_of c.args.zone_a.now) (StandsIn (g.A.DaySeq.sketch c.args.a.now)) in
    let Q = TrueOf (offset_of c.args.zone_b.now) (StandsIn (g.B.DaySeq.sketch c.args.b.now)) in
    let day = to_z w64 (of_z w64 c.args.day) in
    subst (λ z. IsFirstBetween P Q (z *ℤ pos 86_400) ((z +ℤ pos 1) *ℤ pos 86_400) (Some c.in-Some.only)) (to_z-of_z w64 c.args.day c.ranges.day)
    (subst (IsFirstBetween P Q (day *ℤ pos 86_400) ((day +ℤ pos 1) *ℤ pos 86_400)) c.in-Some.is c.in_ok-only.ensures.first)

pub returns-in-None-clause-look : goal.returns-in-None-clause-look
returns-in-None-clause-look g c =
    let P = TrueOf (offset_of c.args.zone_a.now) (StandsIn (g.A.DaySeq.sketch c.args.a.now)) in
    let Q = TrueOf (offset_of c.args.zone_b.now) (StandsIn (g.B.DaySeq.sketch c.args.b.now)) in
    let day = to_z w64 (of_z w64 c.args.day) in
    let d = to_z-of_z w64 c.args.day c.ranges.day in
    let low = c.requires.low in
    let high = c.requires.high in
    let within = c.requires.before in
    let next : to_z w64 (of_z w64 (day +ℤ pos 1)) ≡ c.args.day +ℤ pos 1 = omega (arith, ints, d, low, high, within) in (
      omega (arith, ints, next),
      omega (arith, ints, next, within),
      subst (λ z. AgreeBetween P Q (c.args.day *ℤ pos 86_400) (z *ℤ pos 86_400)) (sym next)
          (subst (λ z. AgreeBetween P Q (z *ℤ pos 86_400) ((z +ℤ pos 1) *ℤ pos 86_400)) d
          (subst (IsFirstBetween P Q (day *ℤ pos 86_400) ((day +ℤ pos 1) *ℤ pos 86_400)) c.in-None.is c.in_ok-only.ensures.first)),
    )
