use Rattle.std.proofs.Common.{FitsSigned, w64, to_z, of_z, subst, refl, ◌∙◌, arith}
use Rattle.std.specs.Int.{◌∣◌}
use Rattle.std.proofs.lemmas.Int.{ints, to_z-of_z}
use Rattle.std.proofs.lemmas.Nat.Gcd.{dvd_trans}
use Rattle.rr_true.specs.Changes.{offset_of}
use Rattle.rr_utc.specs.Walks.{IsLong}
use Rattle.rr_utc.proofs.LastLemmas.{RepeatTogether, ends_by_cycle, ends_finite, zone_repeats}
use Rattle.rr_utc.proofs.end.end_of_walk.Goals as goal

pub returns-then-is_finite-2-clause-end : goal.returns-then-is_finite-2-clause-end
returns-then-is_finite-2-clause-end g c =
    let settled = c.settled_of_both-settled in
    let fits : FitsSigned w64 settled.result = record { sfits = settled.type_inv } in
    let end : FitsSigned w64 c.days_past.result = record { sfits = c.days_past.type_inv } in
    ends_finite (g.A.DaySeq.sketch c.args.a.now) (g.B.DaySeq.sketch c.args.b.now) (offset_of c.args.zone_a.now) (offset_of c.args.zone_b.now)
    (to_z w64 (of_z w64 settled.result)) settled.result (to_z w64 (of_z w64 c.days_past.result)) c.is_offset.ensures c.is_offset-then-is_finite-2.ensures
    (c.if-is_finite.ensures refl) (c.if-is_finite-2.ensures refl) settled.ensures.first settled.ensures.second (to_z-of_z w64 settled.result fits)
    (to_z-of_z w64 c.days_past.result end ∙ c.days_past.ensures.value)

pub returns-clause-end : goal.returns-clause-end
returns-clause-end g c =
    let s = g.A.DaySeq.sketch c.args.a.now in
    let u = g.B.DaySeq.sketch c.args.b.now in
    let f = offset_of c.args.zone_a.now in
    let h = offset_of c.args.zone_b.now in
    let n = c.in_ok-days.days in
    let cycle = c.in_ok-days.ensures in
    let past = c.settled_of_all.result in
    let of_all = c.settled_of_all.ensures in
    let settled = c.settled_of_both-settled in
    let fits : FitsSigned w64 settled.result = record { sfits = settled.type_inv } in
    let fits_past : FitsSigned w64 past = record { sfits = c.settled_of_all.type_inv } in
    let fits_end : FitsSigned w64 c.days_past-2.result = record { sfits = c.days_past-2.type_inv } in
    let same = to_z-of_z w64 settled.result fits in
    let same_past = to_z-of_z w64 past fits_past in
    let same_end = to_z-of_z w64 c.days_past-2.result fits_end in
    let first = settled.ensures.first in
    let second = settled.ensures.second in
    let later = of_all.days in
    let value = c.days_past-2.ensures.value in
    let together : RepeatTogether s u f h past n = record {
      some = cycle.some;
      of_first = subst (λ z. z ∣ n) c.period.ensures.value cycle.of_first;
      of_second = subst (λ z. z ∣ n) c.period-2.ensures.value cycle.of_second;
      settled_first = omega (arith, ints, first, later, same);
      settled_second = omega (arith, ints, second, later, same);
      offset_first = c.cycle-of_a.ensures.offset;
      offset_second = c.cycle-of_b.ensures.offset;
      zone_first = zone_repeats f c.cycle-of_a.result.settled past c.cycle-of_a.result.days n of_all.first
          (dvd_trans c.cycle-of_a.result.days c.days_of_zones.ensures.first cycle.of_zones) c.cycle-of_a.ensures.repeats;
      zone_second = zone_repeats h c.cycle-of_b.result.settled past c.cycle-of_b.result.days n of_all.second
          (dvd_trans c.cycle-of_b.result.days c.days_of_zones.ensures.second cycle.of_zones) c.cycle-of_b.ensures.repeats;
    } in
    ends_by_cycle s u (g.met.A.DaySeq.bounded c.args.a.now).valid (g.met.B.DaySeq.bounded c.args.b.now).valid f h past (to_z w64 (of_z w64 c.days_past-2.result)) n together
    (omega (arith, ints, same_past, same_end, value))

pub returns-in_err-days-clause-end : goal.returns-in_err-days-clause-end
returns-in_err-days-clause-end g c =
    let long = subst (λ z. IsLong z (g.B.DaySeq.sketch c.args.b.now).period) c.period.ensures.value (subst (IsLong c.period.result) c.period-2.ensures.value c.in_err-days.ensures) in
    rw c.from_residual.ensures long
