use Rattle.std.proofs.Common.{◌≡◌, ◌≤ℤ◌, ◌-ℤ◌, pos, FitsSigned, w64, to_z, of_z, arith}
use Rattle.std.proofs.lemmas.Int.{clamps, ints, to_z-of_z}
use Rattle.rr_model.specs.Bounds.{earliest_near}
use Rattle.rr_true.specs.Changes.{offset_of}
use Rattle.rr_utc.proofs.LastLemmas.{agree_before_days}
use Rattle.rr_utc.proofs.begin.first_of_both.Goals as goal
use Rattle.rr_utc.proofs.begin.first_of_both.Goals.{After-min}
use Rattle.rr_utc.proofs.begin.first_of_both.Given.{Over}

record Found (g : Over) (c : After-min g) : Type 0 where
  first : c.min.result ≤ℤ c.first_day.result
  second : c.min.result ≤ℤ c.first_day-2.result
  low : earliest_near ≤ℤ c.min.result
  day : to_z w64 (of_z w64 (to_z w64 (of_z w64 c.min.result) -ℤ pos 1)) ≡ c.min.result -ℤ pos 1

found : (g : Over) (c : After-min g) → Found g c
found g c =
    let fits : FitsSigned w64 c.first_day.result = record { sfits = c.first_day.type_inv } in
    let fits-2 : FitsSigned w64 c.first_day-2.result = record { sfits = c.first_day-2.type_inv } in
    let fits-m : FitsSigned w64 c.min.result = record { sfits = c.min.type_inv } in
    let x = to_z-of_z w64 c.first_day.result fits in
    let y = to_z-of_z w64 c.first_day-2.result fits-2 in
    let m = to_z-of_z w64 c.min.result fits-m in
    let is = c.min.ensures.value in
    let near_x = c.first_day.ensures.near in
    let near_y = c.first_day-2.ensures.near in
    let low : earliest_near ≤ℤ c.min.result = omega (arith, ints, clamps, x, y, is, near_x, near_y) in
    let first : c.min.result ≤ℤ c.first_day.result = omega (arith, ints, clamps, x, y, is) in
    record {
      first = first;
      second = omega (arith, ints, clamps, x, y, is);
      low = low;
      day = omega (arith, ints, m, low, first, near_x);
    }

pub returns-clause-before : goal.returns-clause-before
returns-clause-before g c =
    let f = found g c in
    let day = f.day in
    let first = f.first in
    let second = f.second in
    agree_before_days (g.A.DaySeq.sketch c.args.a.now) (g.B.DaySeq.sketch c.args.b.now) (offset_of c.args.zone_a.now) (offset_of c.args.zone_b.now)
    (to_z w64 (of_z w64 (to_z w64 (of_z w64 c.min.result) -ℤ pos 1))) c.is_offset.ensures c.is_offset-2.ensures
    (λ d l. c.first_day.ensures.none d (omega (arith, ints, l, day, first))) (λ d l. c.first_day-2.ensures.none d (omega (arith, ints, l, day, second)))

pub returns-clause-low : goal.returns-clause-low
returns-clause-low g c =
    let f = found g c in
    let day = f.day in
    let low = f.low in
    omega (arith, ints, day, low)
