use Rattle.std.proofs.Common.{◌≡◌, FitsSigned, w64, rules, to_z, of_z, to_z-of_z, arith, ℤ, pos, ◌+ℤ◌, ◌≤ℤ◌}
use Rattle.std.specs.Int.{int_max}
use Rattle.std.proofs.lemmas.Int.{clamps, ints}
use Rattle.rr_true.specs.Changes.{IsSettledNear, offset_of}
use Rattle.rr_true.proofs.ApartLemmas.{apart_for_ever, never_apart, whole_cycle}
use Rattle.rr_true.proofs.NearLemmas.{back}
use Rattle.rr_true.proofs.parting.apart.Goals.{After-max-settled}
use Rattle.rr_true.proofs.parting.apart.Goals as goal

-- the later settled moment
record Settled (c : After-max-settled) : Type 0 where
  near : IsSettledNear c.max-settled.result
  first : c.cycle.result.settled ≤ℤ c.max-settled.result
  second : c.cycle-2.result.settled ≤ℤ c.max-settled.result
  end : to_z w64 (of_z w64 (to_z w64 (of_z w64 c.max-settled.result) +ℤ pos 12_622_780_800)) ≡ c.max-settled.result +ℤ pos 12_622_780_800

settled : (c : After-max-settled) → Settled c
settled c =
    let a : FitsSigned w64 c.cycle.result.settled = search rules in
    let b : FitsSigned w64 c.cycle-2.result.settled = search rules in
    let fits : FitsSigned w64 c.max-settled.result = search rules in
    let is = rw (to_z-of_z a, to_z-of_z b) at c.max-settled.ensures.value in
    let near = near_of c.cycle.result.settled c.cycle-2.result.settled c.max-settled.result is c.cycle.ensures.near c.cycle-2.ensures.near in
    record {
      near = near;
      first = omega (arith, ints, clamps, is);
      second = omega (arith, ints, clamps, is);
      end = rw (to_z-of_z fits) (end_of c.max-settled.result near);
    }
  where
    near_of : (x y z : ℤ) → z ≡ int_max x y → IsSettledNear x → IsSettledNear y → IsSettledNear z
    near_of x y z e l m = (omega (arith, ints, clamps, e, l.0, m.0), omega (arith, ints, clamps, e, l.1, m.1))

    end_of : (z : ℤ) → IsSettledNear z → to_z w64 (of_z w64 (z +ℤ pos 12_622_780_800)) ≡ z +ℤ pos 12_622_780_800
    end_of z l = back (z +ℤ pos 12_622_780_800) (omega (arith, ints, l.0)) (omega (arith, ints, l.1))

pub parted_to-found-requires-clause-low : goal.parted_to-found-requires-clause-low
parted_to-found-requires-clause-low c =
    let s = settled (goal.at.parted_to-found-requires-clause-low c).After-max-settled in
    let near = s.near in
    rw s.end (omega (arith, ints, near.0))

pub parted_to-found-requires-clause-high : goal.parted_to-found-requires-clause-high
parted_to-found-requires-clause-high c =
    let s = settled (goal.at.parted_to-found-requires-clause-high c).After-max-settled in
    let near = s.near in
    rw s.end (omega (arith, ints, near.1))

pub returns-then-settled-found-clause-never : goal.returns-then-settled-found-clause-never
returns-then-settled-found-clause-never c =
    let s = settled (goal.at.returns-then-settled-found-clause-never c).After-max-settled in
    let near = s.near in
    let f = offset_of c.args.a.now in
    let g = offset_of c.args.b.now in
    let rf = whole_cycle f c.cycle.result.settled c.max-settled.result c.cycle.result.days c.cycle.ensures.divides c.cycle.ensures.repeats s.first in
    let rg = whole_cycle g c.cycle-2.result.settled c.max-settled.result c.cycle-2.result.days c.cycle-2.ensures.divides c.cycle-2.ensures.repeats s.second in
    let to = rw s.end at c.parted_to-found.ensures in
    let fits : FitsSigned w64 c.max-settled.result = search rules in
    let from : FitsSigned w64 c.parted_to-found.result.from = search rules in
    let test = rw (to_z-of_z fits, to_z-of_z from) at c.if-settled-found.true in
    never_apart f g c.max-settled.result rf rg c.parted_to-found.result to (omega (arith, ints, test)) (omega (arith, ints, near.0))

pub returns-clause-apart : goal.returns-clause-apart
returns-clause-apart c =
    let s = settled (goal.at.returns-clause-apart c).After-max-settled in
    let f = offset_of c.args.a.now in
    let g = offset_of c.args.b.now in
    let rf = whole_cycle f c.cycle.result.settled c.max-settled.result c.cycle.result.days c.cycle.ensures.divides c.cycle.ensures.repeats s.first in
    let rg = whole_cycle g c.cycle-2.result.settled c.max-settled.result c.cycle-2.result.days c.cycle-2.ensures.divides c.cycle-2.ensures.repeats s.second in
    let to = rw s.end at c.parted_to-found.ensures in
    let fits : FitsSigned w64 c.max-settled.result = search rules in
    let from : FitsSigned w64 c.parted_to-found.result.from = search rules in
    let test = rw (to_z-of_z fits, to_z-of_z from) at c.if-settled-found.false in
    apart_for_ever f g c.max-settled.result rf rg c.parted_to-found.result to (omega (arith, ints, test))
