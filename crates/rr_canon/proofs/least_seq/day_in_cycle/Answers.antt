use Rattle.std.proofs.Common.{◌≡◌, ℕ, ◌%◌, ◌<◌, ◌≤◌, ℤ, pos, negsuc, nat_abs, ◌-ℤ◌, ◌≤ℤ◌, refl, arith, w64, to_z, of_z, to_z-of_z}
use Rattle.std.proofs.lemmas.Int.{ints, to_z_pos}
use Rattle.rr_model.specs.Bounds.{latest_taken, longest_period}
use Rattle.rr_model.specs.Sets.Sketch.{IsNearDay}
use Rattle.rr_model.specs.Whole.{floor_mod}
use Rattle.rr_canon.proofs.least_seq.day_in_cycle.Goals as goal

-- the days from the settled day to a later one, and its place in a period, as they are computed
record IsLater (settled day : ℤ) (period : ℕ) : Type 0 where
  back : to_z w64 (of_z w64 (to_z w64 (of_z w64 day) -ℤ to_z w64 (of_z w64 settled))) ≡ day -ℤ settled
  after : pos 0 ≤ℤ (day -ℤ settled)
  below : nat_abs (day -ℤ settled) % period < 1_000_000_000
  place : to_z w64 (nat_abs (day -ℤ settled) % period) ≡ pos (nat_abs (day -ℤ settled) % period)

later : (settled day : ℤ) (period : ℕ) → to_z w64 (of_z w64 settled) ≡ settled → to_z w64 (of_z w64 day) ≡ day → IsNearDay settled → 1 ≤ period
    → period ≤ longest_period → settled ≤ℤ day → day ≤ℤ latest_taken → IsLater settled day period
later settled day period s d near some few from high =
    let below : nat_abs (day -ℤ settled) % period < 1_000_000_000 = omega (arith, some, few) in
    record {
      back = rw (d, s) (omega (arith, ints, near, from, high));
      after = omega (arith, ints, from);
      below = below;
      place = to_z_pos w64 (nat_abs (day -ℤ settled) % period) (omega (arith, below));
    }

floor_mod_after : (z : ℤ) (n : ℕ) → pos 0 ≤ℤ z → floor_mod z n ≡ nat_abs z % n
floor_mod_after (pos a) n h = refl
floor_mod_after (negsuc a) n h = absurd (omega (arith, ints, h))

later_in : (c : goal.Start) → IsLater c.args.settled c.args.day c.args.period
later_in c =
    later c.args.settled c.args.day c.args.period (to_z-of_z c.ranges.settled) (to_z-of_z c.ranges.day) c.requires.settled c.requires.some c.requires.few
    c.requires.from c.requires.high

pub overflow_sub-into_period : goal.overflow_sub-into_period
overflow_sub-into_period c =
    rw (to_z-of_z c.ranges.day, to_z-of_z c.ranges.settled) (omega (arith, ints, c.requires.settled, c.requires.from, c.requires.high))

pub overflow_cast-into_period : goal.overflow_cast-into_period
overflow_cast-into_period c =
    let l = later_in c in rw l.back (omega (arith, ints, l.after, c.requires.settled, c.requires.high))

pub nonzero_rem-into_period : goal.nonzero_rem-into_period
nonzero_rem-into_period c = omega (arith, c.requires.some)

pub overflow_cast-result : goal.overflow_cast-result
overflow_cast-result c =
    let l = later_in c in rw l.back (omega (arith, ints, l.below))

pub overflow_add-result : goal.overflow_add-result
overflow_add-result c =
    let l = later_in c in rw (l.back, to_z-of_z c.ranges.settled, l.place) (omega (arith, ints, l.below, c.requires.settled))

pub returns : goal.returns
returns c =
    let l = later_in c in
    let place = floor_mod_after (c.args.day -ℤ c.args.settled) c.args.period l.after in
    rw (l.back, to_z-of_z c.ranges.settled, l.place, place) (omega (arith, ints, l.below, c.requires.settled))
