-- A unit of days and its number.
use Rattle.std.proofs.Common.{◌≡◌, ℕ, ◌≤◌, true, ℤ, pos, negsuc, nat_abs, ◌+ℤ◌, ◌-ℤ◌, ◌≤ℤ◌, ◌<ℤ◌, refl, arith, w64, to_z, of_z}
use Rattle.std.specs.Prelude.{◌↔◌, IsTrue, int_le}
use Rattle.std.proofs.lemmas.Int.{by_lt_z, ints}
use Rattle.rr_model.specs.Calendar.{IsDayWithin}
use Rattle.rr_model.specs.Moment.{day_part}
use Rattle.rr_model.specs.Moment.Units.{is_whole_days, unit_number, unit_start}
use Rattle.rr_model.specs.Moment.Years.{IsInYears}
use Rattle.rr_model.specs.declared.kind.Kind.{Kind}
use Rattle.rr_model.specs.declared.kind.Kind.TheVariants.{Days}
use Rattle.rr_model.specs.declared.rule.Freq.{Freq}
use Rattle.rr_cal.proofs.DayUnitLemmas.{unit_length}
use Rattle.rr_cal.proofs.StretchLemmas.{units_are_stretches}
use Rattle.rr_expand.specs.Expansion.{IsUnitNear}
use Rattle.rr_walk.specs.Ruling.{IsWholeUnit}
use Rattle.rr_walk.specs.declared.day_rule.WholeUnit.{WholeUnit}
use Rattle.rr_walk.proofs.WalkLemmas.{begun, later, start_near, unit_bounds, unit_near_is, unit_some}

module _ (freq : Freq) (w : ℕ) (unit : WholeUnit) (coarse : is_whole_days freq ≡ true) (u : IsWholeUnit freq w unit) where
  -- it has a day, and at most 366
  pub some_days : unit.first <ℤ unit.next
  some_days = omega (arith, ints, unit_some freq w unit.number coarse, u.of_first, u.of_next)

  pub few_days : unit.next ≤ℤ (unit.first +ℤ pos 366)
  few_days = let n = unit_length freq w unit.number coarse in omega (arith, ints, n.1, n.2, u.of_first, u.of_next)

  -- its days are written as they are
  pub first_is : to_z w64 (of_z w64 unit.first) ≡ unit.first
  first_is = omega (arith, ints, u.near.0, u.near.1)

  pub next_is : to_z w64 (of_z w64 unit.next) ≡ unit.next
  next_is = omega (arith, ints, u.near.0, u.near.1, some_days, few_days)

  -- how many they are
  pub count_is : unit.first +ℤ pos (nat_abs (to_z w64 (of_z w64 (to_z w64 (of_z w64 unit.next) -ℤ to_z w64 (of_z w64 unit.first))))) ≡ unit.next
  count_is = omega (arith, ints, first_is, next_is, some_days, few_days)

  -- the unit of one of its days
  pub unit_within : (d : ℤ) → unit.first ≤ℤ d → d <ℤ unit.next → unit_number freq w Days d ≡ unit.number
  unit_within d l h = (units_are_stretches freq w Days d unit.number).1 (omega (arith, ints, l, u.of_first), omega (arith, ints, h, u.of_next))

  -- the unit of the day after its last one
  pub unit_after : (d : ℤ) → d ≡ unit.next → unit_number freq w Days d ≡ unit.number +ℤ pos 1
  unit_after d e =
      (units_are_stretches freq w Days d (unit.number +ℤ pos 1)).1
      (omega (arith, ints, e, u.of_next), omega (arith, ints, e, u.of_next, unit_some freq w (unit.number +ℤ pos 1) coarse))

  -- its number is small
  pub number_bounds : w ≤ 255 → (negsuc 7_000_000_000_000 ≤ℤ unit.number) × (unit.number ≤ℤ pos 7_000_000_000_000)
  number_bounds low =
      let b = unit_bounds freq w coarse unit.first low u.near in
      let e = unit_within unit.first (omega (arith, ints)) some_days in
      (omega (arith, ints, b.0, e), omega (arith, ints, b.1, e))

  pub number_is : w ≤ 255 → to_z w64 (of_z w64 unit.number) ≡ unit.number
  number_is low = let b = number_bounds low in omega (arith, ints, b.0, b.1)

-- a test of two numbers tells what their order does
pub by_test : (a b : ℤ) (P : Type 0) → (a ≤ℤ b) ↔ P → IsTrue (int_le a b) ↔ P
by_test a b P h = (λ t. h.0 (omega (arith, ints, t)), λ p. (let l = h.1 p in grind (arith, ints)))

-- a unit begins on a day or before if it is not after the day's
pub begins_by : (freq : Freq) (w : ℕ) (u d first : ℤ) → is_whole_days freq ≡ true → first ≡ unit_start freq w Days u
    → IsTrue (int_le first d) ↔ (u ≤ℤ unit_number freq w Days d)
begins_by freq w u d first coarse e =
    let P : Type 0 = u ≤ℤ unit_number freq w Days d in
    by_test first d P (
      (λ l. by_lt_z {P = P} (unit_number freq w Days d) u (λ m. absurd (omega (arith, ints, later freq w coarse u d m, e, l))) (λ g. g)),
      (λ l. omega (arith, ints, begun freq w coarse u d l, e)),
    )

-- the unit of a day, and that of a start, are near
pub day_near : (freq : Freq) (w : ℕ) (d u : ℤ) → is_whole_days freq ≡ true → w ≤ 255 → IsDayWithin 0 d → u ≡ unit_number freq w Days d → IsUnitNear u
day_near freq w d u coarse low near e = unit_near_is freq w d u d coarse low (omega (arith, ints, near.0), omega (arith, ints, near.1)) refl e

pub own_near : (freq : Freq) (w : ℕ) (kind : Kind) (start u : ℤ) → is_whole_days freq ≡ true → w ≤ 255 → IsInYears kind start
    → u ≡ unit_number freq w Days (day_part kind start) → IsUnitNear u
own_near freq w kind start u coarse low years e =
    let n = start_near kind start (day_part kind start) refl years in
    day_near freq w (day_part kind start) u coarse low (omega (arith, ints, n.0), omega (arith, ints, n.1)) e
