-- Occurrences by their numbers, day by day.
use Rattle.std.proofs.Common.{◌≡◌, ℕ, ◌+◌, ◌-◌, ◌<◌, ◌≤◌, List, [], get_or, length, length-take-le, ℤ, pos, ◌+ℤ◌, ◌≤ℤ◌, ap, inl, inr, arith}
use Rattle.std.specs.Prelude.{Ok, Some, None}
use Rattle.std.proofs.lemmas.Int.{ints}
use Rattle.rr_model.specs.Moment.Years.{IsFromYearOne}
use Rattle.rr_model.specs.Sets.Tree.{Tree, stands_at}
use Rattle.rr_lazy.specs.Next.{IsFirstOccupied, IsNext, IsUnasked, IsInTable, with_set}
use Rattle.rr_lazy.specs.declared.occupied_day.OccupiedDay.{OccupiedDay}
use Rattle.rr_lazy.specs.DayTimes.{DayTimes}
use Rattle.rr_lazy.proofs.TreeLemmas.{seconds_of_occupied}
use Rattle.rr_lazy.proofs.CountingLemmas.{before_skip, before_next, before_none, seconds_whole}
use Rattle.rr_iter.specs.Ends.{before_day, HasNumberOn}

-- a day of which n seconds are given has n
pub counted_seconds : (sets : List (List ℕ)) (found : OccupiedDay) → IsInTable sets found → length ((with_set sets found).times) ≡ found.count
counted_seconds sets found within = length-take-le found.count (get_or sets found.number.index []) within.1

-- nothing is counted at first
pub unasked_counted : (tree : Tree) (position to : ℤ) (number : ℕ) → IsUnasked position → IsFromYearOne to → 1 ≤ number
    → (tree ≡ tree) × (position ≤ℤ (to +ℤ pos 1)) × (1 ≤ number) × (before_day tree position + number ≡ number)
unasked_counted tree position to number u low some =
    let none = before_none (λ d s. stands_at tree d s) in
    ((λ i. tree), omega (arith, ints, u, low), some, rw u (omega (arith, none)))

module _ (tree : Tree) (from : ℤ) (begun : IsFromYearOne from) where
  -- up to an occupied day, and with it
  day_counted : (day : ℤ) (times : List ℕ) → IsFirstOccupied tree from day times
      → (before_day tree day ≡ before_day tree from) × (before_day tree (day +ℤ pos 1) ≡ before_day tree from + length times)
  day_counted day times f =
      let skipped = before_skip (λ d s. stands_at tree d s) from day begun f.late f.before in
      let seconds = seconds_of_occupied tree from day times f in
      let whole = seconds_whole (stands_at tree day) times f.all 86_400 seconds.below_a_day in
      (skipped, omega (arith, before_next (λ d s. stands_at tree d s) day (omega (arith, ints, begun, f.late)), skipped, whole))

-- no day up to `to` is occupied
pub place_none : (tree : Tree) (from new to : ℤ) (number left : ℕ) → IsFromYearOne from → from ≤ℤ (to +ℤ pos 1) → before_day tree from + left ≡ number
    → IsNext tree from to (Ok None) new → before_day tree (to +ℤ pos 1) + left ≡ number
place_none tree from new to number left begun within counted n =
    let same : new ≡ to +ℤ pos 1 = elim n.3 [ inl e ↦ e | inr e ↦ omega (arith, ints, e, within, n.2) ] in
    let skipped = before_skip (λ d s. stands_at tree d s) from new begun n.1 n.0 in
    omega (arith, ap (before_day tree) same, skipped, counted)

-- the day found has the occurrence of the number
pub place_some : (tree : Tree) (from day : ℤ) (times : List ℕ) (number left : ℕ) → IsFromYearOne from → before_day tree from + left ≡ number
    → IsFirstOccupied tree from day times → 1 ≤ left → left ≤ length times → HasNumberOn tree number day
place_some tree from day times number left begun counted f some within =
    let c = day_counted tree from begun day times f in
    record { begun = omega (arith, ints, begun, f.late); above = omega (arith, c.0, counted, some); within = omega (arith, c.1, counted, within) }

-- it lies after the day found
pub place_next : (tree : Tree) (from new to : ℤ) (found : DayTimes) (times : List ℕ) (number left : ℕ)
    → IsFromYearOne from → before_day tree from + left ≡ number → IsNext tree from to (Ok (Some found)) new → times ≡ found.times → length times < left
    → (new ≡ new) × (new ≤ℤ (to +ℤ pos 1)) × (1 ≤ left - length times) × (before_day tree new + (left - length times) ≡ number)
place_next tree from new to found times number left begun counted n same above =
    let c = day_counted tree from begun found.day found.times n.0 in
    let many = ap length same in
    ((λ i. new), omega (arith, ints, n.1, n.2), omega (arith, above), omega (arith, ap (before_day tree) n.2, c.1, counted, above, many))
