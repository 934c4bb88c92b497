-- Weekdays and weeks, shifted by whole weeks.
use Rattle.std.proofs.Common.{◌≡◌, ℕ, ℤ, pos, ◌+ℤ◌, ◌-ℤ◌, ◌*ℤ◌, ap, ◌∙◌, arith}
use Rattle.std.proofs.lemmas.Int.{ints}
use Rattle.rr_model.specs.Whole.{floor_div, floor_mod}
use Rattle.rr_model.specs.Calendar.{weekday_of}
use Rattle.rr_model.specs.Calendar.Week.{week_index, fourth_day}
use Rattle.rr_model.proofs.FloorLemmas.{floor_div-add, floor_mod-add}

pub weekday_of-weeks : (d k : ℤ) → weekday_of (d +ℤ (k *ℤ pos 7)) ≡ weekday_of d
unfolding weekday_of
weekday_of-weeks d k =
    let e : (d +ℤ (k *ℤ pos 7)) +ℤ pos 3 ≡ (d +ℤ pos 3) +ℤ (k *ℤ pos 7) = omega (arith, ints) in
    ap (λ z. floor_mod z 7) e ∙ floor_mod-add (d +ℤ pos 3) k 7 (omega arith)

pub week_index-weeks : (d : ℤ) (w : ℕ) (k : ℤ) → week_index (d +ℤ (k *ℤ pos 7)) w ≡ week_index d w +ℤ k
unfolding week_index
week_index-weeks d w k =
    let e : ((d +ℤ (k *ℤ pos 7)) +ℤ pos 3) -ℤ pos w ≡ ((d +ℤ pos 3) -ℤ pos w) +ℤ (k *ℤ pos 7) = omega (arith, ints) in
    ap (λ z. floor_div z 7) e ∙ floor_div-add ((d +ℤ pos 3) -ℤ pos w) k 7 (omega arith)

pub fourth_day-weeks : (i : ℤ) (w : ℕ) (k : ℤ) → fourth_day (i +ℤ k) w ≡ fourth_day i w +ℤ (k *ℤ pos 7)
unfolding fourth_day
fourth_day-weeks i w k = omega (arith, ints)
