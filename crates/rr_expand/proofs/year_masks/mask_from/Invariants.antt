use Rattle.std.proofs.Common.{◌≡◌, ℕ, ◌<◌, ◌≤◌, ◌-◌, ◌&&◌, pos, ◌+ℤ◌}
use Rattle.std.specs.Prelude.{nat_lt}
use Rattle.rr_expand.specs.Years.{is_bit_set, allows_day}
use Rattle.rr_expand.proofs.year_masks.mask_from.Given as goal

abbrev pub invariant-loop-bit : goal.invariant-loop-bit
invariant-loop-bit l = record {
  within : l.bit ≤ l.count;
  at : l.day.number ≡ l.fn.first.number +ℤ pos l.bit;
  marked : (k : ℕ) → k < 384
      → is_bit_set l.mask.bits k ≡ (nat_lt k l.bit && allows_day (record { rule = l.rule; start_day = l.start.number }) (l.fn.first.number +ℤ pos k));
}

abbrev pub decreases-loop-bit : goal.decreases-loop-bit
decreases-loop-bit l = l.count - l.bit
