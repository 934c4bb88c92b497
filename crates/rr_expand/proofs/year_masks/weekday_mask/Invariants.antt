use Rattle.std.proofs.Common.{◌≡◌, ℕ, ◌<◌, ◌≤◌, ◌-◌, ◌+◌, ◌%◌, ◌&&◌}
use Rattle.std.specs.Prelude.{nat_lt}
use Rattle.std.specs.List.{list_any}
use Rattle.rr_expand.specs.LeftOut.{has_weekday}
use Rattle.rr_expand.specs.Years.{is_bit_set}
use Rattle.rr_expand.proofs.year_masks.weekday_mask.Given as goal

abbrev pub invariant-loop-bit : goal.invariant-loop-bit
invariant-loop-bit l = record {
  within : l.bit ≤ l.count;
  at : l.day ≡ (l.fn.weekday + l.bit) % 7;
  marked : (k : ℕ) → k < 384 → is_bit_set l.mask.bits k ≡ (nat_lt k l.bit && list_any (has_weekday ((l.fn.weekday + k) % 7)) l.rule.by_day);
}

abbrev pub decreases-loop-bit : goal.decreases-loop-bit
decreases-loop-bit l = l.count - l.bit
