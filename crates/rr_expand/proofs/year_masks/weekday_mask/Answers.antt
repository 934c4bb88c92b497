use Rattle.std.proofs.Common.{◌≡◌, ◌∙◌, sym, ap, ℕ, ◌+◌, ◌-◌, ◌%◌, ◌<◌, ◌≤◌, Bool, false, ◌&&◌, get_or, arith}
use Rattle.std.specs.Prelude.{nat_lt}
use Rattle.std.specs.List.{list_any}
use Rattle.std.proofs.Math.Nat.{le-min, min-le_left, min-le_right}
use Rattle.rr_expand.specs.LeftOut.{IsGap, has_weekday}
use Rattle.rr_expand.specs.Years.{is_bit_set}
use Rattle.rr_expand.proofs.MaskLemmas.{bits_none, bits_more, bits_on, bits_same}
use Rattle.rr_expand.proofs.year_masks.weekday_mask.Goals as goal
use Rattle.rr_expand.proofs.year_masks.weekday_mask.Goals.{then-lists_weekday, else-lists_weekday}

pub loop-bit-init : goal.loop-bit-init
loop-bit-init c = record {
  within = omega arith;
  at = omega (arith, c.requires.weekday);
  marked = bits_none (λ k. list_any (has_weekday ((c.args.weekday + k) % 7)) c.args.rule.now.by_day);
}

pub loop-bit-smaller : goal.loop-bit-smaller
loop-bit-smaller c =
    let left = c.args.count - c.loop-bit.bit in
    let gap = c.gaps-gaps.ensures c.loop-bit.day (omega (arith, c.loop-bit.invariant.at)) in
    let is : c.from-in-loop-bit.result ≡ get_or c.gaps-gaps.result c.loop-bit.day 0 =
    c.from-in-loop-bit.ensures ∙ ap (λ i. get_or c.gaps-gaps.result i 0) c.from.ensures in
    let least = le-min {k = 1} {a = c.from-in-loop-bit.result} {b = left} in
    let some : 1 ≤ c.min-step.result =
    omega (arith, c.min-step.ensures, least (omega (arith, is, gap.some)) (omega (arith, c.loop-bit-test.true))) in
    omega (arith, some, c.min-step.ensures, min-le_right c.from-in-loop-bit.result left)

pub loop-bit-preserved : goal.loop-bit-preserved
loop-bit-preserved c =
    let n = c.loop-bit.bit in
    let items = c.args.rule.now.by_day in
    let test : ℕ → Bool = λ k. list_any (has_weekday ((c.args.weekday + k) % 7)) items in
    let invariant = c.loop-bit.invariant in
    let gap = c.gaps-gaps.ensures c.loop-bit.day (omega (arith, invariant.at)) in
    let is : c.from-in-loop-bit.result ≡ get_or c.gaps-gaps.result c.loop-bit.day 0 =
    c.from-in-loop-bit.ensures ∙ ap (λ i. get_or c.gaps-gaps.result i 0) c.from.ensures in
    let listed : c.lists_weekday.result ≡ list_any (has_weekday c.loop-bit.day) items = rw c.as_slice.ensures.value at c.lists_weekday.ensures in
    let tested : c.lists_weekday.result ≡ test n = listed ∙ ap (λ w. list_any (has_weekday w) items) invariant.at in
    let marked : (k : ℕ) → k < 384 → is_bit_set c.if-lists_weekday.mask.bits k ≡ (nat_lt k (n + 1) && test k) =
    elim c.if-lists_weekday.branch [
      | then-lists_weekday w ↦
          rw w.mask-is
          (bits_more c.loop-bit.mask.bits w.set.new.self.bits test n invariant.marked
          (w.set.ensures.same ∙ sym w.if-lists_weekday.true ∙ tested)
          w.set.ensures.other)
      | else-lists_weekday w ↦
          rw w.mask-is
          (bits_same c.loop-bit.mask.bits test n (omega arith) invariant.marked (sym tested ∙ w.if-lists_weekday.false))
    ] in
    let left = c.args.count - n in
    let least = le-min {k = 1} {a = c.from-in-loop-bit.result} {b = left} in
    let some : 1 ≤ c.min-step.result =
    omega (arith, c.min-step.ensures, least (omega (arith, is, gap.some)) (omega (arith, c.loop-bit-test.true))) in
    let few : c.min-step.result ≤ get_or c.gaps-gaps.result c.loop-bit.day 0 =
    omega (arith, c.min-step.ensures, is, min-le_left c.from-in-loop-bit.result left) in
    record {
      within = omega (arith, c.min-step.ensures, min-le_right c.from-in-loop-bit.result left, invariant.within);
      at = omega (arith, invariant.at, few, gap.few);
      marked = bits_on c.if-lists_weekday.mask.bits test (n + 1) (n + c.min-step.result) (omega (arith, some)) marked
          (λ k low high. (
          let same : (c.args.weekday + k) % 7 ≡ (c.loop-bit.day + (k - n)) % 7 = omega (arith, invariant.at, low) in
          ap (λ w. list_any (has_weekday w) items) same ∙ (gap.none (k - n) (omega (arith, low)) (omega (arith, high, few))).1));
    }
