use Rattle.std.proofs.Common.{◌≡◌, ◌∙◌, sym, ap, ℕ, ◌+◌, ◌-◌, ◌<◌, ◌≤◌, Bool, false, ◌&&◌, pos, ◌+ℤ◌, subst, arith}
use Rattle.std.specs.Prelude.{nat_lt}
use Rattle.std.proofs.Math.Nat.{le-min, min-le_left, min-le_right}
use Rattle.std.proofs.lemmas.Int.{ints}
use Rattle.rr_expand.specs.Years.{Filling, allows_day, is_bit_set}
use Rattle.rr_expand.proofs.MaskLemmas.{bits_none, bits_more, bits_on, bits_same}
use Rattle.rr_expand.proofs.year_masks.mask_from.Goals as goal
use Rattle.rr_expand.proofs.year_masks.mask_from.Goals.{then-date_parts_hold, else-date_parts_hold}

pub loop-bit-init : goal.loop-bit-init
loop-bit-init c =
    let filling : Filling = record { rule = c.args.rule.now; start_day = c.args.start.now.number } in record {
      within = omega arith;
      at = omega (arith, ints);
      marked = bits_none (λ k. allows_day filling (c.args.first.number +ℤ pos k));
    }

pub loop-bit-smaller : goal.loop-bit-smaller
loop-bit-smaller c =
    let left = c.args.count - c.loop-bit.bit in
    let some : 1 ≤ c.min-step.result =
    omega (arith, c.min-step.ensures, le-min {k = 1} {a = c.from.result} {b = left} (omega (arith, c.from.ensures, c.days_on.ensures.some)) (omega (arith, c.loop-bit-test.true))) in
    omega (arith, some, c.min-step.ensures, min-le_right c.from.result left)

pub loop-bit-preserved : goal.loop-bit-preserved
loop-bit-preserved c =
    let n = c.loop-bit.bit in
    let filling : Filling = record { rule = c.args.rule.now; start_day = c.args.start.now.number } in
    let test : ℕ → Bool = λ k. allows_day filling (c.args.first.number +ℤ pos k) in
    let invariant = c.loop-bit.invariant in
    let tested : c.date_parts_hold.result ≡ test n = c.date_parts_hold.ensures ∙ ap (λ d. allows_day filling d) invariant.at in
    let marked : (k : ℕ) → k < 384 → is_bit_set c.if-date_parts_hold.mask.bits k ≡ (nat_lt k (n + 1) && test k) =
    elim c.if-date_parts_hold.branch [
      | then-date_parts_hold w ↦
          rw w.mask-is
          (bits_more c.loop-bit.mask.bits w.set.new.self.bits test n invariant.marked
          (w.set.ensures.same ∙ sym w.if-date_parts_hold.true ∙ tested)
          w.set.ensures.other)
      | else-date_parts_hold w ↦
          rw w.mask-is
          (bits_same c.loop-bit.mask.bits test n (omega arith) invariant.marked (sym tested ∙ w.if-date_parts_hold.false))
    ] in
    let left = c.args.count - n in
    let some : 1 ≤ c.min-step.result =
    omega (arith, c.min-step.ensures, le-min {k = 1} {a = c.from.result} {b = left} (omega (arith, c.from.ensures, c.days_on.ensures.some)) (omega (arith, c.loop-bit-test.true))) in
    let few : c.min-step.result ≤ c.days_on.result = omega (arith, c.min-step.ensures, c.from.ensures, min-le_left c.from.result left) in
    record {
      within = omega (arith, c.min-step.ensures, min-le_right c.from.result left, invariant.within);
      at = omega (arith, ints, c.day_after-day.ensures, invariant.at);
      marked = bits_on c.if-date_parts_hold.mask.bits test (n + 1) (n + c.min-step.result) (omega (arith, some)) marked
          (λ k low high. (
          let e : c.args.first.number +ℤ pos k ≡ c.loop-bit.day.number +ℤ pos (k - n) = omega (arith, ints, invariant.at, low) in
          ap (allows_day filling) e ∙ c.days_on.ensures.none (k - n) (omega (arith, low)) (omega (arith, high, few))));
    }
