use Rattle.std.proofs.Common.{rules, ◌≡◌, ◌<◌, ◌+ℤ◌, ◌-ℤ◌, ◌≤ℤ◌, ◌<ℤ◌, ℤ, pos, nat_abs, FitsSigned, to_z, of_z, to_z-of_z, w64, arith}
use Rattle.std.proofs.lemmas.Int.{ints}
use Rattle.rr_expand.proofs.KeptMaskLemmas.{none_marked, one_marked, below_lesser}
use Rattle.rr_expand.proofs.allowed_days.MaskedYear.first_from.Goals as goal

module _ (c : goal.After-first_from-arg-2-1) where
  first_is : to_z w64 (of_z w64 c.args.self.now.first) ≡ c.args.self.now.first
  first_is = let y = c.requires.year in omega (arith, ints, y.near.0, y.near.1)

  next_is : to_z w64 (of_z w64 c.args.self.now.next) ≡ c.args.self.now.next
  next_is = let y = c.requires.year in omega (arith, ints, y.near.0, y.near.1, y.ordered, y.short)

  last_is : to_z w64 (of_z w64 c.min-end.result) ≡ c.min-end.result
  last_is = let fits : FitsSigned w64 c.min-end.result = search rules in to_z-of_z fits

  -- the bit of the first day, and of the last
  from_is : c.args.self.now.first +ℤ pos (nat_abs (to_z w64 (of_z w64 (to_z w64 (of_z w64 c.args.from) -ℤ to_z w64 (of_z w64 c.args.self.now.first)))))
      ≡ c.args.from
  from_is =
      let y = c.requires.year in
      omega (arith, ints, first_is, to_z-of_z c.ranges.from, c.requires.begun, c.requires.not_over, y.near.0, y.near.1, y.short)

  from_low : nat_abs (to_z w64 (of_z w64 (to_z w64 (of_z w64 c.args.from) -ℤ to_z w64 (of_z w64 c.args.self.now.first)))) < 366
  from_low = let y = c.requires.year in omega (arith, ints, from_is, c.requires.not_over, y.short)

  early : c.min-end.result ≤ℤ c.args.end
  early = omega (arith, ints, c.min-end.ensures.self_bound, to_z-of_z c.ranges.end)

  within : c.min-end.result ≤ℤ c.args.self.now.next
  within = omega (arith, ints, c.min-end.ensures.other_bound, next_is)

  below_both : (d : ℤ) → d <ℤ c.args.end → d <ℤ c.args.self.now.next → d <ℤ c.min-end.result
  below_both = below_lesser c.args.end c.args.self.now.next c.min-end.result (rw (to_z-of_z c.ranges.end, next_is) at c.min-end.ensures.value)

  begun : c.args.from ≤ℤ c.min-end.result
  begun =
      let before = below_both (c.args.from -ℤ pos 1) (omega (arith, ints, c.requires.some)) (omega (arith, ints, c.requires.not_over)) in
      omega (arith, ints, before)

  till_is : c.args.self.now.first +ℤ pos (nat_abs (to_z w64 (of_z w64 (to_z w64 (of_z w64 c.min-end.result) -ℤ to_z w64 (of_z w64 c.args.self.now.first)))))
      ≡ c.min-end.result
  till_is =
      let y = c.requires.year in
      omega (arith, ints, first_is, last_is, begun, c.requires.begun, within, y.near.0, y.near.1, y.short)

pub overflow_cast-end : goal.overflow_cast-end
overflow_cast-end c =
    let y = c.requires.year in
    omega (arith, ints, first_is c, last_is c, begun c, c.requires.begun, within c, y.near.0, y.near.1, y.short)

pub first_from-requires : goal.first_from-requires
first_from-requires c = let y = c.requires.year in omega (arith, ints, till_is c, within c, y.short)

pub returns-in_err-bit : goal.returns-in_err-bit
returns-in_err-bit c =
    let b = c.before.before.before.before in
    rw c.from_residual.ensures
    (none_marked c.args.self.now c.args.from c.args.end c.min-end.result _ _ (from_is b) (till_is b) (below_both b) c.in_err-bit.ensures)

pub returns : goal.returns
returns c =
    let b = c.before.before.before.before.before in
    let y = c.requires.year in
    let found = c.in_ok-bit.ensures in
    let day : to_z w64 (of_z w64 (to_z w64 (of_z w64 c.args.self.now.first) +ℤ to_z w64 (of_z w64 c.from.result)))
    ≡ c.args.self.now.first +ℤ pos c.in_ok-bit.bit =
    omega (arith, ints, first_is b, c.from.ensures, y.near.0, y.near.1, y.short, within b, till_is b, found.1) in
    one_marked c.args.self.now c.args.from c.args.end c.min-end.result _ _ (from_is b) (till_is b) c.in_ok-bit.bit _ (early b) (within b) day found
