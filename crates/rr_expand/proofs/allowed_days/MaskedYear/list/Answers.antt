use Rattle.std.proofs.Common.{◌≡◌, ◌∙◌, sym, arith, ℤ, ℕ, pos, nat_abs, ◌+ℤ◌, ◌-ℤ◌, ◌≤ℤ◌, w64, to_z, of_z, to_z-of_z}
use Rattle.std.proofs.lemmas.Int.{ints}
use Rattle.rr_expand.specs.KeptMasks.{IsMaskedYear}
use Rattle.rr_expand.specs.declared.allowed_days.MaskedYear.{MaskedYear}
use Rattle.rr_expand.proofs.allowed_days.MaskedYear.list.Goals as goal

-- the bit of a day in its year
abbrev bit_of : MaskedYear → ℤ → ℕ
bit_of year d = nat_abs (to_z w64 (of_z w64 (to_z w64 (of_z w64 d) -ℤ to_z w64 (of_z w64 year.first))))

bit_is : (year : MaskedYear) (d : ℤ) → IsMaskedYear year → year.first ≤ℤ d → d ≤ℤ year.next → year.first +ℤ pos (bit_of year d) ≡ d
bit_is year d y low high = omega (arith, ints, y.near.0, y.near.1, y.ordered, y.short, low, high)

pub loop-bit-init : goal.loop-bit-init
loop-bit-init c =
    let year = c.args.self.now in
    let begun = c.requires.begun in
    let some = c.requires.some in
    let over = c.requires.not_over in
    let at = bit_is year c.args.from c.requires.year begun (omega (arith, ints, some, over)) in
    let till = bit_is year c.args.end c.requires.year (omega (arith, ints, begun, some)) over in
    let same = to_z-of_z c.ranges.from in
    let is : year.first +ℤ pos (bit_of year c.args.from) ≡ to_z w64 (of_z w64 c.args.from) = at ∙ sym same in
    (omega (arith, ints, at, till, some), omega (arith, ints, is), λ f first low tells listed. rw is listed)

pub loop-bit-preserved : goal.loop-bit-preserved
loop-bit-preserved c =
    let inv = c.loop-bit.invariant in
    let next = c.min-next.ensures in (
      omega (arith, next),
      omega (arith, ints, inv.1, next, c.loop-bit-test.true),
      λ f first low tells listed. c.in_ok-list_word.ensures f first (omega (arith, ints, low, inv.1)) tells (inv.2 f first low tells listed),
    )

pub returns : goal.returns
returns c f first low tells listed =
    let year = c.args.self.now in
    let over = c.requires.not_over in
    let inv = c.loop-bit.invariant in
    let same = to_z-of_z c.ranges.from in
    let till = bit_is year c.args.end c.requires.year (omega (arith, ints, c.requires.begun, c.requires.some)) over in
    let is : year.first +ℤ pos c.loop-bit.bit ≡ c.args.end = omega (arith, ints, inv.0, till, c.loop-bit-test.false) in
    rw (← is) (inv.2 f first (omega (arith, ints, low, same)) tells (rw same listed))
