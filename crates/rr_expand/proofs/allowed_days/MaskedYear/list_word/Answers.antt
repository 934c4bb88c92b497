use Rattle.std.proofs.Common.{rules, ◌≡◌, ℕ, ℤ, pos, ◌+◌, ◌<◌, ◌^◌, ◌++◌, ◌∷◌, [], ◌+ℤ◌, arith, w64, to_z, of_z}
use Rattle.std.specs.Int.{trailing_zeros}
use Rattle.std.proofs.lemmas.Int.{ints}
use Rattle.rr_expand.proofs.AllowedListLemmas.{listed_bit, listed_rest}
use Rattle.rr_expand.proofs.MaskLemmas.{bits_after, first_bit_between, no_bit_between}
use Rattle.rr_expand.proofs.allowed_days.MaskedYear.list_word.Goals as goal

pub loop-rest-init : goal.loop-rest-init
loop-rest-init c =
    let y = c.requires.year in
    let over = c.requires.not_over in
    let begun : c.args.from < c.args.end = c.requires.some in (
      c.args.from,
      (
        omega (arith, ints, c.from-2.ensures, y.near.0, y.near.1, y.short, over, begun),
        omega arith,
        omega (arith, begun),
        c.bits_between-rest.ensures,
        omega (arith, c.from.ensures, c.in_ok-reserve.ensures.ok),
        λ f first low tells listed. rw c.in_ok-reserve.ensures.items listed,
      ),
    )

pub push_reserved-requires : goal.push_reserved-requires
push_reserved-requires c =
    let some : 0 < c.loop-rest.rest = omega (arith, c.loop-rest-test.true) in
    let fits : c.loop-rest.rest < 2 ^ 64 = search rules in
    let from = c.loop-rest.invariant.0 in
    let inv = c.loop-rest.invariant.1 in
    let found = first_bit_between c.args.self.now.mask.bits from c.args.end c.loop-rest.rest inv.3 some fits in
    omega (arith, inv.4, found.1)

pub loop-rest-preserved : goal.loop-rest-preserved
loop-rest-preserved c =
    let year = c.args.self.now in
    let y = c.requires.year in
    let over = c.requires.not_over in
    let some : 0 < c.loop-rest.rest = omega (arith, c.loop-rest-test.true) in
    let fits : c.loop-rest.rest < 2 ^ 64 = search rules in
    let from = c.loop-rest.invariant.0 in
    let inv = c.loop-rest.invariant.1 in
    let found = first_bit_between year.mask.bits from c.args.end c.loop-rest.rest inv.3 some fits in
    let bit : ℕ = from + trailing_zeros w64 c.loop-rest.rest in
    let day : ℤ = year.first +ℤ pos bit in
    let is : to_z w64 (of_z w64 (to_z w64 c.loop-rest.day-bits +ℤ to_z w64 (of_z w64 c.from-day.result))) ≡ day =
    omega (arith, ints, c.from-day.ensures, inv.0, y.near.0, y.near.1, y.short, over, found.1) in
    let more : c.push_reserved.new.self.items ≡ c.loop-rest.days.items ++ day ∷ [] = rw is at c.push_reserved.ensures.items in (
      bit + 1,
      (
        rw is (omega (arith, ints, y.near.0, y.near.1, y.short, over, found.1)),
        omega (arith, inv.1),
        omega (arith, found.1),
        bits_after year.mask.bits from c.args.end c.loop-rest.rest inv.3 some fits,
        omega (arith, inv.4, found.1, c.push_reserved.ensures.len, c.push_reserved.ensures.capacity),
        λ f first low tells listed.
            listed_bit f year tells first from c.args.end (omega (arith, ints, low, inv.1)) over c.loop-rest.days.items
            (inv.5 f first low tells listed) bit c.push_reserved.new.self.items found more,
      ),
    )

pub returns : goal.returns
returns c f first low tells listed =
    let year = c.args.self.now in
    let from = c.loop-rest.invariant.0 in
    let inv = c.loop-rest.invariant.1 in
    let none : c.loop-rest.rest ≡ 0 = omega (arith, c.loop-rest-test.false) in
    listed_rest f year tells first from c.args.end (omega (arith, ints, low, inv.1)) c.requires.not_over c.loop-rest.days.items
    (inv.5 f first low tells listed) inv.2 (no_bit_between year.mask.bits from c.args.end c.loop-rest.rest inv.3 none)
