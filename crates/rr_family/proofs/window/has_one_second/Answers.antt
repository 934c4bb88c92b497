use Rattle.std.proofs.Common.{◌≡◌, pos, ◌+ℤ◌, arith, refl, sym, subst, ◌∙◌, w64, to_z, of_z}
use Rattle.std.proofs.lemmas.Bool.{false≢true}
use Rattle.std.proofs.lemmas.Int.{ints, by_lt_z, to_z-of_z}
use Rattle.rr_family.specs.Walks.{IsAtSecond}
use Rattle.rr_family.proofs.WalkLemmas.{day_after_read, free_at_second}
use Rattle.rr_family.proofs.window.has_one_second.Goals as goal

pub loop-read-init : goal.loop-read-init
loop-read-init g c = (omega arith, λ d l h. absurd (omega (arith, ints, l, h)))

pub returns-in_default : goal.returns-in_default
returns-in_default g c =
    let back = to_z-of_z w64 c.args.first c.ranges.first in
    let less = c.loop-read.invariant.0 in
    let from = day_after_read c.args.first c.day_after.result c.loop-read.read c.args.days c.requires.near c.requires.few less c.day_after.ensures in
    let s = g.A.DaySeq.sketch c.args.seq.now in (
      λ t. λ d l h. by_lt_z {P = IsAtSecond s c.args.second d} d (c.args.first +ℤ pos c.loop-read.read)
          (λ m. c.loop-read.invariant.1 d (omega (arith, ints, l, back)) (omega (arith, ints, m, back)))
          (λ m. free_at_second s c.args.second d (c.in_default.ensures d (omega (arith, ints, from, m)) (omega (arith, ints, from, h, less)))),
      λ h. refl,
    )

pub returns-then-not-is_at_second : goal.returns-then-not-is_at_second
returns-then-not-is_at_second g c =
    let back = to_z-of_z w64 c.args.first c.ranges.first in
    let less = c.loop-read.invariant.0 in
    let from = day_after_read c.args.first c.day_after.result c.loop-read.read c.args.days c.requires.near c.requires.few less c.day_after.ensures in
    let low = c.in-Some.ensures.0 in
    let high = c.in-Some.ensures.1 in
    let same : to_z w64 (of_z w64 c.in-Some.day) ≡ c.in-Some.day = omega (arith, ints, low, high, from, c.requires.near.0, c.requires.near.1, c.requires.few, less) in (
      λ t. absurd (false≢true t),
      λ all. absurd (false≢true (sym c.if-not-is_at_second.true ∙ c.is_at_second.ensures.1
          (all _ (omega (arith, ints, same, low, from)) (omega (arith, ints, same, high, from, less))))),
    )

pub loop-read-preserved : goal.loop-read-preserved
loop-read-preserved g c =
    let back = to_z-of_z w64 c.args.first c.ranges.first in
    let less = c.loop-read.invariant.0 in
    let from = day_after_read c.args.first c.day_after.result c.loop-read.read c.args.days c.requires.near c.requires.few less c.day_after.ensures in
    let low = c.in-Some.ensures.0 in
    let high = c.in-Some.ensures.1 in
    let same : to_z w64 (of_z w64 c.in-Some.day) ≡ c.in-Some.day = omega (arith, ints, low, high, from, c.requires.near.0, c.requires.near.1, c.requires.few, less) in
    let next : (c.args.first +ℤ pos c.days_through-read.result) ≡ c.in-Some.day +ℤ pos 1 = omega (arith, ints, c.days_through-read.ensures, back, same) in
    let s = g.A.DaySeq.sketch c.args.seq.now in (
      omega (arith, ints, next, high, from, less),
      λ d l h. by_lt_z {P = IsAtSecond s c.args.second d} d (c.args.first +ℤ pos c.loop-read.read)
          (λ m. c.loop-read.invariant.1 d l (omega (arith, ints, m, back)))
          (λ m. by_lt_z {P = IsAtSecond s c.args.second d} d c.in-Some.day
          (λ b. free_at_second s c.args.second d (c.in-Some.ensures.3 d (omega (arith, ints, from, m)) b))
          (λ b.
          let is : to_z w64 (of_z w64 c.in-Some.day) ≡ d = omega (arith, ints, same, b, h, next, back) in
          subst (λ z. IsAtSecond s c.args.second z) is (c.is_at_second.ensures.0 c.if-not-is_at_second.false))),
    )

pub returns : goal.returns
returns g c =
    let back = to_z-of_z w64 c.args.first c.ranges.first in
    (λ t. λ d l h. c.loop-read.invariant.1 d (omega (arith, ints, l, back)) (omega (arith, ints, h, back, c.loop-read-test.false)), λ h. refl)
