use Rattle.std.proofs.Common.{rules, ◌≡◌, ◌∙◌, ℤ, false, pos, ◌+ℤ◌, ◌<ℤ◌, FitsSigned, ap, to_z, of_z, to_z-of_z, w64, sym, subst, arith}
use Rattle.std.proofs.lemmas.Int.{ints}
use Rattle.rr_next.specs.Next.{HasNoneFrom, IsNextAt}
use Rattle.std.specs.Prelude.{Some}
use Rattle.rr_length.specs.Length.{is_same_length}
use Rattle.rr_length.specs.Walk.{IsOtherAt}
use Rattle.rr_length.proofs.WalkLemmas.{later_at, none_at, other_there}
use Rattle.rr_length.proofs.walk.other_at.Goals as goal

pub returns-in-Some-clause-some : goal.returns-in-Some-clause-some
returns-in-Some-clause-some g c =
    let s = g.S.DaySeq.sketch c.args.sequence.now in
    let back = to_z-of_z c.ranges.date in
    let two : is_same_length c.args.here.a c.args.here.b ≡ false = sym c.is_same.ensures ∙ c.if-is_same.false in
    let next : IsNextAt s c.args.date c.in-Some.next = subst (λ (t : ℤ). IsNextAt s t c.in-Some.next) back c.in-Some.ensures.some in
    let fits : FitsSigned w64 c.in-Some.next = search rules in
    let there : c.in-Some.next ≡ c.args.date = sym (to_z-of_z fits) ∙ ap (to_z w64) c.if-next-date.true ∙ back in
    subst (λ (t : ℤ). IsOtherAt s c.args.date c.args.here (record { at = t; a = c.args.here.a; b = c.args.here.b })) (sym back)
    (other_there s c.args.date c.in-Some.next c.args.here next there two)

pub returns-in_default-clause-none : goal.returns-in_default-clause-none
returns-in_default-clause-none g c =
    let s = g.S.DaySeq.sketch c.args.sequence.now in
    let back = to_z-of_z c.ranges.date in
    let next : IsNextAt s c.args.date c.in-Some.next = subst (λ (t : ℤ). IsNextAt s t c.in-Some.next) back c.in-Some.ensures.some in
    later_at s c.args.date c.in-Some.next c.args.here next (λ e. c.if-next-date.false (ap (of_z w64) e))

pub returns-in_default-2-clause-none : goal.returns-in_default-2-clause-none
returns-in_default-2-clause-none g c =
    let s = g.S.DaySeq.sketch c.args.sequence.now in
    let back = to_z-of_z c.ranges.date in
    let end : ℤ = to_z w64 (of_z w64 (to_z w64 (of_z w64 c.args.date) +ℤ pos 1)) in
    let below : c.args.date <ℤ end = omega (arith, ints, back, c.requires.near.1) in
    let none : HasNoneFrom s (Some end) c.args.date = subst (λ (t : ℤ). HasNoneFrom s (Some end) t) back c.in_default.ensures.none in
    none_at s c.args.date end c.args.here below none
