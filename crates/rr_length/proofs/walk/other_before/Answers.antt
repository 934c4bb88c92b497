use Rattle.std.proofs.Common.{rules, ◌≡◌, ◌∙◌, ℤ, false, FitsSigned, to_z-of_z, w64, sym, subst}
use Rattle.rr_next.specs.Next.{IsBelow, IsNextAt}
use Rattle.rr_length.specs.Length.{is_same_length}
use Rattle.rr_length.specs.Lengths.{occurs_in}
use Rattle.rr_length.specs.Walk.{IsFirstOtherFrom}
use Rattle.rr_length.proofs.WalkLemmas.{next_other}
use Rattle.rr_length.proofs.walk.other_before.Goals as goal

pub returns-in-Some-clause-some : goal.returns-in-Some-clause-some
returns-in-Some-clause-some g c =
    let s = g.S.DaySeq.sketch c.args.sequence.now in
    let back = to_z-of_z c.ranges.at in
    let fits : FitsSigned w64 c.in-Some.next = search rules in
    let shown = to_z-of_z fits in
    let two : is_same_length c.args.usual.a c.args.usual.b ≡ false = sym c.is_same.ensures ∙ c.if-is_same.false in
    let next : IsNextAt s c.args.at c.in-Some.next = subst (λ (t : ℤ). IsNextAt s t c.in-Some.next) back c.in-Some.ensures.some in
    let below : IsBelow c.args.end c.in-Some.next = subst (IsBelow c.args.end) shown (c.is_below.ensures.0 c.if-is_below.true) in
    subst (λ (t : ℤ). IsFirstOtherFrom (occurs_in s) (λ u. c.args.usual.a) (λ u. c.args.usual.b) c.args.at c.args.end
    (record { at = t; a = c.args.usual.a; b = c.args.usual.b })) (sym shown)
    (next_other s c.args.usual.a c.args.usual.b c.args.at c.in-Some.next c.args.end next below two)
