use Rattle.std.proofs.Common.{rules, ◌≡◌, ◌∙◌, inl, inr, ℤ, FitsSigned, w64, to_z, of_z, to_z-of_z, sym, subst, arith}
use Rattle.std.specs.Prelude.{IfNone, IfSome, None, Some}
use Rattle.rr_length.specs.Lengths.{IsNearDate, length_by, occurs_in}
use Rattle.rr_length.specs.Walk.{AreEqualFrom, IsBehind, IsFirstAt, IsFirstOtherFrom, first_date, lengths_of}
use Rattle.rr_length.specs.declared.other.OtherLength.{OtherLength}
use Rattle.rr_length.proofs.AnswerLemmas.{none_then, some_then}
use Rattle.rr_length.proofs.WalkLemmas.{asked_behind, found_there, goes_on, near_first, none_first, none_left, one_left, stands_first}
use Rattle.rr_length.proofs.walk.other_from.Given.{Over}
use Rattle.rr_length.proofs.walk.other_from.Goals.{In-Some}
use Rattle.rr_length.proofs.walk.other_from.Goals as goal

-- the first date of what is left
record IsNext (g : Over) (c : In-Some g) : Type 0 where
  back : to_z w64 (of_z w64 c.in-Some.date) ≡ c.in-Some.date
  first : first_date c.loop-date.of_a.now c.loop-date.of_b.now ≡ Some c.in-Some.date
  near : IsNearDate (to_z w64 (of_z w64 c.in-Some.date))

is_next : (g : Over) (c : In-Some g) → IsNext g c
is_next g c =
    let fits : FitsSigned w64 c.in-Some.date = search rules in
    let back = to_z-of_z fits in
    let first : first_date c.loop-date.of_a.now c.loop-date.of_b.now ≡ Some c.in-Some.date = sym c.first_date.ensures ∙ c.in-Some.is in
    let left = c.loop-date.invariant.left in
    record {
      back = back;
      first = first;
      near = subst IsNearDate (sym back)
          (near_first c.loop-date.of_a.now c.loop-date.of_b.now c.in-Some.date left.near_a left.near_b first);
    }

pub other_up_to-requires-clause-near : goal.other_up_to-requires-clause-near
other_up_to-requires-clause-near g c = (is_next g (goal.at.other_up_to-requires-clause-near g c).In-Some).near

pub later-at-requires : goal.later-at-requires
later-at-requires g c = (is_next g (goal.at.later-at-requires g c).In-Some).near

pub returns-in-Some-other_up_to-clause-some : goal.returns-in-Some-other_up_to-clause-some
returns-in-Some-other_up_to-clause-some g c =
    let P = occurs_in (g.S.DaySeq.sketch c.args.sequence.now) in
    let a = lengths_of c.args.usual.a c.args.dated_a.now in
    let b = lengths_of c.args.usual.b c.args.dated_b.now in
    let other = c.in-Some-other_up_to.other in
    subst (λ (t : ℤ). IsFirstOtherFrom P (length_by c.args.usual.a c.args.dated_a.now) (length_by c.args.usual.b c.args.dated_b.now) t None other)
    (to_z-of_z c.ranges.from)
    (found_there P a b (to_z w64 (of_z w64 c.args.from)) (to_z w64 c.loop-date.at-bits) c.loop-date.of_a.now c.loop-date.of_b.now c.loop-date.invariant.left
    (to_z w64 (of_z w64 c.in-Some.date)) c.taken_at-in_a.result.rest.now c.taken_at-in_b.result.rest.now c.taken_at-in_a.result.here c.taken_at-in_b.result.here
    c.taken_at-in_a.ensures.taken c.taken_at-in_b.ensures.taken other c.in-Some-other_up_to.ensures.some)

pub loop-date-smaller : goal.loop-date-smaller
loop-date-smaller g c =
    let n = is_next g (goal.at.loop-date-smaller g c).In-Some in
    let few_a = c.taken_at-in_a.ensures.few in
    let few_b = c.taken_at-in_b.ensures.few in
    elim (stands_first c.loop-date.of_a.now c.loop-date.of_b.now c.in-Some.date n.first) [
      | inl h ↦
          let less = c.taken_at-in_a.ensures.fewer (subst (λ (t : ℤ). IsFirstAt t c.loop-date.of_a.now) (sym n.back) h) in
          omega (arith, less, few_b)
      | inr h ↦
          let less = c.taken_at-in_b.ensures.fewer (subst (λ (t : ℤ). IsFirstAt t c.loop-date.of_b.now) (sym n.back) h) in
          omega (arith, less, few_a)
    ]

pub loop-date-preserved : goal.loop-date-preserved
loop-date-preserved g c =
    let s = g.S.DaySeq.sketch c.args.sequence.now in
    let P = occurs_in s in
    let a = lengths_of c.args.usual.a c.args.dated_a.now in
    let b = lengths_of c.args.usual.b c.args.dated_b.now in
    let n = is_next g (goal.at.loop-date-preserved g c).In-Some in
    let i = c.loop-date.invariant in
    let at = to_z w64 c.loop-date.at-bits in
    let date = to_z w64 (of_z w64 c.in-Some.date) in
    let from = to_z w64 (of_z w64 c.args.from) in
    let fits : FitsSigned w64 c.later-at.result = record { sfits = c.later-at.type_inv } in
    let same = to_z-of_z fits in
    let rest_a = c.taken_at-in_a.result.rest.now in
    let rest_b = c.taken_at-in_b.result.rest.now in
    let next = to_z w64 (of_z w64 c.later-at.result) in
    let behind : IsBehind at date next = subst (λ (t : ℤ). IsBehind at date t) (sym same) c.later-at.ensures in
    record {
      asked = asked_behind s at date next i.asked n.near behind;
      left = goes_on P a b from at c.loop-date.of_a.now c.loop-date.of_b.now i.left date rest_a rest_b c.taken_at-in_a.result.here
          c.taken_at-in_b.result.here c.taken_at-in_a.ensures.taken c.taken_at-in_b.ensures.taken next behind c.taken_at-in_a.ensures.rising
          c.taken_at-in_b.ensures.rising (c.taken_at-in_a.ensures.near i.left.near_a) (c.taken_at-in_b.ensures.near i.left.near_b)
          c.in_default-other_up_to.ensures.none;
    }

pub returns-clause-none : goal.returns-clause-none
returns-clause-none g c =
    let P = occurs_in (g.S.DaySeq.sketch c.args.sequence.now) in
    let a = lengths_of c.args.usual.a c.args.dated_a.now in
    let b = lengths_of c.args.usual.b c.args.dated_b.now in
    let empty = none_first c.loop-date.of_a.now c.loop-date.of_b.now (sym c.first_date.ensures ∙ c.in_default.is) in
    subst (λ (t : ℤ). IfNone c.other_before.result (AreEqualFrom P (length_by c.args.usual.a c.args.dated_a.now)
    (length_by c.args.usual.b c.args.dated_b.now) t None)) (to_z-of_z c.ranges.from)
    (none_then c.other_before.result (none_left P a b (to_z w64 (of_z w64 c.args.from)) (to_z w64 c.loop-date.at-bits) c.loop-date.of_a.now
    c.loop-date.of_b.now c.loop-date.invariant.left empty.0 empty.1) c.other_before.ensures.none)

pub returns-clause-some : goal.returns-clause-some
returns-clause-some g c =
    let P = occurs_in (g.S.DaySeq.sketch c.args.sequence.now) in
    let a = lengths_of c.args.usual.a c.args.dated_a.now in
    let b = lengths_of c.args.usual.b c.args.dated_b.now in
    let empty = none_first c.loop-date.of_a.now c.loop-date.of_b.now (sym c.first_date.ensures ∙ c.in_default.is) in
    subst (λ (t : ℤ). IfSome c.other_before.result (IsFirstOtherFrom P (length_by c.args.usual.a c.args.dated_a.now)
    (length_by c.args.usual.b c.args.dated_b.now) t None)) (to_z-of_z c.ranges.from)
    (some_then c.other_before.result (λ (o : OtherLength). one_left P a b (to_z w64 (of_z w64 c.args.from)) (to_z w64 c.loop-date.at-bits)
    c.loop-date.of_a.now c.loop-date.of_b.now c.loop-date.invariant.left o empty.0 empty.1) c.other_before.ensures.some)
