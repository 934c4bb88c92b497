use Rattle.std.proofs.Common.{rules, ◌≡◌, ◌∙◌, ◌+◌, [], ◌∷◌, ◌++◌, List, length, pos, ◌+ℤ◌, ◌≤ℤ◌, FitsSigned, w64, to_z, of_z, to_z-of_z, sym, ap, subst, arith}
use Rattle.std.proofs.Common.{length-append}
use Rattle.std.proofs.lemmas.Int.{ints}
use Rattle.rr_model.specs.Bounds.{earliest_near}
use Rattle.rr_model.specs.Moment.{day_part}
use Rattle.rr_differ.specs.declared.difference.Difference.{Difference}
use Rattle.rr_model.proofs.OrderLemmas.{day_mono}
use Rattle.rr_next.proofs.TakenLemmas.{number_high}
use Rattle.rr_differ.proofs.FoundLemmas.{AreSoFar, days_so_far, enough, near_after, no_more, none_yet, one_more}
use Rattle.rr_differ.proofs.one_kind.differences_from.Given.{Over}
use Rattle.rr_differ.proofs.one_kind.differences_from.Goals.{In-Some}
use Rattle.rr_differ.proofs.one_kind.differences_from.Goals as goal

pub loop-next-init : goal.loop-next-init
loop-next-init g c =
    let s = g.A.DaySeq.sketch c.args.a.now in
    let u = g.B.DaySeq.sketch c.args.b.now in
    let low : to_z w64 (of_z w64 c.args.low) ≡ c.args.low = to_z-of_z c.ranges.low in
    let none : length c.new-found.result.items ≡ 0 = ap (λ (ds : List Difference). length ds) c.new-found.ensures.items in
    record {
      so_far = subst (λ (ds : List Difference). AreSoFar s u (to_z w64 (of_z w64 c.args.low)) ds) (sym c.new-found.ensures.items)
          (subst (λ q. AreSoFar s u q []) (sym low) (none_yet s u c.args.low c.requires.before));
      few = omega (arith, none);
      early = subst (λ q. earliest_near ≤ℤ day_part s.kind q) (sym low) c.requires.early;
      near =
          let late : day_part s.kind (to_z w64 (of_z w64 c.args.low)) ≤ℤ pos 1_000_000_000 =
          subst (λ q. day_part s.kind q ≤ℤ pos 1_000_000_000) (sym low) c.requires.late in
          omega (arith, ints, late);
    }

-- the number of what was found can be passed
record IsFound (g : Over) (c : In-Some g) : Type 0 where
  back : to_z w64 (of_z w64 c.in-Some.next.at) ≡ c.in-Some.next.at
  near : day_part (g.A.DaySeq.sketch c.args.a.now).kind c.in-Some.next.at ≤ℤ pos 2_400_000_000_000
  most : c.in-Some.next.at ≤ℤ pos 300_000_000_000_000_000

is_found : (g : Over) (c : In-Some g) → IsFound g c
is_found g c =
    let s = g.A.DaySeq.sketch c.args.a.now in
    let i = c.loop-next.invariant in
    let a = g.met.A.DaySeq.bounded c.args.a.now in
    let b = g.met.B.DaySeq.bounded c.args.b.now in
    let fits : FitsSigned w64 c.in-Some.next.at = search rules in
    let soon = c.in-Some.ensures.soon (pos 400_000_000_000) (omega (arith, ints, i.near, i.few, c.requires.few)) (omega (arith, ints, a.settled.1))
    (omega (arith, ints, b.settled.1)) in
    let near : day_part s.kind c.in-Some.next.at ≤ℤ pos 2_400_000_000_000 = omega (arith, ints, soon, c.requires.short_a, c.requires.short_b) in
    record { back = to_z-of_z fits; near = near; most = number_high s.kind c.in-Some.next.at near }

pub overflow_add-at : goal.overflow_add-at
overflow_add-at g c =
    let f = is_found g (goal.at.overflow_add-at g c).In-Some in
    omega (arith, ints, f.back, f.most)

pub loop-next-preserved : goal.loop-next-preserved
loop-next-preserved g c =
    let s = g.A.DaySeq.sketch c.args.a.now in
    let u = g.B.DaySeq.sketch c.args.b.now in
    let i = c.loop-next.invariant in
    let a = g.met.A.DaySeq.bounded c.args.a.now in
    let b = g.met.B.DaySeq.bounded c.args.b.now in
    let f = is_found g (goal.at.loop-next-preserved g c).In-Some in
    let at = to_z w64 c.loop-next.at-bits in
    let next = c.in-Some.ensures.some in
    let after = to_z w64 (of_z w64 (to_z w64 (of_z w64 c.in-Some.next.at) +ℤ pos 1)) in
    let e : after ≡ c.in-Some.next.at +ℤ pos 1 = omega (arith, ints, f.back, f.most) in
    let items : c.push.new.self.items ≡ c.loop-next.found.items ++ c.in-Some.next ∷ [] = c.in_ok-push.ensures.items in
    let longer : length c.push.new.self.items ≡ length c.loop-next.found.items + 1 =
    ap (λ (ds : List Difference). length ds) items ∙ length-append c.loop-next.found.items (c.in-Some.next ∷ []) in
    record {
      so_far = subst (λ (ds : List Difference). AreSoFar s u after ds) (sym items)
          (one_more s u a.valid b.valid c.requires.kind at after c.in-Some.next c.loop-next.found.items i.so_far next e);
      few = omega (arith, longer, c.loop-next-test.true, c.len.ensures);
      early = (let m = day_mono s.kind at after (let n = next.not_before in omega (arith, ints, n, e)) in omega (arith, ints, m, i.early));
      near = near_after s u at c.in-Some.next.at after (length c.loop-next.found.items) (length c.push.new.self.items) a.settled.1 b.settled.1
          c.requires.short_a c.requires.short_b c.in-Some.ensures.soon e i.near longer;
    }

pub returns-in_default-clause-first : goal.returns-in_default-clause-first
returns-in_default-clause-first g c =
    no_more (g.A.DaySeq.sketch c.args.a.now) (g.B.DaySeq.sketch c.args.b.now) (to_z w64 c.loop-next.at-bits) c.args.count c.loop-next.found.items
    c.loop-next.invariant.so_far c.loop-next.invariant.few c.in_default.ensures.none

pub returns-in_default-clause-days : goal.returns-in_default-clause-days
returns-in_default-clause-days g c =
    let i = c.loop-next.invariant in
    days_so_far (g.A.DaySeq.sketch c.args.a.now) (g.B.DaySeq.sketch c.args.b.now) (to_z w64 c.loop-next.at-bits) c.loop-next.found.items
    (g.met.A.DaySeq.bounded c.args.a.now).valid (g.met.B.DaySeq.bounded c.args.b.now).valid c.requires.kind i.so_far
    (omega (arith, ints, i.near, i.few, c.requires.few))

pub returns-clause-first : goal.returns-clause-first
returns-clause-first g c =
    let i = c.loop-next.invariant in
    enough (g.A.DaySeq.sketch c.args.a.now) (g.B.DaySeq.sketch c.args.b.now) (g.met.A.DaySeq.bounded c.args.a.now).valid
    (g.met.B.DaySeq.bounded c.args.b.now).valid c.requires.kind (to_z w64 c.loop-next.at-bits) c.args.count c.loop-next.found.items i.so_far
    (omega (arith, i.few, c.loop-next-test.false, c.len.ensures))

pub returns-clause-days : goal.returns-clause-days
returns-clause-days g c =
    let i = c.loop-next.invariant in
    days_so_far (g.A.DaySeq.sketch c.args.a.now) (g.B.DaySeq.sketch c.args.b.now) (to_z w64 c.loop-next.at-bits) c.loop-next.found.items
    (g.met.A.DaySeq.bounded c.args.a.now).valid (g.met.B.DaySeq.bounded c.args.b.now).valid c.requires.kind i.so_far
    (omega (arith, ints, i.near, i.few, c.requires.few))
