use Rattle.std.proofs.Common.{rules, ◌≡◌, ◌+◌, ◌∙◌, [], ◌∷◌, ◌++◌, List, length, Option, Some, pos, ◌+ℤ◌, FitsSigned, w64, to_z, of_z, to_z-of_z, sym, ap, subst, arith}
use Rattle.std.proofs.Common.{length-append}
use Rattle.std.specs.Prelude.{IfSome}
use Rattle.std.proofs.lemmas.Int.{ints}
use Rattle.rr_model.specs.declared.verdict.Side.TheVariants.{A, B}
use Rattle.rr_differ.specs.Apart.{IsWithinSteps}
use Rattle.rr_differ.specs.declared.difference.Difference.{Difference}
use Rattle.rr_differ.proofs.ApartLemmas.{AreFoundApart, enough_apart, more_steps, next_or_none, none_left, not_great, of_first, of_second, step_after, taken_a, taken_b}
use Rattle.rr_differ.proofs.apart.differences_apart.Goals as goal

pub returns-in_default-clause-first : goal.returns-in_default-clause-first
returns-in_default-clause-first g c =
    let i = c.loop-next_a.invariant in
    none_left (g.A.DaySeq.sketch c.args.a.now) (g.B.DaySeq.sketch c.args.b.now) c.requires.kinds c.args.count c.loop-next_a.found.items
    c.loop-next_a.next_a c.loop-next_a.next_b i.found c.in_default.ensures i.few

pub loop-next_a-preserved-in-A : goal.loop-next_a-preserved-in-A
loop-next_a-preserved-in-A g c =
    let s = g.A.DaySeq.sketch c.args.a.now in
    let u = g.B.DaySeq.sketch c.args.b.now in
    let i = c.loop-next_a.invariant in
    let b = g.met.A.DaySeq.bounded c.args.a.now in
    let d = c.in-Some.next in
    let found = c.loop-next_a.found.items in
    let n = length found + 1 in
    let taken = of_first s u c.requires.kinds found d c.loop-next_a.next_a c.loop-next_a.next_b i.found c.in-Some.ensures c.in-A.is in
    let before : AreFoundApart s u found (Some d) c.loop-next_a.next_b = subst (λ o. AreFoundApart s u found o c.loop-next_a.next_b) taken.0 i.found in
    let near : IsWithinSteps n d = subst (λ (o : Option Difference). IfSome o (IsWithinSteps n)) taken.0 i.near_a in
    let low = not_great n d near (omega (arith, c.requires.few, c.loop-next_a-test.true, c.len.ensures)) in
    let fits : FitsSigned w64 c.in-Some.next.at = search rules in
    let back = to_z-of_z fits in
    let after = to_z w64 (of_z w64 (to_z w64 (of_z w64 d.at) +ℤ pos 1)) in
    let e : after ≡ d.at +ℤ pos 1 = omega (arith, ints, back, low.0) in
    let items : c.push.new.self.items ≡ found ++ d ∷ [] = c.in_ok-push.ensures.items in
    let longer : length c.push.new.self.items ≡ length found + 1 =
    ap (λ (ds : List Difference). length ds) items ∙ length-append found (d ∷ []) in
    record {
      found = subst (λ ds. AreFoundApart s u ds c.one_from-next_a.result c.loop-next_a.next_b) (sym items)
          (taken_a s u c.requires.kinds found d after c.one_from-next_a.result c.loop-next_a.next_b before taken.1 low.1 e
          (next_or_none s A after c.one_from-next_a.result c.one_from-next_a.ensures.none c.one_from-next_a.ensures.some));
      few = omega (arith, longer, c.loop-next_a-test.true, c.len.ensures);
      near_a = step_after s A d c.one_from-next_a.result after n (length c.push.new.self.items + 1) b.settled.1 c.requires.short_a before.of_a.is
          c.one_from-next_a.ensures.some near e c.one_from-next_a.ensures.soon (omega (arith, longer));
      near_b = more_steps n (length c.push.new.self.items + 1) c.loop-next_a.next_b (omega (arith, longer)) i.near_b;
    }

pub loop-next_a-preserved : goal.loop-next_a-preserved
loop-next_a-preserved g c =
    let s = g.A.DaySeq.sketch c.args.a.now in
    let u = g.B.DaySeq.sketch c.args.b.now in
    let i = c.loop-next_a.invariant in
    let b = g.met.B.DaySeq.bounded c.args.b.now in
    let d = c.in-Some.next in
    let found = c.loop-next_a.found.items in
    let n = length found + 1 in
    let taken = of_second s u c.requires.kinds found d c.loop-next_a.next_a c.loop-next_a.next_b i.found c.in-Some.ensures c.in_default-side.not-A in
    let before : AreFoundApart s u found c.loop-next_a.next_a (Some d) = subst (λ o. AreFoundApart s u found c.loop-next_a.next_a o) taken.0 i.found in
    let near : IsWithinSteps n d = subst (λ (o : Option Difference). IfSome o (IsWithinSteps n)) taken.0 i.near_b in
    let low = not_great n d near (omega (arith, c.requires.few, c.loop-next_a-test.true, c.len.ensures)) in
    let fits : FitsSigned w64 c.in-Some.next.at = search rules in
    let back = to_z-of_z fits in
    let after = to_z w64 (of_z w64 (to_z w64 (of_z w64 d.at) +ℤ pos 1)) in
    let e : after ≡ d.at +ℤ pos 1 = omega (arith, ints, back, low.0) in
    let items : c.push.new.self.items ≡ found ++ d ∷ [] = c.in_ok-push.ensures.items in
    let longer : length c.push.new.self.items ≡ length found + 1 =
    ap (λ (ds : List Difference). length ds) items ∙ length-append found (d ∷ []) in
    record {
      found = subst (λ ds. AreFoundApart s u ds c.loop-next_a.next_a c.one_from-next_b.result) (sym items)
          (taken_b s u c.requires.kinds found d after c.one_from-next_b.result c.loop-next_a.next_a before taken.1 low.1 e
          (next_or_none u B after c.one_from-next_b.result c.one_from-next_b.ensures.none c.one_from-next_b.ensures.some));
      few = omega (arith, longer, c.loop-next_a-test.true, c.len.ensures);
      near_a = more_steps n (length c.push.new.self.items + 1) c.loop-next_a.next_a (omega (arith, longer)) i.near_a;
      near_b = step_after u B d c.one_from-next_b.result after n (length c.push.new.self.items + 1) b.settled.1 c.requires.short_b before.of_b.is
          c.one_from-next_b.ensures.some near e c.one_from-next_b.ensures.soon (omega (arith, longer));
    }

pub returns-clause-first : goal.returns-clause-first
returns-clause-first g c =
    let i = c.loop-next_a.invariant in
    enough_apart (g.A.DaySeq.sketch c.args.a.now) (g.B.DaySeq.sketch c.args.b.now) c.requires.kinds c.args.count c.loop-next_a.found.items
    c.loop-next_a.next_a c.loop-next_a.next_b i.found (omega (arith, i.few, c.loop-next_a-test.false, c.len.ensures))
