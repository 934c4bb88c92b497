use Rattle.std.proofs.Common.{rules, ◌≡◌, ◌∙◌, ◌+◌, [], ◌∷◌, ◌++◌, List, ℤ, length, pos, ◌+ℤ◌, ◌≤ℤ◌, FitsSigned, w64, to_z, of_z, to_z-of_z, inl, inr, sym, ap, subst, arith}
use Rattle.std.proofs.Common.{length-append}
use Rattle.std.proofs.lemmas.Int.{ints}
use Rattle.rr_model.specs.Moment.{day_part}
use Rattle.rr_next.specs.Next.{IsBelow}
use Rattle.rr_next.proofs.TakenLemmas.{IsSoFar, enough, near_after, near_so_far, no_more, no_more_below, number_high, one_more}
use Rattle.rr_next.proofs.first.first_numbers.Goals.{in_default-via-in-Some+else-is_below, in_default-via-in_default}
use Rattle.rr_next.proofs.first.first_numbers.Goals as goal

pub overflow_add-at : goal.overflow_add-at
overflow_add-at g c =
    let s = g.A.DaySeq.sketch c.args.seq.now in
    let i = c.loop-end.invariant in
    let at = to_z w64 c.loop-end.at-bits in
    let fits : FitsSigned w64 c.in-Some.next = search rules in
    let back = to_z-of_z fits in
    let b = g.met.A.DaySeq.bounded c.args.seq.now in
    let near : day_part s.kind c.in-Some.next ≤ℤ pos 2_400_000_000_000 = elim c.in-Some.ensures.soon [
      | inl l ↦ omega (arith, ints, l, i.near, i.few, c.requires.few, c.requires.short)
      | inr l ↦ omega (arith, ints, l, b.settled.1, c.requires.short)
    ] in
    let most = number_high s.kind c.in-Some.next near in
    omega (arith, ints, back, most)

pub loop-end-preserved : goal.loop-end-preserved
loop-end-preserved g c =
    let s = g.A.DaySeq.sketch c.args.seq.now in
    let i = c.loop-end.invariant in
    let at = to_z w64 c.loop-end.at-bits in
    let fits : FitsSigned w64 c.in-Some.next = search rules in
    let back = to_z-of_z fits in
    let b = g.met.A.DaySeq.bounded c.args.seq.now in
    let low = to_z w64 (of_z w64 c.args.low) in
    let near : day_part s.kind c.in-Some.next ≤ℤ pos 2_400_000_000_000 = elim c.in-Some.ensures.soon [
      | inl l ↦ omega (arith, ints, l, i.near, i.few, c.requires.few, c.requires.short)
      | inr l ↦ omega (arith, ints, l, b.settled.1, c.requires.short)
    ] in
    let most = number_high s.kind c.in-Some.next near in
    let after = to_z w64 (of_z w64 (to_z w64 (of_z w64 c.in-Some.next) +ℤ pos 1)) in
    let e : after ≡ c.in-Some.next +ℤ pos 1 = omega (arith, ints, back, most) in
    let below : IsBelow c.args.end c.in-Some.next = subst (IsBelow c.args.end) back (c.is_below.ensures.0 c.if-is_below.true) in
    let items : c.push.new.self.items ≡ c.loop-end.found.items ++ c.in-Some.next ∷ [] =
    c.in_ok-push-in-Some.ensures.items ∙ ap (λ (x : ℤ). c.loop-end.found.items ++ x ∷ []) back in
    let longer : length c.push.new.self.items ≡ length c.loop-end.found.items + 1 =
    ap length items ∙ length-append c.loop-end.found.items (c.in-Some.next ∷ []) in
    record {
      so_far = subst (λ (ts : List ℤ). IsSoFar s low c.args.end after ts) (sym items)
          (one_more s low c.args.end at c.in-Some.next after c.loop-end.found.items i.so_far i.from c.in-Some.ensures.some below e);
      from = (let f = c.in-Some.ensures.some.not_before in omega (arith, ints, f, e, i.from));
      few = omega (arith, longer, c.loop-end-test.true, c.len.ensures);
      near = near_after s at c.in-Some.next after (length c.loop-end.found.items) (length c.push.new.self.items) b.settled.1 c.requires.short
          c.in-Some.ensures.soon e i.near longer;
    }

pub returns-in_default-clause-first : goal.returns-in_default-clause-first
returns-in_default-clause-first g c =
    let s = g.A.DaySeq.sketch c.args.seq.now in
    let i = c.loop-end.invariant in
    let at = to_z w64 c.loop-end.at-bits in
    let back = to_z-of_z c.ranges.low in
    let set = subst (λ q. IsSoFar s q c.args.end at c.loop-end.found.items) back i.so_far in
    elim c.in_default.branch [
      | in_default-via-in-Some+else-is_below w ↦
          let fits : FitsSigned w64 w.in-Some.next = search rules in
          let same = to_z-of_z fits in
          let above : IsBelow c.args.end w.in-Some.next → ⊥ = λ below.
          (let h = w.is_below.ensures.1 (subst (IsBelow c.args.end) (sym same) below) in
          let f = w.if-is_below.false in
          absurd (cc)) in
          no_more_below s c.args.low c.args.end at w.in-Some.next c.args.count c.loop-end.found.items set i.few w.in-Some.ensures.some above
      | in_default-via-in_default w ↦ no_more s c.args.low c.args.end at c.args.count c.loop-end.found.items set i.few w.in_default.ensures.none
    ]

pub returns-in_default-clause-near : goal.returns-in_default-clause-near
returns-in_default-clause-near g c =
    let s = g.A.DaySeq.sketch c.args.seq.now in
    let i = c.loop-end.invariant in
    near_so_far s _ c.args.end (to_z w64 c.loop-end.at-bits) c.loop-end.found.items i.so_far (omega (arith, ints, i.near, i.few, c.requires.few))

pub returns-clause-near : goal.returns-clause-near
returns-clause-near g c =
    let s = g.A.DaySeq.sketch c.args.seq.now in
    let i = c.loop-end.invariant in
    near_so_far s _ c.args.end (to_z w64 c.loop-end.at-bits) c.loop-end.found.items i.so_far (omega (arith, ints, i.near, i.few, c.requires.few))

pub returns-clause-first : goal.returns-clause-first
returns-clause-first g c =
    let s = g.A.DaySeq.sketch c.args.seq.now in
    let i = c.loop-end.invariant in
    let at = to_z w64 c.loop-end.at-bits in
    let back = to_z-of_z c.ranges.low in
    let full : length c.loop-end.found.items ≡ c.args.count = omega (arith, i.few, c.loop-end-test.false, c.len.ensures) in
    enough s c.args.low c.args.end at c.args.count c.loop-end.found.items
    (subst (λ q. IsSoFar s q c.args.end at c.loop-end.found.items) back i.so_far) full
