use Rattle.std.proofs.Common.{rules, arith, sym, ap, ◌∙◌, ◌≡◌, pos, ◌+ℤ◌, w64, to_z, of_z, true, false}
use Rattle.std.proofs.lemmas.Int.{ints}
use Rattle.rr_model.specs.declared.kind.Kind.TheVariants.{Days}
use Rattle.rr_model.proofs.StartLemmas.{IsDayWithin-start}
use Rattle.rr_pattern.proofs.DayLemmas.{last_day_high}
use Rattle.rr_model.specs.Graph.Occurrences.{is_pattern_day, first_from, days_up_to}
use Rattle.rr_pattern.proofs.FirstDayLemmas.{search_end, search_found, search_more}
use Rattle.std.proofs.Common.{◌≤ℤ◌, ◌<ℤ◌}
use borrow.Author.Gap.{counting}
use Rattle.rr_pattern.proofs.first_day.first_repeat_day.Goals as goal

pub new-start-requires : goal.new-start-requires
new-start-requires c =
    let n = IsDayWithin-start 1000 Days c.args.range.now.start_day c.requires.start in
    record { near = (omega (arith, ints, n.0, n.1), omega (arith, ints, n.0, n.1)) }

pub is_pattern_day-requires-clause-near : goal.is_pattern_day-requires-clause-near
is_pattern_day-requires-clause-near c =
    let n = IsDayWithin-start 0 Days c.args.range.now.start_day c.requires.start in
    let high = last_day_high c.args.range.now.end in (
      omega (arith, ints, n.0, c.loop-next.invariant.0, c.new-day.ensures),
      omega (arith, ints, high, c.last_day_of-last.ensures, c.loop-next-test.true, c.new-day.ensures),
    )

pub returns-then-is_pattern_day : goal.returns-then-is_pattern_day
returns-then-is_pattern_day c =
    let test = is_pattern_day c.args.pattern.now c.args.range.now.start_day in
    let next = to_z w64 c.loop-next.next-bits in
    let last = to_z w64 (of_z w64 c.last_day_of-last.result) in
    let n = IsDayWithin-start 1000 Days c.args.range.now.start_day c.requires.start in
    let start : c.new-start.result.number ≡ c.args.range.now.start_day = omega (arith, ints, c.new-start.ensures, n.0, n.1) in
    let l : next ≤ℤ last = omega (arith, ints, c.loop-next-test.true) in
    let passes : test next ≡ true = ap test (sym c.new-day.ensures) ∙ ap (λ s. is_pattern_day c.args.pattern.now s c.new-day.result.number) (sym start)
    ∙ sym c.is_pattern_day.ensures ∙ c.if-is_pattern_day.true in
    sym (c.loop-next.invariant.1 ∙ search_found test next last l passes)

pub loop-next-smaller : goal.loop-next-smaller
loop-next-smaller c = search (rules, counting)

pub loop-next-preserved : goal.loop-next-preserved
loop-next-preserved c =
    let test = is_pattern_day c.args.pattern.now c.args.range.now.start_day in
    let next = to_z w64 c.loop-next.next-bits in
    let last = to_z w64 (of_z w64 c.last_day_of-last.result) in
    let n = IsDayWithin-start 1000 Days c.args.range.now.start_day c.requires.start in
    let high = last_day_high c.args.range.now.end in
    let start : c.new-start.result.number ≡ c.args.range.now.start_day = omega (arith, ints, c.new-start.ensures, n.0, n.1) in
    let l : next ≤ℤ last = omega (arith, ints, c.loop-next-test.true) in
    let fails : test next ≡ false = ap test (sym c.new-day.ensures) ∙ ap (λ s. is_pattern_day c.args.pattern.now s c.new-day.result.number) (sym start)
    ∙ sym c.is_pattern_day.ensures ∙ c.if-is_pattern_day.false in
    let x = to_z w64 (of_z w64 (next +ℤ pos 1)) in
    let at : next +ℤ pos 1 ≡ x = omega (arith, ints, l, high, c.last_day_of-last.ensures, n.0, c.loop-next.invariant.0) in (
      omega (arith, ints, at, c.loop-next.invariant.0),
      c.loop-next.invariant.1 ∙ search_more test next last l fails ∙ ap (λ q. first_from test q (days_up_to q last)) at,
    )

pub returns : goal.returns
returns c =
    let test = is_pattern_day c.args.pattern.now c.args.range.now.start_day in
    let next = to_z w64 c.loop-next.next-bits in
    let last = to_z w64 (of_z w64 c.last_day_of-last.result) in
    let h : last <ℤ next = omega (arith, ints, c.loop-next-test.false) in
    sym (c.loop-next.invariant.1 ∙ search_end test next last h)
