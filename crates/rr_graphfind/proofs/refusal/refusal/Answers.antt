use Rattle.std.proofs.Common.{inl, inr, refl, sym, subst, arith}
use Rattle.rr_model.specs.Graph.Uses.{uses_first_day}
use Rattle.rr_graphfind.specs.Order.{IsRefusal}
use Rattle.rr_graphfind.specs.Search.{Matches}
use Rattle.rr_graphfind.proofs.ApartLemmas.{ends_after, none_from_other_days, none_left_out}
use Rattle.rr_graphfind.proofs.OrderLemmas.{type_bounds}
use Rattle.rr_family.proofs.PlaceLemmas.{weekday_most}
use Rattle.rr_graphfind.proofs.RefusalLemmas.{none_out_of_month, none_unfit, refused_if}
use Rattle.std.proofs.lemmas.Int.{ints}
use Rattle.rr_graphfind.proofs.refusal.refusal.Goals as goal

pub is_passed_over-requires-clause-week : goal.is_passed_over-requires-clause-week
is_passed_over-requires-clause-week g c =
    let p = c.args.pattern.now in
    let most = weekday_most (uses_first_day p.form) p.first_day c.requires.valid.first_day in
    omega (arith, most)

pub is_passed_over-requires-clause-interval : goal.is_passed_over-requires-clause-interval
is_passed_over-requires-clause-interval g c = c.requires.valid.interval_low

pub returns-then-is_passed_over : goal.returns-then-is_passed_over
returns-then-is_passed_over g c =
    let s = g.A.DaySeq.sketch c.args.seq.now in
    let w = c.args.window.now in
    let p = c.args.pattern.now in
    elim (c.is_passed_over.ensures c.if-is_passed_over.true) [
      | inl sunday ↦ none_from_other_days s w p c.requires.known c.requires.valid c.requires.before sunday.0 sunday.1
      | inr out ↦ none_left_out s w p c.requires.known c.requires.valid c.requires.before c.args.divisors.now _ c.requires.divisors refl out
    ]

pub form_cycle-cycle-requires-clause-low : goal.form_cycle-cycle-requires-clause-low
form_cycle-cycle-requires-clause-low g c = c.requires.valid.interval_low

pub form_cycle-cycle-requires-clause-high : goal.form_cycle-cycle-requires-clause-high
form_cycle-cycle-requires-clause-high g c = omega (arith, c.requires.valid.interval_high, (type_bounds c.args.pattern.now.form).1)

pub stretch_of-requires-clause-ends : goal.stretch_of-requires-clause-ends
stretch_of-requires-clause-ends g c = ends_after (g.A.DaySeq.sketch c.args.seq.now) c.args.window.now c.requires.known

pub returns-in_default : goal.returns-in_default
returns-in_default g c =
    none_unfit (g.A.DaySeq.sketch c.args.seq.now) c.args.window.now c.args.pattern.now c.form_cycle-cycle.result c.form_cycle-cycle.ensures.value
    c.in_default.ensures

pub returns-then-is_out_of_month : goal.returns-then-is_out_of_month
returns-then-is_out_of_month g c =
    let stretch = c.in-Some.stretch in
    let known = c.in-Some.ensures in
    let out = c.is_out_of_month.ensures in
    let test = c.if-is_out_of_month.true in
    let early = stretch.not_early in
    let late = stretch.not_late in
    none_out_of_month (g.A.DaySeq.sketch c.args.seq.now) c.args.window.now c.args.pattern.now c.form_cycle-cycle.result c.form_cycle-cycle.ensures.value
    stretch.days stretch.start.number known.0 known.1 known.2 stretch.start.number (omega (arith, ints)) (omega (arith, ints, early, late))
    (out.occupied test) (out.uses test) (out.out test)

pub returns : goal.returns
returns g c =
    let s = g.A.DaySeq.sketch c.args.seq.now in
    let w = c.args.window.now in
    let p = c.args.pattern.now in
    let stretch = c.in-Some.stretch in
    let known = c.in-Some.ensures in
    subst (λ found. IsRefusal (Matches s w) p found) (sym c.then_some.ensures)
    (refused_if s w p c.form_cycle-cycle.result c.form_cycle-cycle.ensures.value stretch.days stretch.start.number known.0 known.1 known.2
    c.agrees-has.result c.requires.valid c.agrees-has.ensures)
