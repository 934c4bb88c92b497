use Rattle.std.proofs.Common.{rules, ◌≡◌, ◌≤ℤ◌, get_or, pos, arith, w64, to_z, of_z, to_z-of_z, FitsSigned, ◌∙◌}
use Rattle.std.proofs.lemmas.Int.{ints}
use Rattle.rr_model.specs.Moment.{day_part}
use Rattle.rr_lazy.specs.Stretch.{IsFirstFrom}
use Rattle.rr_lazy.proofs.StretchLemmas.{date_none, date_some}
use Rattle.rr_lazy.proofs.stretch.first_date.Goals as goal

pub returns-then-index-dates : goal.returns-then-index-dates
returns-then-index-dates c =
    let f : IsFirstFrom c.args.kind c.args.dates.now c.args.from c.first_from-index.result = rw (to_z-of_z c.ranges.from) at c.first_from-index.ensures in
    date_none c.args.kind c.args.dates.now c.requires c.args.from c.args.to c.first_from-index.result f (λ l. absurd (omega (arith, c.if-index-dates.true)))

pub returns-then-day-to : goal.returns-then-day-to
returns-then-day-to c =
    let fits : FitsSigned w64 c.day_part-day.result = record { sfits = c.day_part-day.type_inv } in
    let e : c.day_part-day.result ≡ day_part c.args.kind (get_or c.args.dates.now c.first_from-index.result (pos 0)) = search rules in
    let d : to_z w64 (of_z w64 c.day_part-day.result) ≡ day_part c.args.kind (get_or c.args.dates.now c.first_from-index.result (pos 0)) = to_z-of_z fits ∙ e in
    let t = to_z-of_z c.ranges.to in
    let f : IsFirstFrom c.args.kind c.args.dates.now c.args.from c.first_from-index.result = rw (to_z-of_z c.ranges.from) at c.first_from-index.ensures in
    date_none c.args.kind c.args.dates.now c.requires c.args.from c.args.to c.first_from-index.result f (λ l. grind (arith, ints, d, t, c.if-day-to.true))

pub returns : goal.returns
returns c =
    let fits : FitsSigned w64 c.day_part-day.result = record { sfits = c.day_part-day.type_inv } in
    let e : c.day_part-day.result ≡ day_part c.args.kind (get_or c.args.dates.now c.first_from-index.result (pos 0)) = search rules in
    let d : to_z w64 (of_z w64 c.day_part-day.result) ≡ day_part c.args.kind (get_or c.args.dates.now c.first_from-index.result (pos 0)) = to_z-of_z fits ∙ e in
    let t = to_z-of_z c.ranges.to in
    let f : IsFirstFrom c.args.kind c.args.dates.now c.args.from c.first_from-index.result = rw (to_z-of_z c.ranges.from) at c.first_from-index.ensures in
    let h : to_z w64 (of_z w64 c.day_part-day.result) ≤ℤ c.args.to = grind (arith, ints, t, c.if-day-to.false) in
    date_some c.args.kind c.args.dates.now c.requires c.args.from c.args.to c.first_from-index.result f
    (to_z w64 (of_z w64 c.day_part-day.result)) c.if-index-dates.false d h
