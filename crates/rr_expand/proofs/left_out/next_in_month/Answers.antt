use Rattle.std.proofs.Common.{◌≡◌, ◌∙◌, sym, ℕ, Bool, false, ◌<◌, ◌≤◌, ◌-◌, ◌+◌, ◌%◌, pos, ◌+ℤ◌, [], ◌∷◌, arith}
use Rattle.std.specs.List.{list_any}
use Rattle.rr_model.specs.Rule.Candidate.{allows_signed}
use Rattle.rr_model.specs.Rule.Filled.{filled_rule}
use Rattle.rr_model.specs.declared.kind.Kind.TheVariants.{Days}
use Rattle.rr_expand.specs.LeftOut.{has_weekday}
use Rattle.rr_expand.specs.Years.{allows_day}
use Rattle.rr_expand.proofs.LeftOutLemmas.{month_same, not_in_month, not_own, next_first, next_same, unlisted}
use Rattle.rr_expand.proofs.left_out.next_in_month.Goals as goal

pub returns-then-leaves_out_month : goal.returns-then-leaves_out_month
returns-then-leaves_out_month c =
    let day = c.args.day.now in
    let rule = c.args.rule.now in
    let start = c.args.start.now.number in
    record {
      later = c.requires;
      within = omega arith;
      none = λ i a b. not_in_month (filled_rule rule Days start) (day.number +ℤ pos (i - day.day_of_month))
          (c.leaves_out_month.ensures c.if-leaves_out_month.true _
          (month_same rule start day.number day.day_of_month day.days_in_month i day.of_day_of_month day.of_days_in_month a (omega (arith, b))));
    }

pub returns-then-not-is_empty : goal.returns-then-not-is_empty
returns-then-not-is_empty c =
    let day = c.args.day.now in
    let rule = c.args.rule.now in
    let start = c.args.start.now.number in
    next_same (λ i. allows_signed rule.by_month_day (pos i) (pos day.days_in_month))
    (λ i. allows_day (record { rule = rule; start_day = start }) (day.number +ℤ pos (i - day.day_of_month))) day.day_of_month day.days_in_month _
    (λ i a b none. unlisted rule start day.number day.day_of_month day.days_in_month i day.of_day_of_month day.of_days_in_month a b
    (sym c.is_empty.ensures ∙ c.if-not-is_empty.true) none)
    c.next_listed.ensures

pub returns-then-fills_month_day : goal.returns-then-fills_month_day
returns-then-fills_month_day c =
    let day = c.args.day.now in
    let rule = c.args.rule.now in
    let start = c.args.start.now.number in
    let fills = c.fills_month_day.ensures c.if-fills_month_day.true in
    next_same (λ i. allows_signed (pos c.args.start.now.day_of_month ∷ []) (pos i) (pos day.days_in_month))
    (λ i. allows_day (record { rule = rule; start_day = start }) (day.number +ℤ pos (i - day.day_of_month))) day.day_of_month day.days_in_month _
    (λ i a b none. not_own rule start day.number day.day_of_month day.days_in_month i day.of_day_of_month day.of_days_in_month a b
    c.args.start.now.day_of_month c.args.start.now.of_day_of_month fills.0 fills.1 none)
    c.next_own.ensures
