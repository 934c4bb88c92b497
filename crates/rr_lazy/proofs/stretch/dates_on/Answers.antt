use Rattle.std.proofs.Common.{rules, ◌≡◌, get_or, pos, true, nat_eq, of_z, w64, to_z-of_z, sym, ◌∙◌, arith}
use Rattle.std.proofs.lemmas.Bool.{false≢true}
use Rattle.std.proofs.lemmas.Bool.Decides.{nat_tests}
use Rattle.rr_model.specs.Moment.{day_part}
use Rattle.rr_lazy.specs.Stretch.{IsFirstFrom}
use Rattle.rr_lazy.proofs.StretchLemmas.{none_on}
use Rattle.rr_lazy.proofs.stretch.dates_on.Goals as goal

pub returns-then-index-dates : goal.returns-then-index-dates
returns-then-index-dates c =
    let f : IsFirstFrom c.args.kind c.args.dates.now c.args.day c.first_from-index.result = rw (to_z-of_z c.ranges.day) at c.first_from-index.ensures in
    let e : c.day_part.result ≡ day_part c.args.kind (get_or c.args.dates.now c.first_from-index.result (pos 0)) = search rules in
    λ h. none_on c.args.kind c.args.dates.now c.requires c.args.day c.first_from-index.result f (λ l x.
    (let same : nat_eq (of_z w64 c.args.day) (of_z w64 c.args.day) ≡ true = grind (arith, nat_tests) in
    false≢true (sym (rw (e ∙ x) at h) ∙ same)))

pub returns-else-index-dates : goal.returns-else-index-dates
returns-else-index-dates c =
    let f : IsFirstFrom c.args.kind c.args.dates.now c.args.day c.first_from-index.result = rw (to_z-of_z c.ranges.day) at c.first_from-index.ensures in
    λ h. none_on c.args.kind c.args.dates.now c.requires c.args.day c.first_from-index.result f (λ l x. omega (arith, l, c.if-index-dates.false))
