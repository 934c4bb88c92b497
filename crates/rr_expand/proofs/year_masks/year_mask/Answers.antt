use Rattle.std.proofs.Common.{◌≡◌, ◌∙◌, ◌+◌, ◌%◌, ◌&&◌, pos, ◌+ℤ◌, arith, ℤ, FitsSigned, w64, to_z, of_z, sym, to_z-of_z, ap}
use Rattle.std.specs.Prelude.{nat_lt}
use Rattle.std.specs.List.{list_any}
use Rattle.rr_model.specs.Calendar.{days_in_year, first_day_of_year, weekday_of}
use Rattle.rr_model.proofs.CalendarLemmas.{days_in_year_bounds, first_day_of_year-next, weekday_of_below}
use Rattle.rr_expand.specs.LeftOut.{has_weekday}
use Rattle.rr_expand.proofs.LeftOutLemmas.{weekday_of-later, weekdays_alone}
use Rattle.rr_expand.proofs.year_masks.year_mask.Goals as goal

first_is : (first begin year stored : ℤ) → FitsSigned w64 begin → first ≡ to_z w64 (of_z w64 begin) → begin ≡ first_day_of_year stored → stored ≡ year
    → first ≡ first_day_of_year year
first_is first begin year stored fits first_at begin_at year_is = first_at ∙ to_z-of_z fits ∙ begin_at ∙ ap first_day_of_year year_is

pub new-first-requires : goal.new-first-requires
new-first-requires c =
    let fits : FitsSigned w64 c.new_year.result = record { sfits = c.new_year.type_inv } in
    let at : c.new_year.result ≡ first_day_of_year c.args.year = c.new_year.ensures ∙ ap first_day_of_year (to_z-of_z c.ranges.year) in
    rw (to_z-of_z fits, at) (record { near = c.requires.first })

pub weekday_mask-requires-clause-weekday : goal.weekday_mask-requires-clause-weekday
weekday_mask-requires-clause-weekday c = rw c.new-first.result.of_weekday (weekday_of_below c.new-first.result.number)

pub mask_from-requires-clause-count : goal.mask_from-requires-clause-count
mask_from-requires-clause-count c = omega (arith, c.days_in_year-count.ensures, (days_in_year_bounds (to_z w64 (of_z w64 c.args.year))).1)

pub mask_from-requires-clause-last : goal.mask_from-requires-clause-last
mask_from-requires-clause-last c =
    let year = to_z-of_z c.ranges.year in
    let first : c.new-first.result.number ≡ first_day_of_year c.args.year = first_is _ _ _ _ (record { sfits = c.new_year.type_inv }) c.new-first.ensures c.new_year.ensures year in
    let count : c.days_in_year-count.result ≡ days_in_year c.args.year = c.days_in_year-count.ensures ∙ ap days_in_year year in
    rw (first, count) (rw first_day_of_year-next at c.requires.next)

pub returns-then-names_weekdays_alone : goal.returns-then-names_weekdays_alone
returns-then-names_weekdays_alone c k low =
    let rule = c.args.rule.now in
    let year = to_z-of_z c.ranges.year in
    let first = c.new-first.result in
    let number : first.number ≡ first_day_of_year c.args.year = first_is _ _ _ _ (record { sfits = c.new_year.type_inv }) c.new-first.ensures c.new_year.ensures year in
    let count : c.days_in_year-count.result ≡ days_in_year c.args.year = c.days_in_year-count.ensures ∙ ap days_in_year year in
    let alone = weekdays_alone rule c.args.start_day (first_day_of_year c.args.year +ℤ pos k)
    (sym c.names_weekdays_alone.ensures ∙ c.if-names_weekdays_alone.true) in
    let weekday : (first.weekday + k) % 7 ≡ weekday_of (first_day_of_year c.args.year +ℤ pos k) =
    ap (λ w. (w + k) % 7) (first.of_weekday ∙ ap weekday_of number) ∙ sym (weekday_of-later (first_day_of_year c.args.year) k) in
    c.weekday_mask.ensures k low ∙ ap (λ n. nat_lt k n && list_any (has_weekday ((first.weekday + k) % 7)) rule.by_day) count
    ∙ ap (λ b. nat_lt k (days_in_year c.args.year) && b) (ap (λ w. list_any (has_weekday w) rule.by_day) weekday ∙ sym alone)

pub returns-else-names_weekdays_alone : goal.returns-else-names_weekdays_alone
returns-else-names_weekdays_alone c =
    let year = to_z-of_z c.ranges.year in
    let first : c.new-first.result.number ≡ first_day_of_year c.args.year = first_is _ _ _ _ (record { sfits = c.new_year.type_inv }) c.new-first.ensures c.new_year.ensures year in
    let count : c.days_in_year-count.result ≡ days_in_year c.args.year = c.days_in_year-count.ensures ∙ ap days_in_year year in
    let start : c.new.result.number ≡ c.args.start_day = c.new.ensures ∙ to_z-of_z c.ranges.start_day in
    rw (first, count, start) at c.mask_from.ensures
