use Rattle.std.proofs.Common.{◌≡◌, ℤ, w64, to_z, of_z, FitsSigned, to_z-of_z, arith, ◌∙◌}
use Rattle.std.proofs.lemmas.Int.{ints}
use Rattle.rr_model.specs.Moment.{day_part}
use Rattle.rr_model.specs.Moment.Years.{IsInYears}
use Rattle.rr_model.specs.declared.kind.Kind.{Kind}
use Rattle.rr_model.proofs.YearLemmas.{four_digit_bounds}
use Rattle.rr_translate.proofs.UptoCountLemmas.{is_beyond, is_placed}
use Rattle.rr_translate.proofs.one_end.has_members_to.Goals as goal

-- the day of a moment of the years 1 to 9999
day_is : (kind : Kind) (at day : ℤ) → IsInYears kind at → day ≡ day_part kind at → to_z w64 (of_z w64 day) ≡ day_part kind at
day_is kind at day years e =
    let bounds = four_digit_bounds (day_part kind at) years in
    let fits : FitsSigned w64 day = omega (arith, ints, e, bounds.0, bounds.1) in
    to_z-of_z fits ∙ e

pub nth_of-requires-clause-high : goal.nth_of-requires-clause-high
nth_of-requires-clause-high c =
    let day = rw (to_z-of_z c.ranges.at) at c.day_part.ensures in
    let same = day_is c.args.kind c.args.at c.day_part.result c.requires.in_years day in
    let bounds = four_digit_bounds (day_part c.args.kind c.args.at) c.requires.in_years in
    omega (arith, ints, same, bounds.1)

pub returns-in-On : goal.returns-in-On
returns-in-On c =
    let day = rw (to_z-of_z c.ranges.at) at c.day_part.ensures in
    let same = day_is c.args.kind c.args.at c.day_part.result c.requires.in_years day in
    let tree = rw (c.new-members.ensures.tree, c.in_ok-chosen.ensures.tree, c.in-On.is) at c.in_ok-nth.ensures in
    let place = rw (to_z-of_z c.ranges.start, to_z-of_z c.ranges.at, same) at tree in
    is_placed c.args.rule.now c.args.kind c.args.start c.args.at c.requires.sound.in_years c.requires.late c.args.count c.in-On.field-0 place

pub returns-in_default : goal.returns-in_default
returns-in_default c =
    let day = rw (to_z-of_z c.ranges.at) at c.day_part.ensures in
    let same = day_is c.args.kind c.args.at c.day_part.result c.requires.in_years day in
    let tree = rw (c.new-members.ensures.tree, c.in_ok-chosen.ensures.tree, c.in_default.is) at c.in_ok-nth.ensures in
    let place = rw (to_z-of_z c.ranges.start, to_z-of_z c.ranges.at, same) at tree in
    is_beyond c.args.rule.now c.args.kind c.args.start c.args.at c.requires.sound.in_years c.requires.late c.args.count c.in_default.field-0 place
