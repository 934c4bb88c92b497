use Rattle.std.proofs.Common.{◌≡◌, w64, to_z, of_z, FitsSigned, to_z-of_z, arith}
use Rattle.std.proofs.lemmas.Int.{ints}
use Rattle.rr_model.specs.Moment.{day_part}
use Rattle.rr_model.proofs.YearLemmas.{four_digit_bounds, year_1}
use Rattle.rr_start.proofs.SearchLemmas.{first_found, late_up_to, none_found}
use Rattle.rr_start.proofs.first_chosen.first_chosen.Goals as goal

pub first_second-requires-clause-high : goal.first_second-requires-clause-high
first_second-requires-clause-high c =
    let day = rw (to_z-of_z c.ranges.last) at c.day_part.ensures in
    let b = four_digit_bounds (day_part c.args.kind c.args.last) c.requires.last in
    omega (arith, ints, day, b.0, b.1)

pub returns-in-None : goal.returns-in-None
returns-in-None c =
    let day = rw (to_z-of_z c.ranges.last) at c.day_part.ensures in
    let b = four_digit_bounds (day_part c.args.kind c.args.last) c.requires.last in
    let to : to_z w64 (of_z w64 c.day_part.result) ≡ day_part c.args.kind c.args.last = omega (arith, ints, day, b.0, b.1) in
    let tree = rw (to_z-of_z c.ranges.start) at c.in_ok-lazy.ensures.tree in
    none_found c.args.rule.now c.args.kind c.args.start c.args.last c.requires.off c.requires.start _ (to_z w64 (of_z w64 c.day_part.result)) tree to
    (rw c.in-None.is at c.in_ok-first_second.ensures)

pub moment_at-first-requires : goal.moment_at-first-requires
moment_at-first-requires c =
    let day = rw (to_z-of_z c.ranges.last) at c.day_part.ensures in
    let b = four_digit_bounds (day_part c.args.kind c.args.last) c.requires.last in
    let f = rw c.in-Some.is at c.in_ok-first_second.ensures in
    (omega (arith, ints, day, b.0, b.1, f.0, f.1, year_1), omega (arith, ints, day, b.0, b.1, f.0, f.1, year_1))

pub returns-then-first-last : goal.returns-then-first-last
returns-then-first-last c =
    let day = rw (to_z-of_z c.ranges.last) at c.day_part.ensures in
    let b = four_digit_bounds (day_part c.args.kind c.args.last) c.requires.last in
    let to : to_z w64 (of_z w64 c.day_part.result) ≡ day_part c.args.kind c.args.last = omega (arith, ints, day, b.0, b.1) in
    let tree = rw (to_z-of_z c.ranges.start) at c.in_ok-lazy.ensures.tree in
    let found = rw c.in-Some.is at c.in_ok-first_second.ensures in
    let fits : FitsSigned w64 c.moment_at-first.result = record { sfits = c.moment_at-first.type_inv } in
    let same = to_z-of_z fits in
    let first = first_found c.args.rule.now c.args.kind c.args.start c.args.last c.requires.off c.requires.start _ (to_z w64 (of_z w64 c.day_part.result))
    c.in-Some.found c.moment_at-first.result c.requires.last tree to found c.moment_at-first.ensures.value in
    rw same (first, omega (arith, ints, c.if-first-last.true, same, to_z-of_z c.ranges.last))

pub returns-else-first-last : goal.returns-else-first-last
returns-else-first-last c =
    let day = rw (to_z-of_z c.ranges.last) at c.day_part.ensures in
    let b = four_digit_bounds (day_part c.args.kind c.args.last) c.requires.last in
    let to : to_z w64 (of_z w64 c.day_part.result) ≡ day_part c.args.kind c.args.last = omega (arith, ints, day, b.0, b.1) in
    let tree = rw (to_z-of_z c.ranges.start) at c.in_ok-lazy.ensures.tree in
    let found = rw c.in-Some.is at c.in_ok-first_second.ensures in
    let fits : FitsSigned w64 c.moment_at-first.result = record { sfits = c.moment_at-first.type_inv } in
    let first = first_found c.args.rule.now c.args.kind c.args.start c.args.last c.requires.off c.requires.start _ (to_z w64 (of_z w64 c.day_part.result))
    c.in-Some.found c.moment_at-first.result c.requires.last tree to found c.moment_at-first.ensures.value in
    late_up_to c.args.rule.now c.args.kind c.args.start c.args.last c.requires.off c.requires.start c.moment_at-first.result first
    (omega (arith, ints, c.if-first-last.false, to_z-of_z fits, to_z-of_z c.ranges.last))
