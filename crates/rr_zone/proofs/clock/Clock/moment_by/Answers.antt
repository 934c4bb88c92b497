use Rattle.std.proofs.Common.{FitsSigned, rules, w32, w64, sym, ◌∙◌, to_z-of_z, arith}
use Rattle.std.proofs.lemmas.Int.{ints}
use Rattle.std.specs.Prelude.{pos, ◌+ℤ◌, ◌-ℤ◌, IfSome, Some}
use Rattle.rr_zone.specs.Tables.{IsUpTo}
use Rattle.rr_zone.proofs.MomentLemmas.{between-years, by-early, by-late}
use Rattle.rr_zone.proofs.clock.Clock.moment_by.Goals as goal

pub returns-then-onset-less-clause-value : goal.returns-then-onset-less-clause-value
returns-then-onset-less-clause-value c =
    let less : FitsSigned w64 c.less.result = record { sfits = c.less.type_inv } in
    let at : FitsSigned w64 c.in-Some.onset.at = search rules in
    let to : FitsSigned w32 c.in-Some.onset.to = search rules in
    rw c.in-Some.is
    (by-early c.args.self.now c.args.local c.less.result c.in-Some.onset (rw (to_z-of_z c.ranges.local) at c.less.ensures)
    c.moment_at_offset-then-onset-less.result (rw (to_z-of_z at, to_z-of_z less) at c.if-onset-less.true)
    (rw (to_z-of_z c.ranges.local, to_z-of_z to) at c.moment_at_offset-then-onset-less.ensures.value))

pub last-requires : goal.last-requires
last-requires c =
    let less : FitsSigned w64 c.less.result = record { sfits = c.less.type_inv } in
    let before : FitsSigned w64 c.less-2.result = record { sfits = c.less-2.type_inv } in
    let at : FitsSigned w64 c.in-Some.onset.at = search rules in
    let up_to : IsUpTo (c.args.local +ℤ pos 86_400) c.in-Some.onset = rw c.in-Some.is at c.requires.last in
    let day = rw (to_z-of_z c.ranges.local) at c.less.ensures in
    let one = rw (to_z-of_z at) at c.less-2.ensures in
    let late = rw (to_z-of_z at, to_z-of_z less) at c.if-onset-less.false in
    let early = up_to.early in
    rw (to_z-of_z before)
    (between-years (c.args.local -ℤ pos 86_400) (c.args.local +ℤ pos 86_400) c.less-2.result c.requires.early c.requires.late
    (omega (arith, ints, day, one, late)) (omega (arith, ints, one, early)))

pub returns-clause-value : goal.returns-clause-value
returns-clause-value c =
    let less : FitsSigned w64 c.less.result = record { sfits = c.less.type_inv } in
    let before : FitsSigned w64 c.less-2.result = record { sfits = c.less-2.type_inv } in
    let at : FitsSigned w64 c.in-Some.onset.at = search rules in
    rw c.in-Some.is
    (by-late c.args.self.now c.args.local c.less.result c.in-Some.onset (rw (to_z-of_z c.ranges.local) at c.less.ensures)
    c.moment_about.result c.first-2.result c.in_ok-previous.previous (rw (to_z-of_z at, to_z-of_z less) at c.if-onset-less.false)
    (rw c.in_ok-previous.ensures.zone at c.first-2.ensures) (rw (to_z-of_z before, c.less-2.ensures, to_z-of_z at) at c.in_ok-previous.ensures.onset)
    (rw (to_z-of_z c.ranges.local) at c.moment_about.ensures.value))
