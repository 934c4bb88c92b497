use Rattle.std.proofs.Common.{FitsSigned, w32, w64, sym, ◌∙◌, to_z-of_z}
use Rattle.rr_zone.proofs.MomentLemmas.{about-none, about-some}
use Rattle.rr_zone.proofs.clock.moment_about.Goals as goal

pub returns-then-not-is_over-clause-value : goal.returns-then-not-is_over-clause-value
returns-then-not-is_over-clause-value c =
    let less : FitsSigned w64 c.less.result = record { sfits = c.less.type_inv } in
    about-none c.args.first c.args.previous c.args.onset c.args.local c.less.result (rw (to_z-of_z c.ranges.local) at c.less.ensures)
    (sym (rw (to_z-of_z less) at c.is_over.ensures) ∙ c.if-not-is_over.true)

pub returns-clause-value : goal.returns-clause-value
returns-clause-value c =
    let less : FitsSigned w64 c.less.result = record { sfits = c.less.type_inv } in
    let before : FitsSigned w32 c.offset_from-before.result = record { sfits = c.offset_from-before.type_inv } in
    let offset : FitsSigned w32 c.offset_about.result = record { sfits = c.offset_about.type_inv } in
    about-some c.args.first c.args.previous c.args.onset c.args.local c.less.result (rw (to_z-of_z c.ranges.local) at c.less.ensures)
    c.moment_at_offset.result c.offset_from-before.result c.offset_about.result
    (sym (rw (to_z-of_z less) at c.is_over.ensures) ∙ c.if-not-is_over.false) c.offset_from-before.ensures
    (rw (to_z-of_z before, to_z-of_z c.ranges.local) at c.offset_about.ensures)
    (rw (to_z-of_z c.ranges.local, to_z-of_z offset) at c.moment_at_offset.ensures.value)
