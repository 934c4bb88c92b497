use Rattle.std.proofs.Common.{rules, ap, ◌∙◌, w64, to_z-of_z, FitsSigned}
use Rattle.rr_model.specs.Sets.Tree.{dates_of}
use Rattle.rr_model.specs.declared.kind.Kind.TheVariants.{Moments}
use Rattle.rr_zone.proofs.TableLemmas.{given_dates, given_kind, given_tree}
use Rattle.rr_zone.proofs.onsets.onsets_of.Goals as goal

pub new-dates-requires : goal.new-dates-requires
new-dates-requires c = record { in_years = given_dates c.args.series.now _ c.requires.kind c.requires.valid c.in_ok-dates_of.ensures }

pub new-requires-clause-one_kind : goal.new-requires-clause-one_kind
new-requires-clause-one_kind c =
    let fits : FitsSigned w64 c.args.series.now.start = search rules in
    given_kind c.args.series.now _ _ c.requires.kind c.requires.valid c.requires.rules
    (c.new-dates.ensures.tree ∙ ap (dates_of Moments) c.in_ok-dates_of.ensures)
    (rw (to_z-of_z fits, c.as_slice.ensures) at c.in_ok-rules.ensures.tree)

pub listed-requires-clause-knows : goal.listed-requires-clause-knows
listed-requires-clause-knows c sets = c.new.ensures.knows sets (c.new-dates.ensures.knows sets) (c.in_ok-rules.ensures.knows sets)

pub returns : goal.returns
returns c =
    let fits : FitsSigned w64 c.args.series.now.start = search rules in
    let whole = given_tree c.args.series.now _ _ _ c.requires.kind (c.new-dates.ensures.tree ∙ ap (dates_of Moments) c.in_ok-dates_of.ensures)
    (rw (to_z-of_z fits, c.as_slice.ensures) at c.in_ok-rules.ensures.tree) c.new.ensures.tree in
    rw (whole, to_z-of_z c.ranges.from, to_z-of_z c.ranges.last) at c.listed.ensures
