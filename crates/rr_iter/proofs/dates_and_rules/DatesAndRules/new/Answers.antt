use Rattle.std.proofs.Common.{rules, sym, ap, ◌∙◌, subst, w64, to_z-of_z, FitsSigned}
use Rattle.std.specs.Prelude.{All}
use Rattle.rr_model.specs.Moment.Years.{IsInYears}
use Rattle.rr_model.specs.Sets.Tree.{dates_of}
use Rattle.rr_iter.proofs.RulesLemmas.{dates_in_years, all_one_kind}
use Rattle.rr_iter.proofs.dates_and_rules.DatesAndRules.new.Goals as goal

pub new-dates-requires : goal.new-dates-requires
new-dates-requires c =
    let series = c.args.series.now in
    record { in_years = subst (All (IsInYears series.kind)) (sym c.in_ok-dates_with_start.ensures) (dates_in_years series c.requires.sound) }

pub new-requires-2-clause-one_kind : goal.new-requires-2-clause-one_kind
new-requires-2-clause-one_kind c =
    let series = c.args.series.now in
    let dates = c.new-dates.ensures.tree ∙ ap (dates_of series.kind) c.in_ok-dates_with_start.ensures in
    let fits : FitsSigned w64 series.start = search rules in
    all_one_kind series _ _ c.requires.sound dates (rw (to_z-of_z fits, c.as_slice.ensures) at c.in_ok-rules.ensures.tree)

pub returns-clause-knows : goal.returns-clause-knows
returns-clause-knows c sets = c.new-2.ensures.knows sets (c.new-dates.ensures.knows sets) (c.in_ok-rules.ensures.knows sets)
