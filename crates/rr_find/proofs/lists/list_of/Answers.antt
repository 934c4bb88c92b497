use Rattle.std.proofs.Common.{subst, sym, ◌∙◌}
use Rattle.std.specs.Prelude.{◌⊎◌}
use Rattle.std.proofs.lemmas.Result.{IfOk-weaker}
use Rattle.rr_family.specs.Lasting.{is_occupied}
use Rattle.rr_family.specs.Sorts.{sort_of_day}
use Rattle.rr_find.specs.Counted.{HasMixed, HasUnsorted, IsTallied}
use Rattle.rr_find.proofs.ListLemmas.{list_of_taken, near_read, no_rule_if_given_up, some_cycle}
use Rattle.rr_find.proofs.RuleLemmas.{no_rule_if_no_days}
use Rattle.rr_find.proofs.TallyDayLemmas.{few_days}
use Rattle.rr_find.proofs.lists.list_of.Goals as goal

pub returns-in_default : goal.returns-in_default
returns-in_default g c =
    no_rule_if_no_days (g.A.DaySeq.sketch c.args.seq.now) c.args.window.now c.args.kind c.args.interval (g.met.A.DaySeq.bounded c.args.seq.now).valid
    c.requires.window (some_cycle c.args.kind c.args.interval c.requires.low) (sym c.days_to_read.ensures.value ∙ c.in_default.is)

pub taken_items-requires-clause-few : goal.taken_items-requires-clause-few
taken_items-requires-clause-few g c = few_days c.in-Some-tally.counts.occupied _ _ _ _ c.in-Some-tally.ensures.of_occupied c.in-Some.ensures.few

pub taken_items-requires-clause-free_few : goal.taken_items-requires-clause-free_few
taken_items-requires-clause-free_few g c = few_days c.in-Some-tally.counts.free _ _ _ _ c.in-Some-tally.ensures.of_free c.in-Some.ensures.few

pub returns-in-Some-tally : goal.returns-in-Some-tally
returns-in-Some-tally g c =
    let s = g.A.DaySeq.sketch c.args.seq.now in
    let w = c.args.window.now in
    let tallied = subst (λ d. IsTallied c.in-Some-tally.counts.occupied c.in-Some-tally.counts.free (sort_of_day c.args.kind c.args.interval d)
    (is_occupied s) d c.in-Some.days)
    (near_read w.first c.requires.near.first) c.in-Some-tally.ensures in
    IfOk-weaker c.taken_items.result _ _
    (λ items t. list_of_taken s w c.args.kind c.args.interval c.in-Some.days (g.met.A.DaySeq.bounded c.args.seq.now).valid c.requires.window
    c.requires.low c.requires.high
    (some_cycle c.args.kind c.args.interval c.requires.low) (sym c.days_to_read.ensures.value ∙ c.in-Some.is) c.in-Some.ensures.few
    c.in-Some-tally.counts.occupied c.in-Some-tally.counts.free items tallied t) c.taken_items.ensures

pub returns-in-None : goal.returns-in-None
returns-in-None g c =
    let s = g.A.DaySeq.sketch c.args.seq.now in
    let w = c.args.window.now in
    let lost = subst (λ d. HasUnsorted (sort_of_day c.args.kind c.args.interval d) (is_occupied s) d c.in-Some.days
    ⊎ HasMixed (sort_of_day c.args.kind c.args.interval d) (is_occupied s) d c.in-Some.days)
    (near_read w.first c.requires.near.first) c.in-None.ensures in
    no_rule_if_given_up s w c.args.kind c.args.interval c.in-Some.days (g.met.A.DaySeq.bounded c.args.seq.now).valid c.requires.window c.requires.low
    c.requires.high
    (some_cycle c.args.kind c.args.interval c.requires.low) (sym c.days_to_read.ensures.value ∙ c.in-Some.is) c.in-Some.ensures.few lost
