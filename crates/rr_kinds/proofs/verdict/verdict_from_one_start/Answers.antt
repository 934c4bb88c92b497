use Rattle.std.proofs.Common.{arith, ℤ, sym, subst, w64, FitsSigned}
use Rattle.std.proofs.lemmas.Int.{ints}
use Rattle.rr_model.specs.Calendar.{IsDayWithin}
use Rattle.rr_model.specs.Moment.{day_part}
use Rattle.rr_model.specs.Series.Occurrences.{Occurs}
use Rattle.rr_model.specs.Sets.Verdict.{IsEqualVerdict}
use Rattle.rr_model.specs.declared.rule.Series.{Series}
use Rattle.rr_model.specs.declared.verdict.Verdict.TheVariants.{No}
use Rattle.rr_kinds.proofs.VerdictLemmas.{day_stored, moment_stored, named_near, near_stored, no, none_as, same_rule, some_as, yes}
use Rattle.rr_kinds.proofs.verdict.verdict_from_one_start.Goals as goal

pub moment_at-requires : goal.moment_at-requires
moment_at-requires c =
    let near = c.in-Some.ensures.some.near in
    rw (near_stored c.in-Some.found.day near) (omega (arith, ints, near.0), omega (arith, ints, near.1))

pub returns-in-None-clause-verdict : goal.returns-in-None-clause-verdict
returns-in-None-clause-verdict c =
    let a : Series = c.args.a.now in
    let b : Series = c.args.b.now in
    let t = c.requires.together in
    let first = same_rule a.rules c.as_slice.result.now c.index-as_slice-0.result t.first.rule c.as_slice.ensures c.index-as_slice-0.is t.first.alone.one t.first.is_rule in
    let second = same_rule b.rules c.as_slice-2.result.now c.index-as_slice-0-2.result t.second.rule c.as_slice-2.ensures c.index-as_slice-0-2.is t.second.alone.one t.second.is_rule in
    let day = day_stored a.kind a.start c.day_part-day.result c.requires.first.valid.start c.day_part-day.ensures in
    yes a b t c.requires.first c.requires.second (none_as _ t.first.rule _ t.second.rule _ (day_part a.kind a.start) first second day c.in-None.ensures.none)

pub returns-in-Some-clause-verdict : goal.returns-in-Some-clause-verdict
returns-in-Some-clause-verdict c =
    let a : Series = c.args.a.now in
    let b : Series = c.args.b.now in
    let t = c.requires.together in
    let first = same_rule a.rules c.as_slice.result.now c.index-as_slice-0.result t.first.rule c.as_slice.ensures c.index-as_slice-0.is t.first.alone.one t.first.is_rule in
    let second = same_rule b.rules c.as_slice-2.result.now c.index-as_slice-0-2.result t.second.rule c.as_slice-2.ensures c.index-as_slice-0-2.is t.second.alone.one t.second.is_rule in
    let day = day_stored a.kind a.start c.day_part-day.result c.requires.first.valid.start c.day_part-day.ensures in
    let is = some_as _ t.first.rule _ t.second.rule _ (day_part a.kind a.start) first second day c.in-Some.found c.in-Some.ensures.some in
    let fits : FitsSigned w64 c.moment_at.result = record { sfits = c.moment_at.type_inv } in
    let at = moment_stored a.kind a.start c.in-Some.found.day c.moment_at.result c.second_part.result c.requires.first.valid.start is.near fits
    c.moment_at.ensures.value c.second_part.ensures.value in
    subst (λ (m : ℤ). IsEqualVerdict (Occurs a) (Occurs b) (No a.kind m c.in-Some.found.side)) (sym at) (no a b t c.requires.first c.requires.second c.in-Some.found is)

pub returns-in-Some-clause-day : goal.returns-in-Some-clause-day
returns-in-Some-clause-day c =
    let a : Series = c.args.a.now in
    let near = c.in-Some.ensures.some.near in
    let fits : FitsSigned w64 c.moment_at.result = record { sfits = c.moment_at.type_inv } in
    let at = moment_stored a.kind a.start c.in-Some.found.day c.moment_at.result c.second_part.result c.requires.first.valid.start near fits
    c.moment_at.ensures.value c.second_part.ensures.value in
    subst (λ (m : ℤ). IsDayWithin 0 (day_part a.kind m)) (sym at) (named_near a.kind a.start c.in-Some.found.day near)
