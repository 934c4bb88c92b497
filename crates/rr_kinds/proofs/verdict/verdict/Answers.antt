use Rattle.std.proofs.Common.{ℤ, sym, subst, ◌∙◌}
use Rattle.std.proofs.lemmas.Bool.{false≢true}
use Rattle.rr_model.specs.Series.Occurrences.{Occurs}
use Rattle.rr_model.specs.Sets.Verdict.{IsEqualVerdict}
use Rattle.rr_model.specs.declared.rule.Series.{Series}
use Rattle.rr_model.specs.declared.verdict.Side.TheVariants.{A, B}
use Rattle.rr_model.specs.declared.verdict.Verdict.TheVariants.{No}
use Rattle.rr_model.proofs.BackLemmas.{in_years_back}
use Rattle.rr_model.proofs.StartLemmas.{IsDayWithin-start}
use Rattle.rr_kinds.proofs.StartLemmas.{begin_together, first_begins, second_begins}
use Rattle.rr_kinds.proofs.verdict.verdict.Goals as goal

pub returns-then-begins_before-clause-verdict : goal.returns-then-begins_before-clause-verdict
returns-then-begins_before-clause-verdict c =
    let a : Series = c.args.a.now in
    let b : Series = c.args.b.now in
    let r = c.requires in
    subst (λ (t : ℤ). IsEqualVerdict (Occurs a) (Occurs b) (No a.kind t A)) (sym (in_years_back a.kind a.start r.sound_a.valid.start))
    (first_begins a b r.first r.second r.sound_a r.sound_b (c.begins_before.ensures.0 c.if-begins_before.true))

pub returns-then-begins_before-2-clause-verdict : goal.returns-then-begins_before-2-clause-verdict
returns-then-begins_before-2-clause-verdict c =
    let a : Series = c.args.a.now in
    let b : Series = c.args.b.now in
    let r = c.requires in
    subst (λ (t : ℤ). IsEqualVerdict (Occurs a) (Occurs b) (No b.kind t B)) (sym (in_years_back b.kind b.start r.sound_b.valid.start))
    (second_begins a b r.first r.second r.sound_a r.sound_b (c.begins_before-2.ensures.0 c.if-begins_before-2.true))

pub verdict_from_one_start-requires-clause-together : goal.verdict_from_one_start-requires-clause-together
verdict_from_one_start-requires-clause-together c =
    begin_together c.args.a.now c.args.b.now c.requires.first c.requires.second c.requires.sound_a c.requires.sound_b
    (λ o. false≢true (sym c.if-begins_before.false ∙ c.begins_before.ensures.1 o))
    (λ o. false≢true (sym c.if-begins_before-2.false ∙ c.begins_before-2.ensures.1 o))

pub returns-then-begins_before-clause-day : goal.returns-then-begins_before-clause-day
returns-then-begins_before-clause-day c =
    let a : Series = c.args.a.now in
    rw (in_years_back a.kind a.start c.requires.sound_a.valid.start) (IsDayWithin-start 0 a.kind a.start c.requires.sound_a.valid.start)

pub returns-then-begins_before-2-clause-day : goal.returns-then-begins_before-2-clause-day
returns-then-begins_before-2-clause-day c =
    let b : Series = c.args.b.now in
    rw (in_years_back b.kind b.start c.requires.sound_b.valid.start) (IsDayWithin-start 0 b.kind b.start c.requires.sound_b.valid.start)
