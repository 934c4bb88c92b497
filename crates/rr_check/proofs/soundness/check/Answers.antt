use Rattle.std.proofs.Common.{◌≡◌, None, sym, ◌∙◌}
use Rattle.rr_model.specs.Series.Soundness.{first_refusal, rules_refusal, ends_refusal}
use Rattle.rr_check.proofs.SoundnessLemmas.{ends_fit, or_none, rules_fit}
use Rattle.rr_check.proofs.soundness.check.Goals as goal

pub invariant_of-result : goal.invariant_of-result
invariant_of-result c =
    let series = c.args.series in
    let none : first_refusal series ≡ None = sym c.first_refusal.ensures ∙ c.in-None.is in
    let both = or_none (rules_refusal 1 series.kind series.start series.rules) (ends_refusal series.kind series.start series.excluded) none in
    record {
      valid = c.requires.valid;
      rules = rules_fit 1 series.kind series.start series.rules both.0;
      excluded = ends_fit series.kind series.start series.excluded both.1;
    }
