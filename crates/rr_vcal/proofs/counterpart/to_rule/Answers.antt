use Rattle.rr_model.specs.Rule.Validity.{IsValidRule}
use Rattle.rr_vcal_laws.proofs.ValidRuleLemmas.{counterpart_is_valid, IfOk-of_value}
use Rattle.rr_vcal.proofs.counterpart.to_rule.Goals as goal

pub returns-clause-valid : goal.returns-clause-valid
returns-clause-valid c =
    let rule = c.args.rule.now in
    IfOk-of_value (IsValidRule c.args.kind) _ c.counterpart_of.result (counterpart_is_valid rule c.args.kind _ c.requires.rule) c.counterpart_of.ensures
