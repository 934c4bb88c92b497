-- Limits that are not reached.
use Rattle.std.proofs.Common.{◌≤◌, None, refl, inr, arith}
use Rattle.std.proofs.lemmas.Bool.{false≢true}
use Rattle.rr_model.specs.Series.Cycle.{series_cycle}
use Rattle.rr_model.specs.Series.FirstRefusal.{IsLimitRefusal}
use Rattle.rr_model.specs.declared.lang.Lang.TheVariants.{Rrule}
use Rattle.rr_model.specs.declared.rule.Series.{Series}
use Rattle.rr_model.specs.declared.limits.TheConstants.{MAX_CYCLE_DAYS}
use Rattle.rr_translate.specs.Translated.{limits_of}

-- if the cycle alone is judged, a cycle within the limit is not refused
pub within_cycle : (series : Series) → series_cycle series ≤ MAX_CYCLE_DAYS → IsLimitRefusal (limits_of Rrule) series None
within_cycle series few = inr ((λ h. absurd (omega (arith, h.1, few))), inr ((λ h. false≢true h.0), inr ((λ h. false≢true h.0), refl)))
