-- Laws of vCalendar 1.0: a rule and a series have what their counterparts have, and what is written is read back.
use Rattle.std.specs.Prelude.{◌≡◌, ◌↔◌, ℤ, int_lt, None, Ok, All}
use Rattle.rr_model.specs.Rising.{Rises}
use Rattle.rr_model.specs.Rule.Chosen.{IsSynchronised}
use Rattle.rr_model.specs.Rule.Member.{IsMember}
use Rattle.rr_model.specs.Series.Occurrences.{Occurs}
use Rattle.rr_model.specs.Vcal.Counterpart.{rule_of_vrule, series_of_vseries}
use Rattle.rr_model.specs.Vcal.Items.{item_lt}
use Rattle.rr_model.specs.Vcal.Members.{IsVcalMember, IsVcalSynchronised, OccursInVseries}
use Rattle.rr_model.specs.Vcal.Reading.{reads_vcal}
use Rattle.rr_model.specs.Vcal.Validity.{IsValidVRule, IsValidVSeries}
use Rattle.rr_model.specs.Vcal.Written.{vcal_written}
use Rattle.rr_model.specs.declared.kind.Kind.{Kind}
use Rattle.rr_model.specs.declared.vcal.VRule.{VRule}
use Rattle.rr_model.specs.declared.vcal.VSeries.{VSeries}

-- A valid rule and its counterpart have the same members.
abbrev pub CounterpartHasMembers : Type 0
CounterpartHasMembers =
    (rule : VRule) (kind : Kind) (start t : ℤ) → IsValidVRule rule → IsVcalMember rule kind start t ↔ IsMember (rule_of_vrule rule kind start) kind start t

-- A valid rule is synchronised exactly if its counterpart is.
abbrev pub CounterpartIsSynchronised : Type 0
CounterpartIsSynchronised =
    (rule : VRule) (kind : Kind) (start : ℤ) → IsValidVRule rule
    → IsVcalSynchronised rule kind start ↔ IsSynchronised (rule_of_vrule rule kind start) kind start

-- A valid series and its counterpart have the same occurrences.
abbrev pub VcalCounterpartHasOccurrences : Type 0
VcalCounterpartHasOccurrences =
    (series : VSeries) (kind : Kind) (t : ℤ) → IsValidVSeries series → OccursInVseries series kind t ↔ Occurs (series_of_vseries series) kind t

-- ---- what is written

-- each list of the series rises (as the list types of the model always do)
pub record IsWritable (series : VSeries) : Type 0 where
  pub items : All (λ rule. Rises item_lt rule.items) series.rules
  pub excluded : All (λ rule. Rises item_lt rule.items) series.excluded
  pub plus : Rises int_lt series.plus
  pub minus : Rises int_lt series.minus

-- A valid series is read back from its text.
abbrev pub VcalIsReadBack : Type 0
VcalIsReadBack = (series : VSeries) → IsValidVSeries series → IsWritable series → reads_vcal None (vcal_written series) ≡ Ok series
