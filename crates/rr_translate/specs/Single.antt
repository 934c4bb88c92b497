-- The first single rule as a series of vCalendar 1.0.
use Rattle.std.specs.Prelude.{◌≡◌, ℤ}
use Rattle.rr_family.specs.Profile.{IsFirstRule}
use Rattle.rr_model.specs.Moment.{Occurrences}
use Rattle.rr_model.specs.declared.kind.Kind.{Kind}
use Rattle.rr_model.specs.declared.vcal.VRule.{VRule}
use Rattle.rr_model.specs.declared.vcal.VSeries.{VSeries}
use Rattle.rr_translate.specs.Translated.{vseries_of}

-- the series has the first rule of the set alone
pub record IsFirstSeries (P : Occurrences) (series : VSeries) : Type 0 where
  pub rule : VRule
  pub kind : Kind
  pub start : ℤ
  pub is_first : IsFirstRule P rule kind start
  pub same : series ≡ vseries_of rule kind start
