-- What a text in the language of a translation states when it is read again.
use Rattle.std.specs.Prelude.{◌≡◌, ℕ, List, None, Result, Ok}
use Rattle.rr_model.specs.Graph.Counterpart.{series_of_graph}
use Rattle.rr_model.specs.Graph.Reading.{reads_graph}
use Rattle.rr_model.specs.Moment.{Occurrences}
use Rattle.rr_model.specs.Series.Occurrences.{Occurs}
use Rattle.rr_model.specs.Series.Soundness.{first_refusal}
use Rattle.rr_model.specs.Sets.Verdict.{HaveEqualOccurrences}
use Rattle.rr_rule_parts.specs.Calendars.{reads_calendar}
use Rattle.rr_model.specs.Text.RuleValues.{◌>>=◌}
use Rattle.rr_model.specs.Vcal.Counterpart.{series_of_vseries}
use Rattle.rr_model.specs.Vcal.Reading.{reads_vcal}
use Rattle.rr_model.specs.declared.lang.Lang.{Lang}
use Rattle.rr_model.specs.declared.lang.Lang.TheVariants.{Rrule, Vcal, Graph}
use Rattle.rr_model.specs.declared.refusal.Refusal.{Refusal}
use Rattle.rr_model.specs.declared.rule.Series.{Series}

-- what the bytes state in this language, without an offset, as a series of RFC 5545
abbrev pub reads_in : Lang → List ℕ → Result Series Refusal
reads_in Rrule bytes = reads_calendar None bytes
reads_in Vcal bytes = reads_vcal None bytes >>= λ series. Ok (series_of_vseries series)
reads_in Graph bytes = reads_graph None bytes >>= λ event. Ok (series_of_graph event)

-- Read again, the text is not refused, nor is a rule of it beside its start, and it has exactly these occurrences.
pub record States (target : Lang) (P : Occurrences) (text : List ℕ) : Type 0 where
  pub series : Series
  pub is_read : reads_in target text ≡ Ok series
  pub sound : first_refusal series ≡ None
  pub equal : HaveEqualOccurrences (Occurs series) P
