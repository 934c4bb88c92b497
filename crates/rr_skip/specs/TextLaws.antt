-- A law of what a calendar text states whose rule has RSCALE (RFC 7529, section 4.1).
use Rattle.std.specs.Prelude.{◌≡◌, ◌↔◌, ℕ, Bool, true, false, not, ⊤, ℤ, List, ◌∷◌, ◌++◌, Option, None, Some, Ok, filter}
use Rattle.rr_model.specs.Series.Occurrences.{Occurs}
use Rattle.rr_rule_parts.specs.Calendars.{calendar_text}
use Rattle.rr_model.specs.Text.Event.{event_scan, used_line}
use Rattle.rr_model.specs.Text.Lines.{without_mark}
use Rattle.rr_model.specs.Text.RuleValues.{pieces}
use Rattle.rr_model.specs.Text.Rules.{split_once, line_value}
use Rattle.rr_rule_parts.specs.Rules.{is_extension, without_last_semicolon}
use Rattle.rr_model.specs.declared.kind.Kind.{Kind}
use Rattle.rr_model.specs.declared.refusal.Refusal.{Refusal}
use Rattle.rr_model.specs.declared.rule.Series.{Series}
use Rattle.rr_model.specs.declared.used.LineName.TheVariants.{Rrule}
use Rattle.rr_model.specs.declared.used.UsedLine.{UsedLine}
use Rattle.rr_skip.specs.Members.{OccursSkipping}
use Rattle.rr_skip.specs.Reading.{skip_text}
use Rattle.rr_skip.specs.declared.series.Skip.TheVariants.{Omit}
use Rattle.rr_skip.specs.declared.series.SkipRule.{SkipRule}
use Rattle.rr_skip.specs.declared.series.SkipSeries.{SkipSeries}

-- the parts that a rule's value has
abbrev pub parts_in : List ℕ → List (List ℕ)
parts_in value = pieces 59 (without_last_semicolon (line_value value))

-- what stands before an equals sign is neither RSCALE nor SKIP
abbrev pub is_plain_name : Option (List ℕ × List ℕ) → Bool
is_plain_name None = true
is_plain_name (Some sides) = not (is_extension sides.0)

-- the part is neither RSCALE nor SKIP
abbrev pub is_plain_part : List ℕ → Bool
is_plain_part text = is_plain_name (split_once 61 text)

-- the second value has the parts of the first but RSCALE and SKIP
abbrev pub IsWithoutScale : List ℕ → List ℕ → Type 0
IsWithoutScale value plain = parts_in plain ≡ filter is_plain_part (parts_in value)

-- the text has these used lines, a rule of this value among them, and this fault of its components, if there is one
abbrev pub HasRuleValue : List ℕ → List UsedLine → ℕ → List ℕ → List UsedLine → Option Refusal → Type 0
HasRuleValue text before number value after stop =
    event_scan false (without_mark text) ≡ record { used = before ++ used_line number Rrule value ∷ after; stop = stop }

-- the rule leaves out the days which a month lacks
abbrev pub Omits : Option SkipRule → Type 0
Omits None = ⊤
Omits (Some rule) = rule.skip ≡ Omit

-- the text is read without RSCALE, and what occurs there is what occurs in the series
abbrev pub StatesThat : Option ℤ → List ℕ → SkipSeries → Type 0
StatesThat offset text series = (plain : Series) × (calendar_text offset text ≡ Ok plain) × ((k : Kind) (t : ℤ) → OccursSkipping series k t ↔ Occurs plain k t)

-- With SKIP=OMIT, written or not, the same text without RSCALE and SKIP has the same occurrences.
abbrev pub OmittingTextIsPlain : Type 0
OmittingTextIsPlain =
    (offset : Option ℤ) (text other : List ℕ) (before after : List UsedLine) (number : ℕ) (value plain : List ℕ) (stop : Option Refusal) (series : SkipSeries)
    → HasRuleValue text before number value after stop → HasRuleValue other before number plain after stop → IsWithoutScale value plain
    → skip_text offset text ≡ Ok series → Omits series.rule → StatesThat offset other series
