-- Whether the rules of a series fit its start (RFC 5545, section 3.3.10 on UNTIL, and section 3.8.5.3 on DTSTART).
use Rattle.std.specs.Prelude.{◌≡◌, ℕ, suc, if◌then◌else◌, Option, None, Some, ⊤, List, [], ◌∷◌, All, ℤ, ◌≤ℤ◌, int_lt}
use Rattle.std.specs.Option.{option_or}
use Rattle.rr_model.specs.Series.Validity.{IsValidSeries}
use Rattle.rr_model.specs.Rule.Chosen.{is_chosen, IsSynchronised}
use Rattle.rr_model.specs.declared.kind.Kind.{Kind}
use Rattle.rr_model.specs.declared.kind.Kind.TheVariants.{Days, Moments}
use Rattle.rr_model.specs.declared.refusal.Refusal.{Refusal}
use Rattle.rr_model.specs.declared.refusal.Refusal.TheVariants.{UntilKind, UntilBeforeStart, NotSynchronised}
use Rattle.rr_model.specs.declared.rule.End.{End}
use Rattle.rr_model.specs.declared.rule.End.TheVariants.{Until, Both}
use Rattle.rr_model.specs.declared.rule.Rule.{Rule}
use Rattle.rr_model.specs.declared.rule.Series.{Series}

-- ---- why a series is refused

-- why an UNTIL is refused beside a start, if it is: its kind is another, or otherwise it is earlier
abbrev pub until_refusal : Kind → ℤ → Kind → ℤ → Option Refusal
until_refusal Days start Days at = if int_lt at start then Some UntilBeforeStart else None
until_refusal Moments start Moments at = if int_lt at start then Some UntilBeforeStart else None
until_refusal kind start other at = Some UntilKind

-- why the end of a rule is refused beside its start, if it is
abbrev pub end_refusal : Kind → ℤ → End → Option Refusal
end_refusal kind start (Until other at) = until_refusal kind start other at
end_refusal kind start (Both other at count) = until_refusal kind start other at
end_refusal kind start end = None

-- why a rule is refused by its choice, if it is: it does not choose its start
abbrev pub choice_refusal : ℕ → Kind → ℤ → Rule → Option Refusal
choice_refusal number kind start rule =
    if is_chosen rule kind start start then None else Some (NotSynchronised number)

-- why the rule of this number is refused, if it is: its end is judged first, then its choice
abbrev pub rule_refusal : ℕ → Kind → ℤ → Rule → Option Refusal
rule_refusal number kind start rule = option_or (end_refusal kind start rule.end) (choice_refusal number kind start rule)

-- why some of the rules, numbered on from `number`, is refused, if one is: the first refused rule decides
abbrev pub rules_refusal : ℕ → Kind → ℤ → List Rule → Option Refusal
rules_refusal number kind start [] = None
rules_refusal number kind start (rule ∷ rules) = option_or (rule_refusal number kind start rule) (rules_refusal (suc number) kind start rules)

-- why the end of some excluded rule is refused, if one is: the first decides; an excluded rule need not choose the start
abbrev pub ends_refusal : Kind → ℤ → List Rule → Option Refusal
ends_refusal kind start [] = None
ends_refusal kind start (rule ∷ rules) = option_or (end_refusal kind start rule.end) (ends_refusal kind start rules)

-- why a series is refused, if it is: its rules, numbered from 1, are judged before its excluded rules
abbrev pub first_refusal : Series → Option Refusal
first_refusal series = option_or (rules_refusal 1 series.kind series.start series.rules) (ends_refusal series.kind series.start series.excluded)

-- ---- what is sound

-- an UNTIL is of the start's kind and not before it
abbrev pub EndsNotBefore : Kind → ℤ → End → Type 0
EndsNotBefore kind start (Until other at) = (other ≡ kind) × (start ≤ℤ at)
EndsNotBefore kind start (Both other at count) = (other ≡ kind) × (start ≤ℤ at)
EndsNotBefore kind start end = ⊤

-- the rule chooses the start, and does not end before it
pub record FitsStart (kind : Kind) (start : ℤ) (rule : Rule) : Type 0 where
  pub synchronised : IsSynchronised rule kind start
  pub end : EndsNotBefore kind start rule.end

-- the series is valid, each rule fits the start, and no excluded rule ends before it
pub record IsSound (series : Series) : Type 0 where
  pub valid : IsValidSeries series
  pub rules : All (FitsStart series.kind series.start) series.rules
  pub excluded : All (λ rule. EndsNotBefore series.kind series.start rule.end) series.excluded
