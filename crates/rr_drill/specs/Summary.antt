-- How many verdicts on the pairs of a list of series are yes.
use Rattle.std.specs.Prelude.{◌≡◌, ◌*◌, ◌-◌, ◌/◌, List, length}
use Rattle.rr_model.specs.Moment.{Occurrences}
use Rattle.rr_model.specs.Series.Occurrences.{Occurs}
use Rattle.rr_model.specs.Sets.Verdict.{IsDisjointVerdict, IsEqualVerdict, IsWithinVerdict}
use Rattle.rr_model.specs.declared.rule.Series.{Series}
use Rattle.rr_model.specs.declared.verdict.Verdict.TheVariants.{Yes}
use Rattle.rr_drill.specs.Counting.{IsCountOfPairs, IsCountOfOrderedPairs}
use Rattle.rr_drill.specs.declared.summary.Summary.{Summary}

-- Of a list whose members each have occurrences: how many there are and how many unordered pairs of different places, the
-- unordered pairs whose verdict of equality is yes, the ordered pairs of inclusion, and the unordered pairs of disjointness.
pub record IsSummaryOf {X : Type 0} (occurs : X → Occurrences) (list : List X) (summary : Summary) : Type 0 where
  pub series : summary.series ≡ length list
  pub pairs : summary.pairs ≡ length list * (length list - 1) / 2
  pub equal : IsCountOfPairs (λ a b. IsEqualVerdict (occurs a) (occurs b) Yes) list summary.equal
  pub within : IsCountOfOrderedPairs (λ a b. IsWithinVerdict (occurs a) (occurs b) Yes) list summary.within
  pub disjoint : IsCountOfPairs (λ a b. IsDisjointVerdict (occurs a) (occurs b) Yes) list summary.disjoint

-- the summary of a list of series
abbrev pub IsSummary : List Series → Summary → Type 0
IsSummary list summary = IsSummaryOf Occurs list summary

-- A list of series has one summary at most.
abbrev pub SummaryIsOne : Type 0
SummaryIsOne = (list : List Series) (a b : Summary) → IsSummary list a → IsSummary list b → a ≡ b
