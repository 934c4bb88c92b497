-- The counts of a report, field by field.
use Rattle.std.proofs.Common.{◌≡◌, ◌∙◌, ℕ, List, length, ap}
use Rattle.rr_model.specs.declared.verdict.Side.TheVariants.{A, B}
use Rattle.rr_trip.specs.Counts.{count_matched, count_said, counts_of, differs, is_alike, is_equal, is_only, is_refused, is_unsure}
use Rattle.rr_trip.specs.declared.report.Counts.{Counts}
use Rattle.rr_trip.specs.declared.report.ReportLine.{ReportLine}

pub counts-same : (given lines : List ReportLine) (equal differ only_a only_b refused zone alike matched : ℕ) → given ≡ lines → equal ≡ count_said is_equal given
    → differ ≡ count_said differs given → only_a ≡ count_said (is_only A) given → only_b ≡ count_said (is_only B) given → refused ≡ count_said is_refused given
    → zone ≡ count_said is_unsure given → alike ≡ count_said is_alike given → matched ≡ count_matched given
    → ◌≡◌ {A = Counts} (record {
      events = length given;
      equal = equal;
      differs = differ;
      only_a = only_a;
      only_b = only_b;
      refused = refused;
      zone = zone;
      alike = alike;
      matched = matched;
    })
    (counts_of lines)
counts-same given lines equal differ only_a only_b refused zone alike matched same e2 e3 e4 e5 e6 e7 e8 e9 =
    (λ i. record {
      events = length given;
      equal = e2 i;
      differs = e3 i;
      only_a = e4 i;
      only_b = e5 i;
      refused = e6 i;
      zone = e7 i;
      alike = e8 i;
      matched = e9 i;
    })
    ∙ ap counts_of same
