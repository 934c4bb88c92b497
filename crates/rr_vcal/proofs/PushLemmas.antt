-- Lines that are written value by value.
use Rattle.std.proofs.Common.{◌≡◌, ℕ, ◌+◌, List, ◌++◌, ℤ, refl}
use Rattle.std.specs.Prelude.{codes}
use Rattle.rr_model.specs.Text.Written.{lines_of}
use Rattle.rr_model.specs.Vcal.Written.{vcal_written}
use Rattle.rr_model.specs.declared.vcal.VRule.{VRule}
use Rattle.rr_model.specs.declared.vcal.VSeries.{VSeries}
use Rattle.rr_vcal.specs.Writing.{vcal_date_line, vcal_rule_line}

-- the lines of a series, one after the other
pub series_written : (series : VSeries) (a b x c d : List ℕ) (rules excluded : List VRule) (plus minus : List ℤ) → rules ≡ series.rules
    → excluded ≡ series.excluded → plus ≡ series.plus → minus ≡ series.minus → a ≡ vcal_date_line (codes "DTSTART") series.kind series.start
    → b ≡ a ++ lines_of (vcal_rule_line (codes "RRULE")) rules → x ≡ b ++ lines_of (vcal_rule_line (codes "EXRULE")) excluded
    → c ≡ x ++ lines_of (vcal_date_line (codes "RDATE") series.kind) plus → d ≡ c ++ lines_of (vcal_date_line (codes "EXDATE") series.kind) minus
    → d ≡ vcal_written series
unfolding vcal_written
series_written series a b x c d rules excluded plus minus er ex ep em ea eb eo ec ed = rw (ed, ec, eo, eb, ea, er, ex, ep, em) refl
