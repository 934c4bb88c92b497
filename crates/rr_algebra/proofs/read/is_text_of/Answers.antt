use Rattle.std.proofs.Common.{sym, ap, ◌∙◌}
use Rattle.std.proofs.lemmas.Bool.{false≢true}
use Rattle.rr_canon.specs.Least.{least_sketch}
use Rattle.rr_canon.specs.Versions.{text_in}
use Rattle.rr_algebra.proofs.ReadableLemmas.{none_before}
use Rattle.rr_algebra.proofs.read.is_text_of.Goals as goal

pub describe_in-requires : goal.describe_in-requires
describe_in-requires c =
    let l = c.args.least.now in none_before (least_sketch l) l.first l.first_is (c.has_read_days-within.ensures.0 c.if-not-within.false)

pub returns-then-not-within : goal.returns-then-not-within
returns-then-not-within c = (
  λ t. absurd (false≢true t),
  λ h. absurd (false≢true (sym c.if-not-within.true ∙ c.has_read_days-within.ensures.1 h.0)),
)

pub returns : goal.returns
returns c =
    let written =
    c.as_slice.ensures.value ∙ c.in_ok-printed.ensures ∙ ap (λ v. text_in v (least_sketch c.args.least.now)) c.version_of-version.ensures in (
      λ t. (c.has_read_days-within.ensures.0 c.if-not-within.false, sym (c.is_same_text.ensures.0 t) ∙ written),
      λ h. c.is_same_text.ensures.1 (written ∙ sym h.1),
    )
