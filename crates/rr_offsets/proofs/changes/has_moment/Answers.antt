use Rattle.std.proofs.Common.{◌∙◌, ap, to_z-of_z}
use Rattle.rr_model.specs.Rule.Candidate.{lists}
use Rattle.rr_offsets.proofs.SearchLemmas.{searched}
use Rattle.rr_offsets.proofs.changes.has_moment.Goals as goal

pub returns : goal.returns
returns c =
    c.is_ok.ensures.value
    ∙ searched c.as_slice.result.now c.args.at c.binary_search.result c.as_slice.ensures.rises c.binary_search.ensures.bound
    (rw (to_z-of_z c.ranges.at) at c.binary_search.ensures.position)
    ∙ ap (λ xs. lists xs c.args.at) c.as_slice.ensures.value
