use Rattle.std.proofs.Common.{◌∙◌, subst, to_z-of_z}
use Rattle.std.specs.List.Sorted.{IsPermutation}
use Rattle.rr_offsets.proofs.TableLemmas.{in_order}
use Rattle.rr_offsets.proofs.changes.moments_of.Goals as goal

pub returns : goal.returns
returns c =
    let sorted = c.sort_unstable.new.self.items in
    let same = subst (λ onsets. IsPermutation onsets sorted) c.in_ok-onsets.ensures c.sort_unstable.ensures.permutation in
    let e = rw (to_z-of_z c.ranges.end, c.as_slice.ensures.value, c.new-moments.ensures) at c.in_ok-put_onsets.ensures in
    e ∙ in_order c.args.end c.args.tables.now sorted same
