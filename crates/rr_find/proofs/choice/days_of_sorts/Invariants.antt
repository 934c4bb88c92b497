use Rattle.std.specs.Prelude.{◌≡◌, ◌*◌, ◌≤◌, if◌then◌else◌, get_or}
use Rattle.rr_family.specs.Sorts.{has_sort}
use Rattle.rr_family.specs.Tally.{sum_below}
use Rattle.rr_find.proofs.choice.days_of_sorts.Given as goal

-- the days of the sorts so far
abbrev pub invariant-loop-sort : goal.invariant-loop-sort
invariant-loop-sort l =
    (l.days ≡ sum_below l.sort (λ sort. if has_sort l.kind sort l.index then get_or l.counts sort 0 else 0)) × (l.days ≤ 4_000_000_000 * l.sort)
