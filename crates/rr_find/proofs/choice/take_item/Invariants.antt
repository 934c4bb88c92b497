use Rattle.std.specs.Prelude.{◌≡◌, ◌<◌, ◌≤◌, if◌then◌else◌, get_or, ℕ}
use Rattle.rr_family.specs.Sorts.{has_sort}
use Rattle.rr_find.specs.Counted.{HasFewDays}
use Rattle.rr_find.proofs.choice.take_item.Given as goal

-- the sorts so far are taken, and the others are as they were
abbrev pub invariant-loop-sort : goal.invariant-loop-sort
invariant-loop-sort l =
    ((k : ℕ) → k < l.sort → get_or l.left k 0 ≡ if has_sort l.kind k l.index then 0 else get_or l.initial.left k 0)
    × ((k : ℕ) → l.sort ≤ k → get_or l.left k 0 ≡ get_or l.initial.left k 0)
    × HasFewDays l.left
