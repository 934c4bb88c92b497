use Rattle.std.proofs.Common.{◌≡◌, ◌++◌, length}
use Rattle.rr_runs.proofs.pages.Pages.push_all.Given as goal

-- the numbers so far and those that are left are all
abbrev pub invariant-loop-left : goal.invariant-loop-left
invariant-loop-left l = l.self ++ l.left ≡ l.initial.self ++ l.numbers

abbrev pub decreases-loop-left : goal.decreases-loop-left
decreases-loop-left l = length l.left
