use Rattle.std.proofs.Common.{◌<◌, ◌≤◌, ◌-◌, ℕ, get_or, length}
use Rattle.rr_runs.specs.Pages.{IsZeroPage}
use Rattle.rr_runs.proofs.pool.zero_pages.Given as goal

-- the pages that were counted have 0 alone
abbrev pub invariant-loop-count : goal.invariant-loop-count
invariant-loop-count l = (l.count ≤ length l.pages) × ((k : ℕ) → k < l.count → IsZeroPage l.pool (get_or l.pages k 0))

abbrev pub decreases-loop-count : goal.decreases-loop-count
decreases-loop-count l = length l.pages - l.count
