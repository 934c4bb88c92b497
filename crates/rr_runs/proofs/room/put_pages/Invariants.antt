use Rattle.std.proofs.Common.{◌≡◌, ◌+◌, ◌/◌, ◌%◌, ◌++◌, length}
use Rattle.rr_runs.specs.Pages.{ArePages, IsGrown, row_of_pages}
use Rattle.rr_runs.proofs.room.put_pages.Given as goal

-- the numbers so far stand in pages, and those that are left fill pages
abbrev pub invariant-loop-left : goal.invariant-loop-left
invariant-loop-left l =
    IsGrown l.initial.pool.items l.pool.items
    × IsGrown l.initial.pages.items l.pages.items
    × ArePages l.pool.items l.pages.items
    × (row_of_pages l.pool.items l.pages.items ++ l.left ≡ row_of_pages l.initial.pool.items l.initial.pages.items ++ l.numbers)
    × (length l.left % 63 ≡ 0)
    × (length l.pages.items + length l.left / 63 ≡ length l.initial.pages.items + length l.numbers / 63)

abbrev pub decreases-loop-left : goal.decreases-loop-left
decreases-loop-left l = length l.left
