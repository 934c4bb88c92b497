use Rattle.std.proofs.Common.{◌≡◌, ◌++◌}
use Rattle.rr_page.specs.Month.{out_html}
use Rattle.rr_page.proofs.month.put_out_cells.Given as goal

-- so many are put
abbrev pub invariant-loop : goal.invariant-loop
invariant-loop l = l.page ≡ l.fn.page ++ out_html l.counter
