use Rattle.std.specs.Prelude.{◌≡◌, ◌++◌, drop}
use Rattle.rr_page.specs.Month.{cells_html}
use Rattle.rr_page.proofs.month.put_cells.Given as goal

-- the others are left
abbrev pub invariant-loop-days : goal.invariant-loop-days
invariant-loop-days l = l.page ++ cells_html l.weekday l.days (drop l.days l.signs) ≡ l.fn.page ++ cells_html l.weekday 0 l.signs
