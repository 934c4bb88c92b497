use Rattle.std.specs.Prelude.{◌≡◌, ◌++◌, drop}
use Rattle.rr_page.specs.Month.{each_month_html}
use Rattle.rr_page.proofs.month.put_each_month.Given as goal

-- the others are left
abbrev pub invariant-loop-month : goal.invariant-loop-month
invariant-loop-month l = l.page ++ each_month_html (drop l.month-index l.months) ≡ l.fn.page ++ each_month_html l.months
