use Rattle.std.specs.Prelude.{◌≡◌, ◌++◌, drop}
use Rattle.rr_page.specs.Sections.{items_html}
use Rattle.rr_page.proofs.sections.put_items.Given as goal

-- the others are left
abbrev pub invariant-loop-line : goal.invariant-loop-line
invariant-loop-line l = l.page ++ items_html l.class (drop l.line-index l.lines) ≡ l.fn.page ++ items_html l.class l.lines
