use Rattle.std.specs.Prelude.{◌≡◌, ◌++◌, drop}
use Rattle.rr_page.specs.Sections.{each_undecided_html}
use Rattle.rr_page.specs.declared.class.TheConstants.{MOST_EVENTS}
use Rattle.rr_page.proofs.sections.put_each_undecided.Given as goal

-- the others are left, of which so many may be shown
abbrev pub invariant-loop-line : goal.invariant-loop-line
invariant-loop-line l =
    l.page ++ each_undecided_html l.left (drop l.line-index l.lines) ≡ l.fn.page ++ each_undecided_html MOST_EVENTS l.lines
