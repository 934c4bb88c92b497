use Rattle.std.specs.Prelude.{drop}
use Rattle.rr_page.proofs.PageLemmas.{IsSoFar}
use Rattle.rr_page.proofs.print.put_lines.Given as goal

-- the others are left, of which so many may be shown
abbrev pub invariant-loop-line : goal.invariant-loop-line
invariant-loop-line g l =
    IsSoFar (g.A.EventFile.stated l.a) (g.B.EventFile.stated l.b) l.lines l.fn.page l.left (drop l.line-index l.lines) l.page
