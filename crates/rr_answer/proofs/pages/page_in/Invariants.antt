use Rattle.std.proofs.Common.{◌≡◌, drop}
use Rattle.rr_answer.specs.Pages.{page_in}
use Rattle.rr_answer.proofs.pages.page_in.Given as goal

-- no page so far has the name
abbrev pub invariant-loop-page : goal.invariant-loop-page
invariant-loop-page l = page_in l.name l.pages ≡ page_in l.name (drop l.page-index l.pages)
