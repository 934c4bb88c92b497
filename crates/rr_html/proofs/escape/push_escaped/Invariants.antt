use Rattle.std.proofs.Common.{◌≡◌, ◌++◌, drop}
use Rattle.rr_html.specs.Markup.{IsMarkup, html_text}
use Rattle.rr_html.proofs.escape.push_escaped.Given as goal

-- the bytes from here on are left, and what is there already is markup
abbrev pub invariant-loop-byte : goal.invariant-loop-byte
invariant-loop-byte l =
    (l.out.items ++ html_text (drop l.byte-index l.text) ≡ l.fn.out.items ++ html_text l.text) × (IsMarkup l.fn.out.items → IsMarkup l.out.items)
