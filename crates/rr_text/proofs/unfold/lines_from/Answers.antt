use Rattle.std.proofs.Common.{◌≡◌, ◌∙◌, ◌+◌, sym}
use Rattle.rr_text.proofs.UnfoldLemmas.{no_lines, all_taken}
use Rattle.rr_text.proofs.unfold.lines_from.Goals as goal

pub returns-in_default : goal.returns-in_default
returns-in_default c = c.new-done.ensures ∙ no_lines c.args.keep_blank c.args.first c.args.bytes.now c.in_default.ensures

pub returns : goal.returns
returns c =
    c.in_ok-put.ensures.ok
    ∙ all_taken c.args.keep_blank (c.loop-text.number + 1) _ c.loop-text.rest.now _ c.in_default-take_line.ensures c.loop-text.invariant.so_far
