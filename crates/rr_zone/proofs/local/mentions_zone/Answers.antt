use Rattle.std.proofs.Common.{sym, ◌∙◌}
use Rattle.rr_zone.proofs.MentionLemmas.{found_behind, found_here, no_letter}
use Rattle.rr_zone.proofs.local.mentions_zone.Goals as goal

pub returns-then-begins_zone : goal.returns-then-begins_zone
returns-then-begins_zone c =
    found_here c.loop-index.rest.now c.args.text.now c.in-Some.index c.in-Some.ensures
    (rw c.rest_from.ensures at (sym c.begins_zone.ensures ∙ c.if-begins_zone.true)) c.loop-index.invariant

pub loop-index-preserved : goal.loop-index-preserved
loop-index-preserved c =
    rw c.behind-rest.ensures
    (found_behind c.loop-index.rest.now c.args.text.now c.in-Some.index c.in-Some.ensures
    (rw c.rest_from.ensures at (sym c.begins_zone.ensures ∙ c.if-begins_zone.false)) c.loop-index.invariant)

pub returns : goal.returns
returns c = sym (no_letter c.loop-index.rest.now c.in_default.ensures) ∙ c.loop-index.invariant
