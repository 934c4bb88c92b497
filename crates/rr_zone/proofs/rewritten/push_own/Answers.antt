use Rattle.std.proofs.Common.{refl}
use Rattle.rr_zone.proofs.RewrittenLemmas.{line, own-put}
use Rattle.rr_zone.proofs.rewritten.push_own.Goals as goal

pub returns-clause-value : goal.returns-clause-value
returns-clause-value c =
    own-put c.push_rewritten.result c.args.out.now.items c.push_rewritten.new.out.items c.args.text.now c.args.bytes.now c.as_slice.result.now
    (line c.args.clock.now c.args.others.now c.args.name c.args.is_instance c.args.text.now) c.args.blanks
    (rw (c.as_slice.ensures.value, c.in_ok-push_event_line.ensures.value, c.new-new.ensures.items) refl) c.push_rewritten.ensures
